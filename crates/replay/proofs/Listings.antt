-- Each step's line, and then the lines left: so the steps, and the pieces, are the listing.
use Prim.Native.Nat.{ℕ}
use mathlib.Core.Path.{◌≡◌, refl, sym, ap, ◌∙◌}
use mathlib.Core.Bool.{Bool}
use mathlib.Core.List.{List, ◌++◌, append-nil}
use lib.ListN.{take}
use Rattle.manager.specs.declared.State.{State}
use Rattle.manager.specs.State.{view}
use Rattle.listing.specs.Listing.{header_text}
use Rattle.listing.specs.Written.{text_of}
use Rattle.replay.specs.declared.piece.Place.{Place}
use Rattle.replay.specs.Replay.{lines_left, listing_of}
use Rattle.replay.specs.Pieces.{rest}
use Rattle.replay.specs.Listings.{Run, StepsList, Pieces, PiecesList}
use Rattle.replay.proofs.Lines.{step_lines}

run-lines : {file : List ℕ} {s : State} {at : ℕ} {first : Bool} {number : ℕ} {text : List ℕ} → Run file s at first number text → text ≡ lines_left file (view s) at first number
run-lines (Run.stops h end) = sym (step_lines h ∙ rw end (append-nil _))
run-lines (Run.goes {s} {at} {first} {number} {r} {next} {text} h on run) =
    ap (λ (t : List ℕ). text_of r.line ++ t) (run-lines run) ∙ sym (step_lines h ∙ rw on refl)

pub stepping : StepsList
unfolding listing_of
stepping file s text short fresh run =
    rw short (ap (λ (t : List ℕ). header_text ++ t) (run-lines run ∙ rw fresh refl))

pieces-rest : {file : List ℕ} {p : Place} {text : List ℕ} → Pieces file p text → text ≡ rest file p
pieces-rest (Pieces.none end) = rw end refl
pieces-rest (Pieces.also {p} {r} {out} {text} h more) =
    ap (λ (t : List ℕ). take r.len out ++ t) (pieces-rest more) ∙ h.is

pub written : PiecesList
written file out p text h more = ap (λ (t : List ℕ). take p.len out ++ t) (pieces-rest more) ∙ h.is
