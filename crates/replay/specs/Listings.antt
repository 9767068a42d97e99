-- Stepping through a file gives the listing of the whole file, and so do its pieces.
use Rattle.std.specs.Prelude.{ℕ, ◌+◌, ◌≡◌, Bool, true, false, List, [], ◌++◌, take, Some, None}
use Rattle.manager.specs.declared.State.{State}
use Rattle.manager.specs.State.{view}
use Rattle.events.specs.Events.{too_long}
use Rattle.listing.specs.Listing.{header_text}
use Rattle.listing.specs.Written.{text_of}
use Rattle.replay.specs.declared.Stepped.{Stepped}
use Rattle.replay.specs.declared.piece.Place.{Place}
use Rattle.replay.specs.Replay.{unopened, listing_of, Steps}
use Rattle.replay.specs.Pieces.{rest, Piece}

-- ---- steps
-- a run of steps from a state, a position, whether it is the first record's, and the record's number: each is one that the
-- contract of `step` allows, the next begins where it left off, the last is the first that says to stop; with their lines
pub data Run (file : List ℕ) : State → ℕ → Bool → ℕ → List ℕ → Type 0 where
  stops :
      {s : State} {at : ℕ} {first : Bool} {number : ℕ} {r : Stepped} →
      Steps s file at first number r →
      r.next ≡ None →
      Run file s at first number (text_of r.line)
  goes :
      {s : State} {at : ℕ} {first : Bool} {number : ℕ} {r : Stepped} {next : ℕ} {text : List ℕ} →
      Steps s file at first number r →
      r.next ≡ Some next →
      Run file r.state next false (number + 1) text →
      Run file s at first number (text_of r.line ++ text)

-- from the state before the first record, behind the header, the lines are the listing
abbrev pub StepsList : Type 0
StepsList =
    (file : List ℕ) (s : State) (text : List ℕ) →
    too_long file ≡ false →
    view s ≡ unopened →
    Run file s 0 true 1 text →
    header_text ++ text ≡ listing_of file

-- ---- pieces, as the programs write them
-- the pieces from a place on, each one that the contract of `filled` allows, until there is no more
pub data Pieces (file : List ℕ) : Place → List ℕ → Type 0 where
  none :
      {p : Place} →
      p.at ≡ None →
      Pieces file p []
  also :
      {p r : Place} {out text : List ℕ} →
      Piece file (rest file p) out r →
      Pieces file r text →
      Pieces file p (take r.len out ++ text)

-- the first piece, and those behind it, are the listing of any file whatever
abbrev pub PiecesList : Type 0
PiecesList =
    (file out : List ℕ) (p : Place) (text : List ℕ) →
    Piece file (listing_of file) out p →
    Pieces file p text →
    take p.len out ++ text ≡ listing_of file
