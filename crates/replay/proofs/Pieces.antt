-- How a piece grows by a line, and a place goes on.
use Rattle.std.specs.Prelude.{Option, Some, None}
use Prim.Native.Nat.{ℕ, suc, ◌+◌, ◌-◌, ◌≤◌, ◌<◌}
use mathlib.Core.Path.{◌≡◌, refl, sym, ap, ◌∙◌}
use mathlib.Core.Bool.{true, false}
use mathlib.Core.List.{List, ◌++◌, append-nil, append_assoc}
use native.Mathlib.Omega.{arith}
use borrow.Author.Tests.{ltb-false}
use lib.ListN.{length, take, drop, length-take, length-append, length-replicate, take-append-drop}
use lib.Seq.{paste, take-paste, take-take, take-append-add, length-paste}
use Rattle.manager.specs.declared.State.{State}
use Rattle.manager.specs.State.{view, Sound}
use Rattle.events.specs.Events.{too_long}
use Rattle.listing.specs.declared.Line.{Line}
use Rattle.listing.specs.Listing.{header_text}
use Rattle.listing.specs.Written.{text_of, Written}
use Rattle.replay.specs.declared.Stepped.{Stepped}
use Rattle.replay.specs.declared.piece.Place.{Place}
use Rattle.replay.specs.Replay.{file_line, unopened, listing_of, Steps}
use Rattle.replay.specs.Pieces.{rest, Within, Ready, Room, Piece, Onward}
use Rattle.replay.proofs.Lines.{Later, later-next, step_lines}

-- a line that holds a text has 64 bytes
written-room : {text : List ℕ} {l : Line} → Written text l → length l.bytes ≡ 64
written-room {text} {l} w =
    let whole : length l.bytes ≡ length (text_of l) + length (drop l.len l.bytes) = ap length (sym (take-append-drop l.len l.bytes)) ∙ length-append (text_of l) (drop l.len l.bytes) in
    let head : length (text_of l) ≡ l.len = ap length w.is ∙ sym w.len in
    let tail : length (drop l.len l.bytes) ≡ 64 - l.len = ap length w.rest ∙ length-replicate (64 - l.len) 0 in
    omega (arith, whole, head, tail, w.within)

-- ---- a line behind a piece
module _ (out : List ℕ) (room : Room out) (at : ℕ) (fits : at + 64 ≤ 65_536) {text : List ℕ} {l : Line} (w : Written text l) where
  pub grown-room : Room (paste out at l.bytes 64)
  grown-room = length-paste out at l.bytes 64 (omega arith) (omega (arith, written-room w)) ∙ room

  pub grown-text : take (at + l.len) (paste out at l.bytes 64) ≡ take at out ++ text
  grown-text =
      let long : 64 ≤ length l.bytes = omega (arith, written-room w) in
      let before : at ≤ length out = omega arith in
      let head : length (take at out) ≡ at = simp length-take (omega arith) in
      sym (take-take (at + l.len) (at + 64) (paste out at l.bytes 64) (omega (arith, w.within))) ∙ ap (take (at + l.len)) (take-paste out at l.bytes 64 before long) ∙ ap (λ (k : ℕ). take (k + l.len) (take at out ++ take 64 l.bytes)) (sym head) ∙ take-append-add (take at out) (take 64 l.bytes) l.len ∙ ap (λ (t : List ℕ). take at out ++ t) (take-take l.len 64 l.bytes w.within ∙ w.is)

-- ---- one step
-- the place after it
abbrev pub stood : Place → Stepped → Place
stood p r = record { state = r.state; at = r.next; first = false; number = p.number + 1; len = p.len + r.line.len }

module _ (file : List ℕ) (p : Place) (ready : Ready file p) {at : ℕ} (here : p.at ≡ Some at) where
  module _ (r : Stepped) (h : Steps p.state file at p.first p.number r) where
    later-place : {n : ℕ} → r.next ≡ Some n → Later file at n
    later-place on = later-next file at p.first (sym h.next ∙ on)

    pub step-onward : Onward p (stood p r)
    step-onward to on = (at, here, (later-place on).onward)

    within-next : (n : ℕ) → r.next ≡ Some n → Within file n (p.number + 1)
    within-next n on =
        let w = ready.within at here in
        let l = later-place on in
        record { short = w.short; inside = l.within; numbered = omega (arith, w.numbered, l.onward) }

    pub step-piece : (out : List ℕ) → Room out → p.len + 64 ≤ 65_536 → Piece file (take p.len out ++ rest file p) (paste out p.len r.line.bytes 64) (stood p r)
    step-piece out room fits =
        let text = grown-text out room p.len fits h.line ∙ ap (λ (t : List ℕ). take p.len out ++ t) (sym h.line.is) in
        record {
          ready = record { sound = h.sound; within = within-next };
          room = grown-room out room p.len fits h.line;
          fits = omega (arith, h.line.within);
          is = rw here (ap (λ (t : List ℕ). t ++ rest file (stood p r)) text ∙ append_assoc (take p.len out) (text_of r.line) (rest file (stood p r)) ∙ ap (λ (t : List ℕ). take p.len out ++ t) (sym (step_lines h)));
        }

-- ---- the lines that fill a piece
pub record Filling (file text : List ℕ) (from : Option ℕ) (out : List ℕ) (q : Place) : Type 0 where
  pub piece : Piece file text out q
  pub onward : (b : ℕ) → q.at ≡ Some b → (a : ℕ) × (from ≡ Some a) × (a ≤ b)
  pub moved : (b : ℕ) → q.at ≡ Some b → 0 < q.len → (a : ℕ) × (from ≡ Some a) × (a < b)

-- what is left to read, and one; nothing at the end
abbrev pub to_read : List ℕ → Option ℕ → ℕ
to_read file (Some at) = suc (length file - at)
to_read file None = 0

pub reads-less : (file : List ℕ) (p r : Place) {from : ℕ} → p.at ≡ Some from → Ready file r → Onward p r → to_read file r.at < to_read file p.at
reads-less file p r {from} here ready on = rw here (go r.at refl)
  where
    go : (o : Option ℕ) → r.at ≡ o → to_read file o < suc (length file - from)
    go (Some to) e =
        let (a, is, less) = on to e in
        let same : a ≡ from = cc in
        let w = ready.within to e in
        omega (arith, w.inside, less)
    go None e = omega arith

-- ---- the first piece
module _ (file out : List ℕ) (room : Room out) {h : Line} (w : Written header_text h) where
  pub headed-room : Room (paste out 0 h.bytes 64)
  headed-room = grown-room out room 0 (omega arith) w

  headed-text : take h.len (paste out 0 h.bytes 64) ≡ header_text
  headed-text =
      let same : h.len ≡ 0 + h.len = omega arith in
      ap (λ (k : ℕ). take k (paste out 0 h.bytes 64)) same ∙ grown-text out room 0 (omega arith) w

  module _ (s : State) (sound : Sound s) (fresh : view s ≡ unopened) where
    pub headed : too_long file ≡ false → Piece file (listing_of file) (paste out 0 h.bytes 64) (record { state = s; at = Some 0; first = true; number = 1; len = h.len })
    unfolding listing_of
    headed short = record {
      ready = record { sound = sound; within = λ at. λ on. let same : 0 ≡ at = cc in record { short = ltb-false 65_536 (length file) short; inside = omega arith; numbered = omega arith } };
      room = headed-room;
      fits = omega (arith, w.within);
      is = rw (short, headed-text, fresh) refl;
    }

    pub refused : too_long file ≡ true → {l : Line} → Written (file_line 1 24) l → Piece file (listing_of file) (paste (paste out 0 h.bytes 64) h.len l.bytes 64) (record { state = s; at = None; first = true; number = 1; len = h.len + l.len })
    unfolding listing_of
    refused long {l} v = record {
      ready = record { sound = sound; within = λ at. λ on. absurd (let o : ◌≡◌ {A = ℕ} 0 1 = cc in omega arith) };
      room = grown-room (paste out 0 h.bytes 64) headed-room h.len (omega (arith, w.within)) v;
      fits = omega (arith, w.within, v.within);
      is = rw long (append-nil _ ∙ grown-text (paste out 0 h.bytes 64) headed-room h.len (omega (arith, w.within)) v ∙ ap (λ (t : List ℕ). t ++ file_line 1 24) headed-text);
    }

-- the bytes of a piece are there
pub piece_bytes : {file text out : List ℕ} {r : Place} → Piece file text out r → r.len ≡ length (take r.len out)
piece_bytes {file} {text} {out} {r} h = simp length-take (omega (arith, h.room, h.fits))
