-- How far a listing has been printed: its first bytes are written, and the next piece is ahead.
use Rattle.std.proofs.Common.{ℕ, ◌+◌, ◌*◌, ◌≤◌, ◌<◌, ◌≡◌, refl, sym, ap, ◌∙◌, subst, List, [], ◌++◌, append_assoc, length, take, length-append, arith, Option, Some, None, is_some, Err, true, true≢false}
use Rattle.std.proofs.lemmas.List.{take-append-le}
use Rattle.std.proofs.Math.Seq.{take-append-add}
use Rattle.std.specs.Io.KnownBytes.{Appends}
use Rattle.std.proofs.KnownBytes.{Appends-nil, Appends-trans}
use Rattle.replay.specs.declared.piece.Place.{Place}
use Rattle.replay.specs.Replay.{listing_of}
use Rattle.replay.specs.Pieces.{rest, Piece, Onward}
use Rattle.replay.specs.Prints.{Puts}
use Rattle.replay.proofs.Pieces.{piece_bytes}

-- what a writer that keeps its bytes had before and has now: so many bytes of the listing are between, and the piece in the
-- array goes on from there
pub record Ahead (file out : List ℕ) (before now : Option (List ℕ)) (p : Place) (done : ℕ) : Type 0 where
  pub bytes : List ℕ
  pub text : List ℕ
  pub piece : Piece file text out p
  pub counted : length bytes ≡ done
  pub others : bytes ++ text ≡ listing_of file
  pub put : Appends before now bytes
  -- a piece has at most 65,536 bytes, and a byte of the file is read for each but the first
  pub few : (at : ℕ) → p.at ≡ Some at → done ≤ 65_536 * at
  pub cap : done ≤ 65_536 * 65_537

pub first-ahead : {file out : List ℕ} {r : Place} (before : Option (List ℕ)) → Piece file (listing_of file) out r → Ahead file out before before r 0
first-ahead before h = record { bytes = []; text = listing_of _; piece = h; counted = refl; others = refl; put = Appends-nil before; few = λ at e. omega arith; cap = omega arith }

some_is : (o : Option ℕ) → is_some o ≡ true → (x : ℕ) × (o ≡ Some x)
some_is (Some x) e = (x, refl)
some_is None e = absurd (true≢false (sym e))

-- the listing is longer than what is written and some of the piece that is not
part-less : (written piece left whole : List ℕ) (n : ℕ) → written ++ (piece ++ left) ≡ whole → n < length piece → length written + n < length whole
part-less written piece left whole n e less = let whole' = ap length (sym e) in omega (arith, whole', length-append written (piece ++ left), length-append piece left)

-- what is written, and the bytes of the piece that are, are the listing's first
part-front : (written piece left whole : List ℕ) (n : ℕ) → written ++ (piece ++ left) ≡ whole → n ≤ length piece → written ++ take n piece ≡ take (length written + n) whole
part-front written piece left whole n e less =
    sym (ap (take (length written + n)) (sym e) ∙ take-append-add written (piece ++ left) n ∙ ap (λ (t : List ℕ). written ++ t) (take-append-le n piece left less))

module _ {file out : List ℕ} {before now : Option (List ℕ)} {p : Place} {done : ℕ} (h : Ahead file out before now p done) where
  abbrev piece : List ℕ
  piece = take p.len out

  joined : h.bytes ++ (piece ++ rest file p) ≡ listing_of file
  joined = ap (λ (t : List ℕ). h.bytes ++ t) h.piece.is ∙ h.others

  -- ---- part of the piece is written: some of the listing's first bytes, and not all
  module _ (n : ℕ) (less : n < length piece) where
    part-below : done + n < length (listing_of file)
    part-below = omega (arith, h.counted, part-less h.bytes piece (rest file p) (listing_of file) n joined less)

    pub part-put : {after : Option (List ℕ)} → Appends now after (take n piece) → Puts file before after (Err done)
    part-put {after} more = record {
      whole = tt;
      part = (done + n, omega arith, part-below, subst (Appends before after) (part-front h.bytes piece (rest file p) (listing_of file) n joined (omega (arith, less)) ∙ ap (λ (k : ℕ). take (k + n) (listing_of file)) h.counted) (Appends-trans _ _ _ _ _ h.put more));
    }

  -- ---- all of it is, and something is left: the next piece is ahead
  module _ (goes : is_some p.at ≡ true) {next : List ℕ} {r : Place} (k : Piece file (rest file p) next r) (on : Onward p r) where
    pub next-ahead : {after : Option (List ℕ)} → Appends now after piece → Ahead file next before after r (done + p.len)
    next-ahead more =
        let (at, here) = some_is p.at goes in
        record {
          bytes = h.bytes ++ piece;
          text = rest file p;
          piece = k;
          counted = omega (arith, h.counted, length-append h.bytes piece, piece_bytes h.piece);
          others = append_assoc h.bytes piece (rest file p) ∙ joined;
          put = Appends-trans _ _ _ _ _ h.put more;
          few = λ b e. let (from, is, less) = on b e in let same : from ≡ at = cc in omega (arith, h.few at here, h.piece.fits, less);
          cap = let w = h.piece.ready.within at here in omega (arith, h.few at here, h.piece.fits, w.inside, w.short);
        }
