-- The reads that are not written are put at the front of an array, one by one: what is put there, and what is still to come, are
-- together the law book's list.
use Rattle.std.specs.Prelude.{if◌then◌else◌}
use Prim.Native.Nat.{ℕ, ◌+◌, ◌-◌, ◌≤◌, ◌<◌}
use mathlib.Core.Path.{◌≡◌, sym, ap, ◌∙◌}
use mathlib.Core.Bool.{Bool, true, false, not}
use mathlib.Core.List.{List, [], ◌∷◌, ◌++◌, append-nil, append_assoc}
use native.Mathlib.Numerals.{add-one}
use native.Mathlib.Omega.{arith}
use lib.ListN.{length, get_or, take, drop, set, replicate, length-set, drop_of_length-le}
use lib.Seq.{drop-set-lt, take-suc-set, length-take-le}
use Rattle.rules.specs.Lists.{keep_if}
use Rattle.rules.specs.Records.{member, only_read}
use Rattle.rules.proofs.Steps.{list-step}
use Rattle.rules.proofs.Arrays.{rest-next}
use Rattle.entry.specs.Entry.{Kept}

-- the array's first k records are those of the first i reads that are not written, and the rest are zero
pub record Sifted (reads writes : List ℕ) (i k : ℕ) (array : List ℕ) : Type 0 where
  pub whole : length array ≡ 8
  pub first : take k array ++ only_read (drop i reads) writes ≡ only_read reads writes
  pub rest : drop k array ≡ replicate (8 - k) 0

module _ {reads writes : List ℕ} {i k : ℕ} {array : List ℕ} (s : Sifted reads writes i k array) (there : i < length reads) where
  -- the next read is put behind the others, or it is written and left out
  next : {b : Bool} → member (get_or reads i 0) writes ≡ b → only_read (drop i reads) writes ≡ (if not b then get_or reads i 0 ∷ only_read (drop (i + 1) reads) writes else only_read (drop (i + 1) reads) writes)
  unfolding only_read keep_if
  next e = ap (keep_if (λ (r : ℕ). not (member r writes))) (list-step reads i 0 there) ∙ simp e

  pub sifted-out : member (get_or reads i 0) writes ≡ true → Sifted reads writes (i + 1) k array
  sifted-out e = record {
    whole = s.whole;
    first = ap (λ (t : List ℕ). take k array ++ t) (sym (next e)) ∙ s.first;
    rest = s.rest;
  }

  pub sifted-in : k < 8 → member (get_or reads i 0) writes ≡ false → Sifted reads writes (i + 1) (k + 1) (set array k (get_or reads i 0))
  sifted-in fits e =
      let x = get_or reads i 0 in
      let later = only_read (drop (i + 1) reads) writes in
      let b : k < length array = omega (arith, s.whole) in
      let u : k < k + 1 = omega arith in
      record {
        whole = simp length-set s.whole;
        first = rw (add-one k) (ap (λ (t : List ℕ). t ++ later) (take-suc-set array k x b) ∙ append_assoc (take k array) (x ∷ []) later ∙ ap (λ (t : List ℕ). take k array ++ t) (sym (next e)) ∙ s.first);
        rest = drop-set-lt (k + 1) array k x u ∙ rest-next array k 8 0 fits s.rest;
      }

-- with no read left the array has them all
module _ {reads writes : List ℕ} {i k : ℕ} {array : List ℕ} (s : Sifted reads writes i k array) (end : length reads ≤ i) (fits : k ≤ 8) where
  all : take k array ≡ only_read reads writes
  unfolding only_read keep_if
  all = sym (append-nil (take k array)) ∙ rw (drop_of_length-le reads end) at s.first

  pub sifted-count : k ≡ length (only_read reads writes)
  sifted-count = let room : k ≤ length array = omega (arith, s.whole) in sym (length-take-le k array room) ∙ ap (λ (t : List ℕ). length t) all

  pub sifted-kept : Kept (only_read reads writes) array
  sifted-kept = let n = sym sifted-count in record { first = rw n all; rest = rw n s.rest }
