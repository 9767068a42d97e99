-- Laws of a map that changes: it grows by no record, by one list after another, by one record's bit; it loses one record's bit.
use Prim.Native.Nat.{ℕ, ◌*◌, ◌/◌, ◌%◌, ◌^◌, ◌<◌}
use mathlib.Core.Path.{◌≡◌, refl, sym, ap, ◌∙◌}
use mathlib.Core.Bool.{Bool, true, false, ◌&&◌, ◌||◌, not}
use mathlib.Core.List.{List, [], ◌∷◌, ◌++◌}
use native.Mathlib.Omega.{arith}
use lib.Dec.{eqb}
use lib.ListN.{length, get_or, set}
use lib.Seq.{get_or-set_same, get_or-set_other}
use lib.Bits.{bit_or, bit_xor}
use borrow.Author.Tests.{eqb-true, eqb-false, eq-eqb, ne_eqb}
use Rattle.rules.specs.Lists.{some}
use Rattle.rules.specs.Records.{member}
use Rattle.rules.proofs.Tests.{or_assoc, or-false, and-true}
use Rattle.rules.proofs.Lists.{some-append}
use Rattle.maps.specs.Maps.{bit_set, in_map, Grown, Without}
use Rattle.maps.proofs.Words.{or-bit, out-bit, mask-bit}

pub grown-none : (map : List ℕ) → Grown map [] map
unfolding member some
grown-none map = record { each = λ q. sym (or-false (in_map map q)) }

pub grown-more : {map xs next ys last : List ℕ} → Grown map xs next → Grown next ys last → Grown map (xs ++ ys) last
unfolding member
grown-more {map} {xs} {next} {ys} {last} a b = record {
  each = λ q. cc (a.each q, b.each q, or_assoc (in_map map q) (member q xs) (member q ys), some-append (λ (x : ℕ). eqb x q) xs ys);
}

-- two records of one word are told apart by their bits
one_word : (r q : ℕ) → r / 64 ≡ q / 64 → eqb (r % 64) (q % 64) ≡ eqb r q
one_word r q w = go (eqb r q) refl
  where
    go : (t : Bool) → eqb r q ≡ t → eqb (r % 64) (q % 64) ≡ t
    go true e = eq-eqb (r % 64) (q % 64) (ap (λ (x : ℕ). x % 64) (eqb-true r q e))
    go false e = ne_eqb (r % 64) (q % 64) (λ (s : r % 64 ≡ q % 64). eqb-false r q e (omega arith))

-- a word is stored in which each bit is a combination of the bit before and of whether it is the record's: so is each record
module _ (map : List ℕ) (r word : ℕ) (g : Bool → Bool → Bool) (none : (t : Bool) → g t false ≡ t) (law : (j : ℕ) → bit_set word j ≡ g (bit_set (get_or map (r / 64) 0) j) (eqb (r % 64) j)) (in-range : r / 64 < length map) where
  same_word : (q : ℕ) → r / 64 ≡ q / 64 → in_map (set map (r / 64) word) q ≡ g (in_map map q) (eqb r q)
  unfolding in_map
  same_word q w =
      let stored : get_or (set map (r / 64) word) (r / 64) 0 ≡ word = get_or-set_same map (r / 64) word 0 in-range in
      rw (← w, stored, law (q % 64), one_word r q w)

  other_word : (q : ℕ) → (r / 64 ≡ q / 64 → ⊥) → in_map (set map (r / 64) word) q ≡ g (in_map map q) (eqb r q)
  unfolding in_map
  other_word q n =
      let kept : get_or (set map (r / 64) word) (q / 64) 0 ≡ get_or map (q / 64) 0 = get_or-set_other map (r / 64) (q / 64) word 0 (λ e. n (sym e)) in
      let apart : eqb r q ≡ false = ne_eqb r q (λ e. n (ap (λ (x : ℕ). x / 64) e)) in
      rw (kept, apart) (sym (none (in_map map q)))

  word-stored : (q : ℕ) → in_map (set map (r / 64) word) q ≡ g (in_map map q) (eqb r q)
  word-stored q = go (eqb (r / 64) (q / 64)) refl
    where
      go : (t : Bool) → eqb (r / 64) (q / 64) ≡ t → in_map (set map (r / 64) word) q ≡ g (in_map map q) (eqb r q)
      go true e = same_word q (eqb-true (r / 64) (q / 64) e)
      go false e = other_word q (eqb-false (r / 64) (q / 64) e)

-- the word of a record's bit, as the code makes it
abbrev bit_of : ℕ → ℕ
bit_of r = 1 * 2 ^ (r % 64) % 2 ^ 64

bit-of : (r j : ℕ) → bit_set (bit_of r) j ≡ eqb (r % 64) j
bit-of r j = mask-bit (r % 64) j (omega arith)

pub grown-bit : (map : List ℕ) (r : ℕ) → r / 64 < length map → Grown map (r ∷ []) (set map (r / 64) (bit_or (get_or map (r / 64) 0) (bit_of r)))
unfolding member some
grown-bit map r h =
    let word = get_or map (r / 64) 0 in
    record {
      each = λ q. word-stored map r (bit_or word (bit_of r)) ◌||◌ or-false (λ j. or-bit word (bit_of r) j ∙ ap (λ (t : Bool). bit_set word j || t) (bit-of r j)) h q ∙ rw (or-false (eqb r q));
    }

pub without-bit : (map : List ℕ) (r : ℕ) → r / 64 < length map → Without map r (set map (r / 64) (bit_xor (bit_or (get_or map (r / 64) 0) (bit_of r)) (bit_of r)))
without-bit map r h =
    let word = get_or map (r / 64) 0 in
    record {
      each = λ q. word-stored map r (bit_xor (bit_or word (bit_of r)) (bit_of r)) (λ a b. a && not b) and-true (λ j. out-bit word (bit_of r) j ∙ ap (λ (t : Bool). bit_set word j && not t) (bit-of r j)) h q;
    }
