-- What the words of a map say of its records: the records of one word behind those below it, how many there are, two maps
-- together, and that a map is its records.
use Rattle.std.specs.Prelude.{if◌then◌else◌}
use Prim.Native.Nat.{ℕ, zero, suc, ◌+◌, ◌*◌, ◌/◌, ◌%◌, ◌≤◌, ◌<◌}
use mathlib.Core.Path.{◌≡◌, refl, sym, ap, ◌∙◌}
use mathlib.Core.Bool.{Bool, true, false}
use mathlib.Core.List.{List, [], ◌∷◌}
use native.Mathlib.Omega.{arith}
use lib.Dec.{ltb}
use lib.ListN.{length, get_or}
use lib.Seq.{ext_get_or}
use lib.Bits.{bit_or}
use borrow.Author.Tests.{ltb-true, ltb-false}
use Rattle.rules.specs.Clash.{how_many}
use Rattle.maps.specs.Maps.{bit_set, in_map, Words, clash_in, ClashBits, Union}
use Rattle.maps.proofs.Words.{or-bit, same_bits}

-- no record below n passes the test
abbrev pub NoneBelow : (ℕ → Bool) → ℕ → Type 0
NoneBelow test n = (q : ℕ) → q < n → test q ≡ false

-- where record q of word i is tested by bit q % 64 of a word w
module _ (test : ℕ → Bool) (i w : ℕ) (law : (q : ℕ) → q / 64 ≡ i → test q ≡ bit_set w (q % 64)) where
  pub up_to : (k : ℕ) → k ≤ 64 → ((j : ℕ) → j < k → bit_set w j ≡ false) → NoneBelow test (i * 64) → NoneBelow test (i * 64 + k)
  up_to k l none below q h = go (ltb q (i * 64)) refl
    where
      go : (b : Bool) → ltb q (i * 64) ≡ b → test q ≡ false
      go true e = below q (ltb-true q (i * 64) e)
      go false e =
          let g = ltb-false q (i * 64) e in
          let a : q / 64 ≡ i = omega arith in
          law q a ∙ none (q % 64) (omega arith)

  at-word : (k : ℕ) → k < 64 → test (i * 64 + k) ≡ bit_set w k
  at-word k l =
      let a : (i * 64 + k) / 64 ≡ i = omega arith in
      let b : (i * 64 + k) % 64 ≡ k = omega arith in
      law (i * 64 + k) a ∙ ap (bit_set w) b

  pub passes : (k : ℕ) → k < 64 → bit_set w k ≡ true → test (i * 64 + k) ≡ true
  passes k l e = at-word k l ∙ e

  count_word : (d : ℕ) → d ≤ 64 → how_many test (i * 64 + d) ≡ how_many (bit_set w) d + how_many test (i * 64)
  unfolding how_many
  count_word zero h = let e : i * 64 + 0 ≡ i * 64 = omega arith in rw e (omega arith)
  count_word (suc d) h =
      let e : i * 64 + suc d ≡ suc (i * 64 + d) = omega arith in
      ap (how_many test) e ∙ rw (at-word d (omega arith), count_word d (omega arith)) (omega arith)

pub in-word : (map : List ℕ) (i q : ℕ) → q / 64 ≡ i → in_map map q ≡ bit_set (get_or map i 0) (q % 64)
unfolding in_map
in-word map i q e = ap (λ (k : ℕ). bit_set (get_or map k 0) (q % 64)) e

-- a record clashes by the maps as its bit does by the words
pub clash-word : (reads writes written read : List ℕ) (i w : ℕ) → ClashBits (get_or reads i 0) (get_or writes i 0) (get_or written i 0) (get_or read i 0) w → (q : ℕ) → q / 64 ≡ i → clash_in reads writes written read q ≡ bit_set w (q % 64)
clash-word reads writes written read i w bits q e =
    rw (in-word reads i q e, in-word writes i q e, in-word written i q e, in-word read i q e) (sym (bits.each (q % 64)))

none-counted : (f : ℕ → Bool) → how_many f 0 ≡ 0
unfolding how_many
none-counted f = refl

-- the records of four words
pub all_words : (map : List ℕ) → ((how_many (bit_set (get_or map 0 0)) 64 + how_many (bit_set (get_or map 1 0)) 64) + how_many (bit_set (get_or map 2 0)) 64) + how_many (bit_set (get_or map 3 0)) 64 ≡ how_many (in_map map) 256
all_words map =
    let word : (i : ℕ) → how_many (in_map map) (i * 64 + 64) ≡ how_many (bit_set (get_or map i 0)) 64 + how_many (in_map map) (i * 64) = λ i. count_word (in_map map) i (get_or map i 0) (in-word map i) 64 (omega arith) in
    omega (arith, word 0, word 1, word 2, word 3, none-counted (in_map map))

-- tests that agree on the numbers below n pass as many
pub count_same : (f g : ℕ → Bool) (n : ℕ) → ((q : ℕ) → q < n → f q ≡ g q) → how_many f n ≡ how_many g n
unfolding how_many
count_same f g zero same = refl
count_same f g (suc n) same =
    let rest = count_same f g n (λ q (lt : q < n). same q (omega arith)) in
    ap (λ (t : Bool). (if t then 1 else 0) + how_many f n) (same n (omega arith)) ∙ ap (λ (m : ℕ). (if g n then 1 else 0) + m) rest

-- ---- two maps, word by word
abbrev or_words : List ℕ → List ℕ → List ℕ
or_words a b =
    bit_or (get_or a 0 0) (get_or b 0 0) ∷ bit_or (get_or a 1 0) (get_or b 1 0) ∷ bit_or (get_or a 2 0) (get_or b 2 0) ∷ bit_or (get_or a 3 0) (get_or b 3 0) ∷ []

or_word : (a b : List ℕ) (i : ℕ) → i < 4 → get_or (or_words a b) i 0 ≡ bit_or (get_or a i 0) (get_or b i 0)
or_word a b zero lt = refl
or_word a b (suc zero) lt = refl
or_word a b (suc (suc zero)) lt = refl
or_word a b (suc (suc (suc zero))) lt = refl
or_word a b (suc (suc (suc (suc i)))) lt = absurd (omega arith)

-- ---- two maps together, each word of which is that of both
pub union-words : (a b next : List ℕ) → ((i : ℕ) → i < 4 → get_or next i 0 ≡ bit_or (get_or a i 0) (get_or b i 0)) → Union a b next
unfolding in_map
union-words a b next each = record {
  each = λ q (lt : q < 256). ap (λ (w : ℕ). bit_set w (q % 64)) (each (q / 64) (omega arith)) ∙ or-bit (get_or a (q / 64) 0) (get_or b (q / 64) 0) (q % 64);
}

-- ---- a map is its records
pub map-told : {a b : List ℕ} → Words a → Words b → ((q : ℕ) → q < 256 → in_map a q ≡ in_map b q) → a ≡ b
map-told {a} {b} m n same =
    ext_get_or 0 a b (m.size ∙ sym n.size) (λ i (lt : i < length a). same_bits 64 (get_or a i 0) (get_or b i 0) (m.below i) (n.below i) (each i lt))
  where
    each : (i : ℕ) → i < length a → (k : ℕ) → k < 64 → bit_set (get_or a i 0) k ≡ bit_set (get_or b i 0) k
    each i lt k small =
        let q = i * 64 + k in
        let at : q / 64 ≡ i = omega arith in
        let bit : q % 64 ≡ k = omega arith in
        let inside : q < 256 = omega (arith, m.size) in
        ap (bit_set (get_or a i 0)) (sym bit) ∙ sym (in-word a i q at) ∙ same q inside ∙ in-word b i q at ∙ ap (bit_set (get_or b i 0)) bit
