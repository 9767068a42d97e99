-- Laws of the bits of a word: the word 0, two words combined, a word of one bit; its lowest bit, and how many are set.
use Rattle.std.specs.Prelude.{if◌then◌else◌}
use Prim.Native.Nat.{ℕ, zero, suc, ◌+◌, ◌-◌, ◌*◌, ◌/◌, ◌%◌, ◌^◌, ◌≤◌, ◌<◌, min, max}
use mathlib.Core.Path.{◌≡◌, refl, sym, ap, ◌∙◌}
use mathlib.Core.Bool.{Bool, true, false, ◌&&◌, ◌||◌, not}
use mathlib.Core.Logic.{⊎_elim}
use native.Mathlib.Nat.{pow-suc, div_self, div-eq_of_lt}
use native.Mathlib.Numerals.{one-add}
use native.Mathlib.Omega.{arith}
use lib.Dec.{eqb, lit<}
use lib.Arith.{lt-one, lt_of_le-ne, digits_mod}
use lib.Pow.{pow_pos, pow-lt, pow-add, shr-shr, shl_exact, shl-shr}
use lib.Bits.{bit_and, bit_or, bit_xor, differ, and_mask, and_shr, and_step, or_shr, or_step, xor_shr, xor_step}
use lib.Count.{ones, ones_step, count_trailing_zeros, under}
use borrow.Author.Tests.{eqb-true, eqb-false, eq-eqb, ne_eqb}
use Rattle.rules.specs.Clash.{how_many}
use Rattle.rules.proofs.Tests.{lt-or-ge}
use Rattle.maps.specs.Maps.{bit_set}

pub low_bit : (word : ℕ) → bit_and word 1 ≡ word % 2
low_bit word = and_mask word 1

pub zero_bit : (j : ℕ) → bit_set 0 j ≡ false
zero_bit j = rw (div-eq_of_lt (pow_pos j))

-- ---- a bit of two words combined
-- a combination of digits, told from its four cases
digits : (f : ℕ → ℕ → ℕ) (g : Bool → Bool → Bool) → eqb (f zero zero) 1 ≡ g false false → eqb (f zero (suc zero)) 1 ≡ g false true → eqb (f (suc zero) zero) 1 ≡ g true false → eqb (f (suc zero) (suc zero)) 1 ≡ g true true → (a b : ℕ) → a < 2 → b < 2 → eqb (f a b) 1 ≡ g (eqb a 1) (eqb b 1)
digits f g none right left both zero zero h k = none
digits f g none right left both zero (suc zero) h k = right
digits f g none right left both (suc zero) zero h k = left
digits f g none right left both (suc zero) (suc zero) h k = both
digits f g none right left both (suc (suc a)) b h k = absurd (omega arith)
digits f g none right left both zero (suc (suc b)) h k = absurd (omega arith)
digits f g none right left both (suc zero) (suc (suc b)) h k = absurd (omega arith)

low_or : (x y : ℕ) → eqb (bit_or x y % 2) 1 ≡ (eqb (x % 2) 1 || eqb (y % 2) 1)
low_or x y =
    let low : bit_or x y % 2 ≡ max (x % 2) (y % 2) = rw (or_step x y) (omega arith) in
    rw low (digits max ◌||◌ refl refl refl refl (x % 2) (y % 2) (omega arith) (omega arith))

low_and : (x y : ℕ) → eqb (bit_and x y % 2) 1 ≡ (eqb (x % 2) 1 && eqb (y % 2) 1)
low_and x y =
    let low : bit_and x y % 2 ≡ min (x % 2) (y % 2) = rw (and_step x y) (omega arith) in
    rw low (digits min ◌&&◌ refl refl refl refl (x % 2) (y % 2) (omega arith) (omega arith))

-- one of the two is set, and not both
abbrev differs : Bool → Bool → Bool
differs a b = (a && not b) || (not a && b)

low-xor : (x y : ℕ) → eqb (bit_xor x y % 2) 1 ≡ differs (eqb (x % 2) 1) (eqb (y % 2) 1)
low-xor x y =
    let low : bit_xor x y % 2 ≡ differ (x % 2) (y % 2) = rw (xor_step x y) (digits_mod (bit_xor (x / 2) (y / 2)) (small (x % 2) (y % 2) (omega arith) (omega arith))) in
    rw low (digits differ differs refl refl refl refl (x % 2) (y % 2) (omega arith) (omega arith))
  where
    small : (a b : ℕ) → a < 2 → b < 2 → differ a b < 2
    small zero b h k = k
    small (suc zero) zero h k = omega arith
    small (suc zero) (suc zero) h k = omega arith
    small (suc zero) (suc (suc b)) h k = absurd (omega arith)
    small (suc (suc a)) b h k = absurd (omega arith)

pub or-bit : (a b j : ℕ) → bit_set (bit_or a b) j ≡ (bit_set a j || bit_set b j)
or-bit a b j = rw (or_shr a b j) (low_or (a / 2 ^ j) (b / 2 ^ j))

pub and-bit : (a b j : ℕ) → bit_set (bit_and a b) j ≡ (bit_set a j && bit_set b j)
and-bit a b j = rw (and_shr a b j) (low_and (a / 2 ^ j) (b / 2 ^ j))

xor-bit : (a b j : ℕ) → bit_set (bit_xor a b) j ≡ differs (bit_set a j) (bit_set b j)
xor-bit a b j = rw (xor_shr a b j) (low-xor (a / 2 ^ j) (b / 2 ^ j))

-- set first and then flipped, the bits of b are out
pub out-bit : (a b j : ℕ) → bit_set (bit_xor (bit_or a b) b) j ≡ (bit_set a j && not (bit_set b j))
out-bit a b j = xor-bit (bit_or a b) b j ∙ rw (or-bit a b j) (go (bit_set a j) (bit_set b j))
  where
    go : (x y : Bool) → differs (x || y) y ≡ (x && not y)
    go true true = refl
    go true false = refl
    go false true = refl
    go false false = refl

-- ---- a word of one bit
-- the word of bit k alone, as the code makes it
mask : (k : ℕ) → k < 64 → 1 * 2 ^ k % 2 ^ 64 ≡ 2 ^ k
mask k h = shl_exact 1 k 64 (lit< tt) (omega arith) ∙ omega arith

-- its other bits: 2 ^ k is below 2 ^ j, or an even multiple of it
other-bit : (k j : ℕ) → (k ≡ j → ⊥) → bit_set (2 ^ k) j ≡ false
other-bit k j n = ⊎_elim below above (lt-or-ge k j)
  where
    below : k < j → bit_set (2 ^ k) j ≡ false
    below h = rw (div-eq_of_lt (pow-lt h))

    even : (d : ℕ) → bit_set (2 ^ (suc d + j)) j ≡ false
    even d =
        rw (pow-add 2 (suc d) j, shl-shr (2 ^ suc d) j, pow-suc 2 d)
        (let e : 2 ^ d * 2 % 2 ≡ 0 = omega arith in rw e)

    above : j ≤ k → bit_set (2 ^ k) j ≡ false
    above h =
        let l : j < k = lt_of_le-ne h (λ e. n (sym e)) in
        let e : suc (k - suc j) + j ≡ k = omega arith in
        rw e at (even (k - suc j))

pub mask-bit : (k j : ℕ) → k < 64 → bit_set (1 * 2 ^ k % 2 ^ 64) j ≡ eqb k j
mask-bit k j h = rw (mask k h) (go (eqb k j) refl)
  where
    go : (t : Bool) → eqb k j ≡ t → bit_set (2 ^ k) j ≡ t
    go true e = rw (eqb-true k j e, div_self (pow_pos j))
    go false e = other-bit k j (eqb-false k j e)

-- ---- the bits from the lowest up: bit k + 1 of a word is bit k of its half
bit-suc : (n k : ℕ) → bit_set n (suc k) ≡ bit_set (n / 2) k
bit-suc n k = rw (← one-add k) (ap (λ (x : ℕ). eqb (x % 2) 1) (sym (shr-shr n 1 k)))

bit-first : (n : ℕ) → n % 2 ≡ 1 → bit_set n 0 ≡ true
bit-first n h = eq-eqb (n / 2 ^ 0 % 2) 1 (omega arith)

half : (d n : ℕ) → n < 2 ^ suc d → n / 2 < 2 ^ d
half d n h = let e : 2 ^ suc d ≡ 2 ^ d * 2 = pow-suc 2 d in omega arith

-- the lowest bit that is set
pub tz-bit : (d n : ℕ) → 0 < n → n < 2 ^ d → bit_set n (count_trailing_zeros d n) ≡ true
unfolding count_trailing_zeros
tz-bit zero n p h = absurd (omega arith)
tz-bit (suc d) n p h = go (λ q. tz-bit d (n / 2) q (half d n h)) (n % 2) refl
  where
    go : (0 < n / 2 → bit_set (n / 2) (count_trailing_zeros d (n / 2)) ≡ true) → (r : ℕ) → n % 2 ≡ r → bit_set n (under r (count_trailing_zeros d (n / 2))) ≡ true
    go ih zero e = bit-suc n (count_trailing_zeros d (n / 2)) ∙ ih (omega arith)
    go ih (suc r) e = bit-first n (omega arith)

pub tz-below : (d n j : ℕ) → j < count_trailing_zeros d n → bit_set n j ≡ false
unfolding count_trailing_zeros
tz-below zero n j h = absurd (omega arith)
tz-below (suc d) n j h = go (tz-below d (n / 2)) (n % 2) refl j h
  where
    go : ((j : ℕ) → j < count_trailing_zeros d (n / 2) → bit_set (n / 2) j ≡ false) → (r : ℕ) → n % 2 ≡ r → (j : ℕ) → j < under r (count_trailing_zeros d (n / 2)) → bit_set n j ≡ false
    go ih zero e zero h = ne_eqb (n / 2 ^ 0 % 2) 1 (λ (z : n / 2 ^ 0 % 2 ≡ 1). let f : n % 2 ≡ 1 = omega arith in absurd (omega arith))
    go ih zero e (suc j) h = bit-suc n j ∙ ih j (omega arith)
    go ih (suc r) e j h = absurd (omega arith)

pub tz-lt : (d n : ℕ) → 0 < n → n < 2 ^ d → count_trailing_zeros d n < d
unfolding count_trailing_zeros
tz-lt zero n p h = absurd (omega arith)
tz-lt (suc d) n p h = go (λ q. tz-lt d (n / 2) q (half d n h)) (n % 2) refl
  where
    go : (0 < n / 2 → count_trailing_zeros d (n / 2) < d) → (r : ℕ) → n % 2 ≡ r → under r (count_trailing_zeros d (n / 2)) < suc d
    go ih zero e = let i = ih (omega arith) in omega arith
    go ih (suc r) e = omega arith

-- how many are set
bit-value : (n k : ℕ) → (if bit_set n k then 1 else 0) ≡ n / 2 ^ k % 2
bit-value n k = go (n / 2 ^ k % 2) (omega arith)
  where
    go : (x : ℕ) → x < 2 → (if eqb x 1 then 1 else 0) ≡ x
    go zero h = refl
    go (suc zero) h = refl
    go (suc (suc x)) h = absurd (omega arith)

count_low : (n d : ℕ) → how_many (bit_set n) (suc d) ≡ n % 2 + how_many (bit_set (n / 2)) d
unfolding how_many
count_low n zero = let v = bit-value n 0 in omega arith
count_low n (suc d) = rw (bit-suc n d, count_low n d) (omega arith)

no_ones : ones zero ≡ zero
unfolding ones
no_ones = refl

pub ones-counted : (d n : ℕ) → n < 2 ^ d → ones n ≡ how_many (bit_set n) d
unfolding how_many
ones-counted zero n h = ap ones (lt-one h) ∙ no_ones
ones-counted (suc d) n h =
    ones_step n ∙ ap (λ (x : ℕ). n % 2 + x) (ones-counted d (n / 2) (half d n h)) ∙ sym (count_low n d)

-- words with the same bits are the same
pub same_bits : (d a b : ℕ) → a < 2 ^ d → b < 2 ^ d → ((k : ℕ) → k < d → bit_set a k ≡ bit_set b k) → a ≡ b
same_bits zero a b h k same = lt-one h ∙ sym (lt-one k)
same_bits (suc d) a b h k same =
    let low : ◌≡◌ {A = ℕ} (if bit_set a 0 then 1 else 0) (if bit_set b 0 then 1 else 0) = ap (λ (t : Bool). if t then 1 else 0) (same 0 (omega arith)) in
    let rest : a / 2 ≡ b / 2 = same_bits d (a / 2) (b / 2) (half d a h) (half d b k) (λ j (lt : j < d). sym (bit-suc a j) ∙ same (suc j) (omega arith) ∙ bit-suc b j) in
    omega (arith, bit-value a 0, bit-value b 0, low, rest)
