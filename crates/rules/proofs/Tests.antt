-- Laws of tests: or, and, not, equality and order of numbers.
use Rattle.std.specs.Prelude.{if◌then◌else◌}
use Prim.Native.Nat.{ℕ, ◌+◌, ◌≤◌, ◌<◌}
use mathlib.Core.Path.{◌≡◌, refl, sym}
use mathlib.Core.Bool.{Bool, true, false, ◌&&◌, ◌||◌, not}
use mathlib.Core.Logic.{◌⊎◌, inl, inr, ⊎_elim}
use native.Mathlib.Omega.{arith}
use lib.Dec.{eqb, ltb}
use borrow.Author.Tests.{eqb-true, eqb-false, ltb-true, ltb-false, eq-eqb, ne_eqb, lt-ltb, le-ltb}

pub or_assoc : (a b c : Bool) → (a || b || c) ≡ (a || (b || c))
or_assoc true b c = refl
or_assoc false b c = refl

pub or_swap : (a b c d : Bool) → ((a || b) || (c || d)) ≡ ((a || c) || (b || d))
or_swap true b c d = refl
or_swap false true true d = refl
or_swap false true false d = refl
or_swap false false c d = refl

pub or_comm : (a b : Bool) → (a || b) ≡ (b || a)
or_comm true true = refl
or_comm true false = refl
or_comm false true = refl
or_comm false false = refl

pub or-false : (a : Bool) → (a || false) ≡ a
or-false true = refl
or-false false = refl

pub or-true : (a : Bool) → (a || true) ≡ true
or-true true = refl
or-true false = refl

pub and-swap : (a b c d : Bool) → ((a && b) && (c && d)) ≡ ((a && c) && (b && d))
and-swap true true c d = refl
and-swap true false true d = refl
and-swap true false false d = refl
and-swap false b c d = refl

pub and-true : (a : Bool) → (a && true) ≡ a
and-true true = refl
and-true false = refl

pub and-false : (a : Bool) → (a && false) ≡ false
and-false true = refl
and-false false = refl

pub and_comm : (a b : Bool) → (a && b) ≡ (b && a)
and_comm true true = refl
and_comm true false = refl
and_comm false true = refl
and_comm false false = refl

pub not-or : (a b : Bool) → not (a || b) ≡ (not a && not b)
not-or true b = refl
not-or false b = refl

-- one of two tests holds; both hold; neither holds
pub either : (a b : Bool) → (a || b) ≡ true → (a ≡ true) ⊎ (b ≡ true)
either true b e = inl refl
either false b e = inr e

pub both : (a b : Bool) → (a && b) ≡ true → (a ≡ true) × (b ≡ true)
both true b e = (refl, e)
both false b e = let z : true ≡ false = sym e in (sym z, cc)

pub neither : (a b : Bool) → (a || b) ≡ false → (a ≡ false) × (b ≡ false)
neither true b e = let z : false ≡ true = sym e in (e, cc)
neither false b e = (refl, e)

eqb-go : (a b : ℕ) (t : Bool) → eqb a b ≡ t → eqb a b ≡ eqb b a
eqb-go a b true e = let h : b ≡ a = sym (eqb-true a b e) in cc (e, eq-eqb b a h)
eqb-go a b false e = cc (e, ne_eqb b a (λ h. eqb-false a b e (sym h)))

pub eqb-sym : (a b : ℕ) → eqb a b ≡ eqb b a
eqb-sym a b = eqb-go a b (eqb a b) refl

-- a test as a number
abbrev pub one : Bool → ℕ
one b = if b then 1 else 0

pub one-le : (b : Bool) → one b ≤ 1
one-le true = omega arith
one-le false = omega arith

lt-go : (m n : ℕ) (t : Bool) → ltb m n ≡ t → (m < n) ⊎ (n ≤ m)
lt-go m n true e = inl (ltb-true m n e)
lt-go m n false e = inr (ltb-false m n e)

pub lt-or-ge : (m n : ℕ) → (m < n) ⊎ (n ≤ m)
lt-or-ge m n = lt-go m n (ltb m n) refl

pub above_zero : (n : ℕ) → (n ≡ 0 → ⊥) → 0 < n
above_zero n h = ⊎_elim (λ (b : 0 < n). b) (λ (b : n ≤ 0). absurd (h (omega arith))) (lt-or-ge 0 n)

-- above 0, with one's own count and without it
pub above-one : (n : ℕ) → ltb 1 (n + 1) ≡ ltb 0 n
above-one n = go (ltb 0 n) refl
  where
    go : (t : Bool) → ltb 0 n ≡ t → ltb 1 (n + 1) ≡ t
    go true e = lt-ltb 1 (n + 1) (omega (arith, ltb-true 0 n e))
    go false e = le-ltb 1 (n + 1) (omega (arith, ltb-false 0 n e))

pub zero-above : (n : ℕ) → eqb n 0 ≡ not (ltb 0 n)
zero-above n = go (ltb 0 n) refl
  where
    go : (t : Bool) → ltb 0 n ≡ t → eqb n 0 ≡ not t
    go true e = ne_eqb n 0 (λ h. omega (arith, ltb-true 0 n e))
    go false e = eq-eqb n 0 (omega (arith, ltb-false 0 n e))

pub one-own : (n : ℕ) → eqb (n + 1) 1 ≡ eqb n 0
one-own n = go (eqb n 0) refl
  where
    go : (t : Bool) → eqb n 0 ≡ t → eqb (n + 1) 1 ≡ t
    go true e = eq-eqb (n + 1) 1 (omega (arith, eqb-true n 0 e))
    go false e = ne_eqb (n + 1) 1 (λ h. eqb-false n 0 e (omega arith))

-- what holds of both choices holds of the choice; and with what the test then is
pub if-either : {A : Type 0} (P : A → Type 0) (b : Bool) {x y : A} → P x → P y → P (if b then x else y)
if-either P true h k = h
if-either P false h k = k

pub if-cases : {A : Type 0} (P : A → Type 0) (b : Bool) {x y : A} → (b ≡ true → P x) → (b ≡ false → P y) → P (if b then x else y)
if-cases P true h k = h refl
if-cases P false h k = k refl
