-- The numbers that the table charges are 3 to 11: one computed test over the numbers below 12, and none above.
use Prim.Native.Nat.{ℕ, zero, suc, ◌≤◌, ◌<◌, min}
use mathlib.Core.Path.{◌≡◌, refl, sym, ap, ◌∙◌}
use mathlib.Core.Bool.{Bool, true, false, ◌&&◌, beq}
use mathlib.Core.Logic.{⊎_elim}
use native.Mathlib.Nat.{not-suc-le-zero}
use native.Mathlib.Omega.{arith}
use lib.Dec.{leb}
use borrow.Author.Tests.{ne_eqb, lt-leb, le-leb, leb-true}
use Rattle.rules.specs.Lists.{some}
use Rattle.rules.specs.Records.{member}
use Rattle.rules.specs.Prices.{Prices, clause9, costly, charge}
use Rattle.rules.proofs.Tests.{both, and-false, lt-or-ge, if-either}

-- the test holds of each number below the bound
unfoldable all_below : ℕ → (ℕ → Bool) → Bool
all_below zero f = true
all_below (suc n) f = f n && all_below n f

below_at : (n : ℕ) (f : ℕ → Bool) → all_below n f ≡ true → (k : ℕ) → k < n → f k ≡ true
unfolding all_below
below_at zero f h k lt = absurd (not-suc-le-zero lt)
below_at (suc n) f h k lt =
    let p = both (f n) (all_below n f) h in
    ⊎_elim (λ (b : k < n). below_at n f p.1 k b) (λ (b : n ≤ k). let same : k ≡ n = omega arith in rw same p.0) (lt-or-ge k n)

same_test : (a b : Bool) → beq a b ≡ true → a ≡ b
same_test true true h = refl
same_test true false h = sym h
same_test false true h = h
same_test false false h = refl

tested : all_below 12 (λ n. beq (member n costly) (leb 3 n && leb n 11)) ≡ true
unfolding all_below costly member some
tested = refl

past : (n : ℕ) → 12 ≤ n → member n costly ≡ false
unfolding costly member some
past n h =
    simp (ne_eqb 3 n (λ e. omega arith), ne_eqb 4 n (λ e. omega arith), ne_eqb 5 n (λ e. omega arith), ne_eqb 6 n (λ e. omega arith), ne_eqb 7 n (λ e. omega arith), ne_eqb 8 n (λ e. omega arith), ne_eqb 9 n (λ e. omega arith), ne_eqb 10 n (λ e. omega arith), ne_eqb 11 n (λ e. omega arith))

pub costly-range : (n : ℕ) → member n costly ≡ (leb 3 n && leb n 11)
costly-range n = ⊎_elim
    (λ (b : n < 12). same_test (member n costly) (leb 3 n && leb n 11) (below_at 12 (λ k. beq (member k costly) (leb 3 k && leb k 11)) tested n b))
    (λ (b : 12 ≤ n). past n b ∙ sym (ap (λ (t : Bool). leb 3 n && t) (lt-leb n 11 b) ∙ and-false (leb 3 n)))
    (lt-or-ge n 12)

pub costly-low : (n : ℕ) → member n costly ≡ true → 3 ≤ n
costly-low n costs = leb-true 3 n (both (leb 3 n) (leb n 11) (sym (costly-range n) ∙ costs)).0

pub costly-between : (n : ℕ) → 3 ≤ n → n ≤ 11 → member n costly ≡ true
costly-between n low high = simp (costly-range, le-leb 3 n low, le-leb n 11 high)

-- ---- what a refusal burns
pub charge-low : (p : Prices) (fuel n : ℕ) → n < 3 → charge p fuel n ≡ 0
unfolding charge
charge-low p fuel n h = simp (costly-range, lt-leb 3 n h)

pub charge-high : (p : Prices) (fuel n : ℕ) → 11 < n → charge p fuel n ≡ 0
unfolding charge
charge-high p fuel n h = simp (costly-range, lt-leb n 11 h, and-false)

-- a charged refusal burns the list's charge, or what is left if less
pub charge-unit : (p : Prices) (fuel n : ℕ) → member n costly ≡ true → charge p fuel n ≡ min p.refused fuel
unfolding charge
charge-unit p fuel n costs = simp costs

-- and document 01's, which is 1
pub charge-one : (fuel n : ℕ) → member n costly ≡ true → 0 < fuel → charge clause9 fuel n ≡ 1
charge-one fuel n costs wet = charge-unit clause9 fuel n costs ∙ omega arith

-- and never more than there is
pub charge-fits : (p : Prices) (fuel n : ℕ) → charge p fuel n ≤ fuel
unfolding charge
charge-fits p fuel n = if-either (λ (k : ℕ). k ≤ fuel) (member n costly) (omega arith) (omega arith)
