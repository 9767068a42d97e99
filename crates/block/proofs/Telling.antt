-- An answer tells whether something holds: the ways out of a function that tells, and what a call has told it.
use Prim.Native.Nat.{ℕ, ◌≤◌}
use mathlib.Core.Path.{◌≡◌, sym, ◌∙◌}
use mathlib.Core.Bool.{Bool, true, false, true≢false}
use native.Mathlib.Omega.{arith}
use lib.Dec.{eqb, leb}
use borrow.Author.Tests.{eqb-true, eqb-false, leb-true, leb-false}
use Rattle.block.specs.Check.{Tells}

pub tells-no : {P : Type 0} → (P → ⊥) → Tells false P
tells-no h = record { yes = λ z. absurd (true≢false (sym z)); other = λ z. h }

pub test-tells : {r t : Bool} → r ≡ t → Tells r (t ≡ true)
test-tells e = record { yes = λ y. sym e ∙ y; other = λ n t. true≢false (sym t ∙ sym e ∙ n) }

-- ---- a call tells of a part
module _ {r : Bool} {P : Type 0} (told : Tells r P) where
  -- the part fails, and so the whole
  pub part-fails : {Q : Type 0} → r ≡ false → (Q → P) → Tells false Q
  part-fails test part = tells-no (λ q. told.other test (part q))

  -- the part holds
  pub part-holds : r ≡ true → P
  part-holds test = told.yes test

  -- the part is the last: the whole holds where it does
  pub part-last : {Q : Type 0} → (P → Q) → (Q → P) → Tells r Q
  part-last whole part = record { yes = λ y. whole (told.yes y); other = λ n q. told.other n (part q) }

-- ---- a test of numbers tells
pub equal-tells : (a b : ℕ) → Tells (eqb a b) (a ≡ b)
equal-tells a b = record { yes = eqb-true a b; other = eqb-false a b }

pub most-tells : (a b : ℕ) → Tells (leb a b) (a ≤ b)
most-tells a b = record { yes = leb-true a b; other = λ n h. omega (arith, leb-false a b n) }
