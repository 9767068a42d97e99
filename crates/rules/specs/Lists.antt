-- The few words on lists that the law book is written in.
use Rattle.std.specs.Prelude.{ℕ, suc, ◌+◌, Bool, true, false, ◌&&◌, ◌||◌, List, [], ◌∷◌, if◌then◌else◌}

module _ {A : Type 0} where
  -- some element passes the test
  unfoldable pub some : (A → Bool) → List A → Bool
  some f [] = false
  some f (x ∷ xs) = f x || some f xs

  -- every element passes the test
  unfoldable pub every : (A → Bool) → List A → Bool
  every f [] = true
  every f (x ∷ xs) = f x && every f xs

  -- how many elements pass the test
  unfoldable pub count_if : (A → Bool) → List A → ℕ
  count_if f [] = 0
  count_if f (x ∷ xs) = (if f x then 1 else 0) + count_if f xs

  -- the elements that pass the test, in their order
  unfoldable pub keep_if : (A → Bool) → List A → List A
  keep_if f [] = []
  keep_if f (x ∷ xs) = if f x then x ∷ keep_if f xs else keep_if f xs

  -- the sum of a number that each element has
  unfoldable pub total : (A → ℕ) → List A → ℕ
  total f [] = 0
  total f (x ∷ xs) = f x + total f xs

  -- how many elements stand before the first that passes the test: the list's length if none does
  unfoldable pub before : (A → Bool) → List A → ℕ
  before f [] = 0
  before f (x ∷ xs) = if f x then 0 else suc (before f xs)
