-- What the library tells of a list's neighbours, and of what is made of a list, in the law book's words.
use Rattle.std.proofs.Common.{◌≡◌, refl, sym, ap, ◌∙◌, ℕ, zero, suc, ◌+◌, ◌<◌, Bool, true, false, ◌||◌, List, [], ◌∷◌, map, length, get_or, ltb, add-one, arith}
use Rattle.rules.specs.Lists.{some}
use Rattle.rules.specs.Records.{rising, rising_past}
use Rattle.rules.proofs.Tests.{and-false}

-- each record is below the next; some record is not
rises-all : (xs : List ℕ) → ((k : ℕ) → suc k < length xs → ltb (get_or xs k 0) (get_or xs (suc k) 0) ≡ true) → rising xs ≡ true
unfolding rising rising_past
rises-all [] h = refl
rises-all (x ∷ []) h = refl
rises-all (x ∷ y ∷ ys) h = simp (h 0 (omega arith)) (rises-all (y ∷ ys) (λ k l. h (suc k) (omega arith)))

falls-at : (xs : List ℕ) (k : ℕ) → suc k < length xs → ltb (get_or xs k 0) (get_or xs (suc k) 0) ≡ false → rising xs ≡ false
unfolding rising rising_past
falls-at [] k l e = absurd (omega arith)
falls-at (x ∷ []) k l e = absurd (omega arith)
falls-at (x ∷ y ∷ ys) zero l e = simp e
falls-at (x ∷ y ∷ ys) (suc k) l e = simp (falls-at (y ∷ ys) k (omega arith) e, and-false)

-- r is what `is_sorted_by` answered of the test `<`
module _ (xs : List ℕ) (r : Bool) where
  pub rises-told : (r ≡ true → (k : ℕ) → k + 1 < length xs → ltb (get_or xs k 0) (get_or xs (k + 1) 0) ≡ true) → (r ≡ false → (k : ℕ) × (k + 1 < length xs) × (ltb (get_or xs k 0) (get_or xs (k + 1) 0) ≡ false)) → r ≡ rising xs
  rises-told so not_so = by r refl
    where
      by : (b : Bool) → r ≡ b → r ≡ rising xs
      by true e = e ∙ sym (rises-all xs (λ k l. simp add-one at (so e k (omega arith))))
      by false e = let w = not_so e in e ∙ sym (falls-at xs w.0 (omega (arith, w.1)) (simp add-one at w.2))

-- a test of what is made of each element
pub some-map : {A B : Type 0} (f : B → Bool) (g : A → B) (xs : List A) → some f (map g xs) ≡ some (λ x. f (g x)) xs
unfolding some
some-map f g [] = refl
some-map f g (x ∷ xs) = ap (λ b. f (g x) || b) (some-map f g xs)
