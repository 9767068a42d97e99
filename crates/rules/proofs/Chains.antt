-- The law book's words on lists are what a chain of iterators tells: `any`, `all` and `position`.
use Rattle.std.proofs.Common.{◌≡◌, refl, ℕ, ◌<◌, Bool, true, false, List, length, get_or}
use Rattle.std.proofs.lemmas.List.Recursion.{or_is, and_is}
use Rattle.rules.specs.Lists.{some, every}

module _ {A : Type 0} (f : A → Bool) (xs : List A) (d : A) (r : Bool) where
  pub some-told : (r ≡ true → (i : ℕ) × (i < length xs) × (f (get_or xs i d) ≡ true)) → (r ≡ false → (i : ℕ) → i < length xs → f (get_or xs i d) ≡ false) → r ≡ some f xs
  unfolding some
  some-told = or_is (some f) f refl (λ x ys. refl) xs d r

  pub every-told : (r ≡ true → (i : ℕ) → i < length xs → f (get_or xs i d) ≡ true) → (r ≡ false → (i : ℕ) × (i < length xs) × (f (get_or xs i d) ≡ false)) → r ≡ every f xs
  unfolding every
  every-told = and_is (every f) f refl (λ x ys. refl) xs d r
