-- Laws of the words on lists: some, every, how many, the sum.
use Prim.Native.Nat.{ℕ, zero, suc, ◌+◌, ◌≤◌, ◌<◌}
use mathlib.Core.Path.{◌≡◌, refl, sym, ap, ◌∙◌}
use mathlib.Core.Bool.{Bool, true, false, ◌&&◌, ◌||◌, not}
use mathlib.Core.List.{List, [], ◌∷◌, ◌++◌}
use mathlib.Core.Logic.{⊎_elim}
use native.Mathlib.Numerals.{add-one}
use native.Mathlib.Omega.{arith}
use lib.Dec.{eqb, ltb}
use lib.ListN.{length, get_or, take, drop, set}
use lib.Seq.{split_at}
use borrow.Author.Tests.{eqb-true, eq-eqb, lt-ltb}
use Rattle.rules.specs.Lists.{some, every, count_if, total}
use Rattle.rules.specs.Records.{member, meets}
use Rattle.rules.proofs.Tests.{or_assoc, or_swap, and-swap, either, eqb-sym, one, one-le, not-or, or-true, and-true, and-false}

module _ {A : Type 0} where
  pub some-append : (f : A → Bool) (xs ys : List A) → some f (xs ++ ys) ≡ (some f xs || some f ys)
  unfolding some
  some-append f [] ys = refl
  some-append f (x ∷ xs) ys = ap (λ (t : Bool). f x || t) (some-append f xs ys) ∙ sym (or_assoc (f x) _ _)

  pub some-cong : {f g : A → Bool} (xs : List A) → ((x : A) → f x ≡ g x) → some f xs ≡ some g xs
  unfolding some
  some-cong [] h = refl
  some-cong {f} {g} (x ∷ xs) h = simp (h, some-cong {f = f} {g = g} xs h)

  pub some-never : (xs : List A) → some (λ (x : A). false) xs ≡ false
  unfolding some
  some-never [] = refl
  some-never (x ∷ xs) = some-never xs

  pub some_or : (f g : A → Bool) (xs : List A) → some (λ (x : A). f x || g x) xs ≡ (some f xs || some g xs)
  unfolding some
  some_or f g [] = refl
  some_or f g (x ∷ xs) = ap (λ (t : Bool). (f x || g x) || t) (some_or f g xs) ∙ or_swap (f x) (g x) _ _

  pub some-both : (f : A → Bool) (c : Bool) (xs : List A) → some (λ (x : A). f x && c) xs ≡ (some f xs && c)
  some-both f true xs = some-cong xs (λ x. and-true (f x)) ∙ sym (and-true (some f xs))
  some-both f false xs = some-cong xs (λ x. and-false (f x)) ∙ some-never xs ∙ sym (and-false (some f xs))

  pub every_some : (f : A → Bool) (xs : List A) → every (λ (x : A). not (f x)) xs ≡ not (some f xs)
  unfolding some every
  every_some f [] = refl
  every_some f (x ∷ xs) = ap (λ (t : Bool). not (f x) && t) (every_some f xs) ∙ sym (not-or (f x) (some f xs))

  pub every-cong : {f g : A → Bool} (xs : List A) → ((x : A) → f x ≡ g x) → every f xs ≡ every g xs
  unfolding every
  every-cong [] h = refl
  every-cong {f} {g} (x ∷ xs) h = simp (h, every-cong {f = f} {g = g} xs h)

  pub every-and : (f g : A → Bool) (xs : List A) → every (λ (x : A). f x && g x) xs ≡ (every f xs && every g xs)
  unfolding every
  every-and f g [] = refl
  every-and f g (x ∷ xs) = ap (λ (t : Bool). (f x && g x) && t) (every-and f g xs) ∙ and-swap (f x) (g x) (every f xs) (every g xs)

  -- ---- how many
  pub count-le : (f : A → Bool) (xs : List A) → count_if f xs ≤ length xs
  unfolding count_if
  count-le f [] = omega arith
  count-le f (x ∷ xs) = omega (arith, one-le (f x), count-le f xs)

  pub count-append : (f : A → Bool) (xs ys : List A) → count_if f (xs ++ ys) ≡ count_if f xs + count_if f ys
  unfolding count_if
  count-append f [] ys = omega arith
  count-append f (x ∷ xs) ys = omega (arith, count-append f xs ys)

  pub count-last : (f : A → Bool) (xs : List A) (e : A) → count_if f (xs ++ e ∷ []) ≡ count_if f xs + one (f e)
  unfolding count_if
  count-last f [] e = omega arith
  count-last f (x ∷ xs) e = omega (arith, count-last f xs e)

  -- some element passes exactly if their number is above 0
  pub count-above : (f : A → Bool) (xs : List A) → ltb 0 (count_if f xs) ≡ some f xs
  unfolding count_if some
  count-above f [] = refl
  count-above f (x ∷ xs) = go (f x) (count-above f xs)
    where
      go : (t : Bool) → ltb 0 (count_if f xs) ≡ some f xs → ltb 0 (one t + count_if f xs) ≡ (t || some f xs)
      go true ih = lt-ltb 0 (1 + count_if f xs) (omega arith)
      go false ih = ap (ltb 0) (let z : 0 + count_if f xs ≡ count_if f xs = omega arith in z) ∙ ih

  -- the count without one element
  pub count-without : (f : A → Bool) (xs : List A) (at : ℕ) (d : A) → at < length xs → count_if f xs ≡ count_if f (take at xs ++ drop (at + 1) xs) + one (f (get_or xs at d))
  unfolding count_if
  count-without f xs at d h =
      let s : xs ≡ take at xs ++ get_or xs at d ∷ drop (at + 1) xs = rw (add-one at) (split_at xs at d h) in
      let e : count_if f xs ≡ count_if f (take at xs ++ get_or xs at d ∷ drop (at + 1) xs) = ap (count_if f) s in
      omega (arith, e, count-append f (take at xs) (get_or xs at d ∷ drop (at + 1) xs), count-append f (take at xs) (drop (at + 1) xs))

  -- ---- the sum
  pub total-append : (f : A → ℕ) (xs ys : List A) → total f (xs ++ ys) ≡ total f xs + total f ys
  unfolding total
  total-append f [] ys = omega arith
  total-append f (x ∷ xs) ys = omega (arith, total-append f xs ys)

  -- an element is put that has the same number, or passes the same test
  pub total-set : (f : A → ℕ) (xs : List A) (i : ℕ) (a d : A) → f a ≡ f (get_or xs i d) → total f (set xs i a) ≡ total f xs
  unfolding total
  total-set f [] i a d e = refl
  total-set f (x ∷ xs) zero a d e = ap (λ (n : ℕ). n + total f xs) e
  total-set f (x ∷ xs) (suc i) a d e = ap (λ (n : ℕ). f x + n) (total-set f xs i a d e)

  pub count_set : (f : A → Bool) (xs : List A) (i : ℕ) (a d : A) → f a ≡ f (get_or xs i d) → count_if f (set xs i a) ≡ count_if f xs
  unfolding count_if
  count_set f [] i a d e = refl
  count_set f (x ∷ xs) zero a d e = ap (λ (b : Bool). one b + count_if f xs) e
  count_set f (x ∷ xs) (suc i) a d e = ap (λ (n : ℕ). one (f x) + n) (count_set f xs i a d e)

-- a test of pairs may run over either list first
pub some-some : {A B : Type 0} (f : A → B → Bool) (xs : List A) (ys : List B) → some (λ (x : A). some (f x) ys) xs ≡ some (λ (y : B). some (λ (x : A). f x y) xs) ys
unfolding some
some-some {A} {B} f [] ys = sym (some-never ys)
some-some {A} {B} f (x ∷ xs) ys = ap (λ (t : Bool). some (f x) ys || t) (some-some f xs ys) ∙ sym (some_or (f x) (λ (y : B). some (λ (x : A). f x y) xs) ys)

-- ---- records
-- where the tests agree on the records of the list
pub some_in : {f g : ℕ → Bool} (xs : List ℕ) → ((k : ℕ) → member k xs ≡ true → f k ≡ g k) → some f xs ≡ some g xs
unfolding some member
some_in [] h = refl
some_in {f} {g} (x ∷ xs) h =
    let here : f x ≡ g x = h x (rw (eq-eqb x x refl)) in
    let rest : some f xs ≡ some g xs = some_in {f = f} {g = g} xs (λ k m. h k (ap (λ (t : Bool). eqb x k || t) m ∙ or-true (eqb x k))) in
    cc

pub every_in : {f g : ℕ → Bool} (xs : List ℕ) → ((k : ℕ) → member k xs ≡ true → f k ≡ g k) → every f xs ≡ every g xs
unfolding every member some
every_in [] h = refl
every_in {f} {g} (x ∷ xs) h =
    let here : f x ≡ g x = h x (rw (eq-eqb x x refl)) in
    let rest : every f xs ≡ every g xs = every_in {f = f} {g = g} xs (λ k m. h k (ap (λ (t : Bool). eqb x k || t) m ∙ or-true (eqb x k))) in
    cc

pub meets-sym : (xs ys : List ℕ) → meets xs ys ≡ meets ys xs
unfolding meets member
meets-sym xs ys =
    some-some (λ (x y : ℕ). eqb y x) xs ys ∙ some-cong ys (λ y. some-cong xs (λ x. eqb-sym y x))

-- a record of the list that passes the test, where some does
pub some_at : (f : ℕ → Bool) (xs : List ℕ) → some f xs ≡ true → (r : ℕ) × (member r xs ≡ true) × (f r ≡ true)
unfolding some member
some_at f [] e = (0, e, cc)
some_at f (x ∷ xs) e = ⊎_elim
    (λ (h : f x ≡ true). (x, rw (eq-eqb x x refl), h))
    (λ (h : some f xs ≡ true). let w = some_at f xs h in (w.0, ap (λ (t : Bool). eqb x w.0 || t) w.1 ∙ or-true (eqb x w.0), w.2))
    (either (f x) (some f xs) e)

pub some-here : (f : ℕ → Bool) (r : ℕ) (xs : List ℕ) → member r xs ≡ true → f r ≡ true → some f xs ≡ true
unfolding some member
some-here f r [] a b = a
some-here f r (x ∷ xs) a b = ⊎_elim
    (λ (h : eqb x r ≡ true). let e : x ≡ r = eqb-true x r h in let m : f x ≡ true = rw e b in ap (λ (t : Bool). t || some f xs) m)
    (λ (h : member r xs ≡ true). ap (λ (t : Bool). f x || t) (some-here f r xs h b) ∙ or-true (f x))
    (either (eqb x r) (member r xs) a)

-- a record of both lists, where they meet; and none where they do not
pub meets_at : (xs ys : List ℕ) → meets xs ys ≡ true → (r : ℕ) × (member r xs ≡ true) × (member r ys ≡ true)
unfolding meets
meets_at xs ys = some_at (λ (x : ℕ). member x ys) xs

pub meets-both : (r : ℕ) (xs ys : List ℕ) → member r xs ≡ true → member r ys ≡ true → meets xs ys ≡ true
unfolding meets
meets-both r xs ys = some-here (λ (x : ℕ). member x ys) r xs

pub apart-at : (r : ℕ) (xs ys : List ℕ) → meets xs ys ≡ false → member r xs ≡ true → member r ys ≡ false
apart-at r xs ys e a = go (member r ys) refl
  where
    go : (t : Bool) → member r ys ≡ t → member r ys ≡ false
    go true m = let z : true ≡ false = sym (meets-both r xs ys a m) ∙ e in m ∙ z
    go false m = m
