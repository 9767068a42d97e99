-- What holds of each element, and of each two in order: at a place, and after an element is added, taken out or put.
use Prim.Native.Nat.{ℕ, zero, suc, ◌+◌, ◌<◌}
use mathlib.Core.Path.{◌≡◌, sym, subst}
use mathlib.Core.Bool.{Bool, false}
use mathlib.Core.List.{List, [], ◌∷◌, ◌++◌}
use native.Mathlib.Nat.{not-suc-le-zero, le_of_suc-le-suc}
use native.Mathlib.Numerals.{add-one}
use lib.ListN.{length, get_or, take, drop, set}
use Rattle.rules.specs.Lists.{some}
use Rattle.rules.specs.Sound.{Each, InOrder}
use Rattle.rules.proofs.Tests.{neither}

module _ {A : Type 0} where
  -- ---- each
  pub each_at : {P : A → Type 0} {xs : List A} → Each P xs → (i : ℕ) (d : A) → i < length xs → P (get_or xs i d)
  each_at Each.none i d lt = absurd (not-suc-le-zero lt)
  each_at (Each.also p h) zero d lt = p
  each_at (Each.also p h) (suc i) d lt = each_at h i d (le_of_suc-le-suc lt)

  pub each_first : {P : A → Type 0} {x : A} {xs : List A} → Each P (x ∷ xs) → P x
  each_first (Each.also p h) = p

  pub each-rest : {P : A → Type 0} {x : A} {xs : List A} → Each P (x ∷ xs) → Each P xs
  each-rest (Each.also p h) = h

  pub each_map : {P Q : A → Type 0} {xs : List A} → ((x : A) → P x → Q x) → Each P xs → Each Q xs
  each_map f Each.none = Each.none
  each_map f (Each.also {x = x} p h) = Each.also (f x p) (each_map f h)

  pub each_both : {P Q R : A → Type 0} {xs : List A} → Each P xs → Each Q xs → ((x : A) → P x → Q x → R x) → Each R xs
  each_both Each.none Each.none f = Each.none
  each_both (Each.also {x = x} p ps) (Each.also q qs) f = Each.also (f x p q) (each_both ps qs f)

  pub each-pair : {P Q : A → Type 0} {xs : List A} → Each P xs → Each Q xs → Each (λ x. P x × Q x) xs
  each-pair h k = each_both h k (λ x p q. (p, q))

  pub each_append : {P : A → Type 0} {xs ys : List A} → Each P xs → Each P ys → Each P (xs ++ ys)
  each_append Each.none k = k
  each_append (Each.also p h) k = Each.also p (each_append h k)

  pub each-parts : {P : A → Type 0} (xs : List A) {ys : List A} → Each P (xs ++ ys) → Each P xs × Each P ys
  each-parts [] h = (Each.none, h)
  each-parts (x ∷ xs) (Each.also p h) = let k = each-parts xs h in (Each.also p k.0, k.1)

  pub each_all : {P : A → Type 0} (xs : List A) → ((x : A) → P x) → Each P xs
  each_all [] f = Each.none
  each_all (x ∷ xs) f = Each.also (f x) (each_all xs f)

  pub each_last : {P : A → Type 0} {xs : List A} {e : A} → Each P xs → P e → Each P (xs ++ e ∷ [])
  each_last h p = each_append h (Each.also p Each.none)

  pub each_take : {P : A → Type 0} {xs : List A} (n : ℕ) → Each P xs → Each P (take n xs)
  each_take zero h = Each.none
  each_take (suc n) Each.none = Each.none
  each_take (suc n) (Each.also {xs = xs} p h) = Each.also p (each_take {xs = xs} n h)

  pub each-drop : {P : A → Type 0} {xs : List A} (n : ℕ) → Each P xs → Each P (drop n xs)
  each-drop zero h = h
  each-drop (suc n) Each.none = Each.none
  each-drop (suc n) (Each.also {xs = xs} p h) = each-drop {xs = xs} n h

  pub each-without : {P : A → Type 0} {xs : List A} (at : ℕ) → Each P xs → Each P (take at xs ++ drop (at + 1) xs)
  each-without at h = each_append (each_take at h) (each-drop (at + 1) h)

  pub each_set : {P : A → Type 0} {xs : List A} (i : ℕ) {e : A} → Each P xs → P e → Each P (set xs i e)
  each_set i Each.none p = Each.none
  each_set zero (Each.also q h) p = Each.also p h
  each_set (suc i) (Each.also q h) p = Each.also q (each_set i h p)

  -- no element passes the test
  pub each_none : (f : A → Bool) (xs : List A) → some f xs ≡ false → Each (λ x. f x ≡ false) xs
  unfolding some
  each_none f [] h = Each.none
  each_none f (x ∷ xs) h = let p = neither (f x) (some f xs) h in Each.also p.0 (each_none f xs p.1)

  -- ---- each two in order
  pub order-pair : {R S : A → A → Type 0} {xs : List A} → InOrder R xs → InOrder S xs → InOrder (λ x y. R x y × S x y) xs
  order-pair InOrder.none InOrder.none = InOrder.none
  order-pair (InOrder.also k o) (InOrder.also l q) = InOrder.also (each-pair k l) (order-pair o q)

  pub order-both : {P : A → Type 0} {R S : A → A → Type 0} {xs : List A} → Each P xs → InOrder R xs → ((x y : A) → P x → P y → R x y → S x y) → InOrder S xs
  order-both Each.none InOrder.none f = InOrder.none
  order-both (Each.also {x = x} p ps) (InOrder.also k o) f = InOrder.also (each_both ps k (λ y q r. f x y p q r)) (order-both ps o f)

  pub order-last : {R : A → A → Type 0} {xs : List A} {e : A} → InOrder R xs → Each (λ x. R x e) xs → InOrder R (xs ++ e ∷ [])
  order-last InOrder.none h = InOrder.also Each.none InOrder.none
  order-last (InOrder.also q o) (Each.also p h) = InOrder.also (each_last q p) (order-last o h)

  pub order-drop : {R : A → A → Type 0} {xs : List A} (n : ℕ) → InOrder R xs → InOrder R (drop n xs)
  order-drop zero o = o
  order-drop (suc n) InOrder.none = InOrder.none
  order-drop (suc n) (InOrder.also {xs = xs} q o) = order-drop {xs = xs} n o

  pub order-without : {R : A → A → Type 0} {xs : List A} (at : ℕ) → InOrder R xs → InOrder R (take at xs ++ drop (at + 1) xs)
  order-without {R} {xs} at o = subst (λ (n : ℕ). InOrder R (take at xs ++ drop n xs)) (sym (add-one at)) (go at o)
    where
      go : {ys : List A} (n : ℕ) → InOrder R ys → InOrder R (take n ys ++ drop (suc n) ys)
      go zero InOrder.none = InOrder.none
      go (suc n) InOrder.none = InOrder.none
      go zero (InOrder.also q o) = o
      go (suc n) (InOrder.also {xs = ys} q o) = InOrder.also (each_append (each_take n q) (each-drop (suc n) q)) (go {ys = ys} n o)

  -- an element is put in another's place: those ahead must stand so to it, and it to those behind as the other did
  pub order-set : {R : A → A → Type 0} {xs : List A} (at : ℕ) {e : A} (d : A) → at < length xs → InOrder R xs → Each (λ x. R x e) (take at xs) → ((y : A) → R (get_or xs at d) y → R e y) → InOrder R (set xs at e)
  order-set at d lt InOrder.none h f = InOrder.none
  order-set zero d lt (InOrder.also q o) h f = InOrder.also (each_map f q) o
  order-set (suc at) d lt (InOrder.also q o) (Each.also p h) f = InOrder.also (each_set at q p) (order-set at d (le_of_suc-le-suc lt) o h f)

  -- those ahead of a place stand so to the element there
  pub order-ahead : {R : A → A → Type 0} {xs : List A} (at : ℕ) (d : A) → at < length xs → InOrder R xs → Each (λ x. R x (get_or xs at d)) (take at xs)
  order-ahead zero d lt o = Each.none
  order-ahead (suc at) d lt InOrder.none = Each.none
  order-ahead (suc at) d lt (InOrder.also {xs = xs} q o) =
      Each.also (each_at q at d (le_of_suc-le-suc lt)) (order-ahead {xs = xs} at d (le_of_suc-le-suc lt) o)
