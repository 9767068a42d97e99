-- How a list and the words on lists go one element on, as a loop does.
use Prim.Native.Nat.{ℕ, ◌+◌, ◌≤◌, ◌<◌}
use mathlib.Core.Path.{◌≡◌, refl, ap}
use mathlib.Core.Bool.{Bool, true, false, ◌&&◌, ◌||◌}
use mathlib.Core.List.{List, [], ◌∷◌}
use native.Mathlib.Numerals.{add-one}
use native.Mathlib.Omega.{arith}
use lib.Dec.{eqb, ltb}
use lib.ListN.{length, get_or, take, drop, length-take, drop_of_length-le}
use lib.Seq.{drop-cons, get_or-take}
use Rattle.rules.specs.Lists.{some, total}
use Rattle.rules.specs.Records.{member, meets, rising, rising_past}

module _ {A : Type 0} where
  -- the first n of the elements, seen from i on
  pub part_step : (l : List A) (n i : ℕ) (d : A) → i < n → n ≤ length l → drop i (take n l) ≡ get_or l i d ∷ drop (i + 1) (take n l)
  part_step l n i d h le =
      let k : i < length (take n l) = simp length-take (omega arith) in
      rw (add-one, drop-cons (take n l) i d, get_or-take)

  pub part_end : (l : List A) (n i : ℕ) → n ≤ i → drop i (take n l) ≡ []
  part_end l n i h =
      let k : length (take n l) ≤ i = simp length-take (omega arith) in
      drop_of_length-le (take n l) k

  -- the whole list, seen from i on
  pub list-step : (l : List A) (i : ℕ) (d : A) → i < length l → drop i l ≡ get_or l i d ∷ drop (i + 1) l
  list-step l i d h = rw add-one (drop-cons l i d h)

  pub some-step : (f : A → Bool) (l : List A) (i : ℕ) (d : A) → i < length l → some f (drop i l) ≡ (f (get_or l i d) || some f (drop (i + 1) l))
  unfolding some
  some-step f l i d h = ap (some f) (list-step l i d h)

  pub some_end : (f : A → Bool) (l : List A) (i : ℕ) → length l ≤ i → some f (drop i l) ≡ false
  unfolding some
  some_end f l i h = ap (some f) (drop_of_length-le l h)

  pub total-step : (f : A → ℕ) (l : List A) (i : ℕ) (d : A) → i < length l → total f (drop i l) ≡ f (get_or l i d) + total f (drop (i + 1) l)
  unfolding total
  total-step f l i d h = ap (total f) (list-step l i d h)

  pub total-end : (f : A → ℕ) (l : List A) (i : ℕ) → length l ≤ i → total f (drop i l) ≡ 0
  unfolding total
  total-end f l i h = ap (total f) (drop_of_length-le l h)

-- ---- records
pub member-step : (r : ℕ) (l : List ℕ) (i : ℕ) → i < length l → member r (drop i l) ≡ (eqb (get_or l i 0) r || member r (drop (i + 1) l))
unfolding member
member-step r l i h = some-step (λ x. eqb x r) l i 0 h

pub member-end : (r : ℕ) (l : List ℕ) (i : ℕ) → length l ≤ i → member r (drop i l) ≡ false
unfolding member
member-end r l i h = some_end (λ x. eqb x r) l i h

pub meets-step : (l ys : List ℕ) (i : ℕ) → i < length l → meets (drop i l) ys ≡ (member (get_or l i 0) ys || meets (drop (i + 1) l) ys)
unfolding meets
meets-step l ys i h = some-step (λ x. member x ys) l i 0 h

pub meets-end : (l ys : List ℕ) (i : ℕ) → length l ≤ i → meets (drop i l) ys ≡ false
unfolding meets
meets-end l ys i h = some_end (λ x. member x ys) l i h

pub rising-first : (l : List ℕ) → rising l ≡ rising_past (get_or l 0 0) (drop 1 l)
unfolding rising rising_past
rising-first [] = refl
rising-first (x ∷ l) = refl

pub rising_step : (b : ℕ) (l : List ℕ) (i : ℕ) → i < length l → rising_past b (drop i l) ≡ (ltb b (get_or l i 0) && rising_past (get_or l i 0) (drop (i + 1) l))
unfolding rising_past
rising_step b l i h = ap (rising_past b) (list-step l i 0 h)

pub rising-end : (b : ℕ) (l : List ℕ) (i : ℕ) → length l ≤ i → rising_past b (drop i l) ≡ true
unfolding rising_past
rising-end b l i h = ap (rising_past b) (drop_of_length-le l h)
