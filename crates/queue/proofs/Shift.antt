-- A list from which one element is taken, those behind it copied one place up.
use Prim.Native.Nat.{ℕ, zero, suc, ◌+◌, ◌-◌, ◌≤◌, ◌<◌}
use mathlib.Core.Path.{◌≡◌, refl, sym, ap, subst, ◌∙◌}
use mathlib.Core.Logic.{⊎_elim}
use mathlib.Core.List.{List, [], ◌∷◌, ◌++◌}
use native.Mathlib.Nat.{not-suc-le-zero, le_of_suc-le-suc, le_refl}
use native.Mathlib.Numerals.{add-one}
use native.Mathlib.Omega.{arith}
use lib.ListN.{length, get_or, take, drop, set, replicate, length-drop, length-set}
use lib.Seq.{paste, take-paste, drop-paste, length-paste, take-set-le, get_or-set_same, get_or-take, drop-cons, drop-drop, drop-set-lt}
use Rattle.std.proofs.lemmas.List.{drop-take}
use Rattle.std.proofs.lemmas.Grind.{common_steps}
use Rattle.rules.proofs.Tests.{lt-or-ge}

-- those from n + 1 on stay, and the place n is given z
module _ {A : Type 0} (l : List A) (at n : ℕ) (z : A) (h : at ≤ n) (lt : n < length l) where
  abbrev up : List A
  up = paste l at (drop (at + 1) l) (n - at)

  abbrev pub shifted : List A
  shifted = set up n z

  within : n - at ≤ length (drop (at + 1) l)
  within = omega (arith, length-drop (at + 1) l)

  whole : at + (n - at) ≡ n
  whole = omega arith

  past : at + 1 + (n - at) ≡ n + 1
  past = omega arith

  there : n < length up
  there = omega (arith, length-paste l at (drop (at + 1) l) (n - at) (omega arith) within)

  front : take n up ≡ take at l ++ take (n - at) (drop (at + 1) l)
  front = subst (λ (k : ℕ). take k up ≡ take at l ++ take (n - at) (drop (at + 1) l)) whole (take-paste l at (drop (at + 1) l) (n - at) (omega arith) within)

  back : drop n up ≡ drop n l
  back = subst (λ (k : ℕ). drop k up ≡ drop k l) whole (drop-paste l at (drop (at + 1) l) (n - at) (omega arith) within)

  pub shift-list : take n shifted ≡ take at (take (n + 1) l) ++ drop (at + 1) (take (n + 1) l)
  shift-list =
      let head : take at (take (n + 1) l) ≡ take at l = grind (arith, common_steps) in
      let tail : drop (at + 1) (take (n + 1) l) ≡ take (n - at) (drop (at + 1) l) = rw (sym past) (drop-take (at + 1) (n - at) l) in
      take-set-le n up n z (le_refl n) ∙ front ∙ sym (cc (head, tail))

  pub shift-rest : (m : ℕ) → n < m → drop (n + 1) l ≡ replicate (m - (n + 1)) z → drop n shifted ≡ replicate (m - n) z
  shift-rest m below e =
      let b : n < length shifted = omega (arith, there, length-set up n z) in
      let k : m - n ≡ suc (m - (n + 1)) = omega arith in
      let tail : drop (suc n) shifted ≡ replicate (m - (n + 1)) z = rw (← (add-one n)) (drop-set-lt (n + 1) up n z (omega arith) ∙ sym (drop-drop 1 n up) ∙ ap (drop 1) back ∙ drop-drop 1 n l ∙ e) in
      rw k (drop-cons shifted n z b ∙ cc (get_or-set_same up n z z there, tail))

  -- what holds of the elements up to n holds of those that are left of them
  pub shift-all : (P : A → Type 0) (d : A) → ((j : ℕ) → j < n + 1 → P (get_or l j d)) → (j : ℕ) → j < n → P (get_or shifted j d)
  shift-all P d all j below =
      let left : get_or shifted j d ≡ get_or (take at (take (n + 1) l) ++ drop (at + 1) (take (n + 1) l)) j d = sym (get_or-take n shifted j d below) ∙ ap (λ (t : List A). get_or t j d) shift-list in
      ⊎_elim
      (λ (ahead : j < at). let same : get_or (take at (take (n + 1) l) ++ drop (at + 1) (take (n + 1) l)) j d ≡ get_or l j d = grind (arith, common_steps) in subst P (sym (left ∙ same)) (all j (omega arith)))
      (λ (behind : at ≤ j). let same : get_or (take at (take (n + 1) l) ++ drop (at + 1) (take (n + 1) l)) j d ≡ get_or l (j + 1) d = grind (arith, common_steps) in subst P (sym (left ∙ same)) (all (j + 1) (omega arith)))
      (lt-or-ge j at)

-- ---- place by place
module _ {A : Type 0} where
  -- the list without its element at n
  abbrev without : ℕ → List A → List A
  without n [] = []
  without zero (x ∷ xs) = xs
  without (suc n) (x ∷ xs) = x ∷ without n xs

  take-without : (n : ℕ) (l : List A) → take n (without n l) ≡ take n l
  take-without zero l = refl
  take-without (suc n) [] = refl
  take-without (suc n) (x ∷ xs) = ap (λ (t : List A). x ∷ t) (take-without n xs)

  get_or-without : (n m : ℕ) (l : List A) (d : A) → n ≤ m → get_or (without n l) m d ≡ get_or l (suc m) d
  get_or-without n m [] d h = refl
  get_or-without zero m (x ∷ xs) d h = refl
  get_or-without (suc n) zero (x ∷ xs) d h = absurd (not-suc-le-zero h)
  get_or-without (suc n) (suc m) (x ∷ xs) d h = get_or-without n m xs d (le_of_suc-le-suc h)

  length_without : (n : ℕ) (l : List A) → n < length l → suc (length (without n l)) ≡ length l
  length_without n [] h = absurd (not-suc-le-zero h)
  length_without zero (x ∷ xs) h = refl
  length_without (suc n) (x ∷ xs) h = ap suc (length_without n xs (le_of_suc-le-suc h))

  -- next is the list with the elements past n moved one place up, as far as i
  pub record Shifted (n i : ℕ) (l next : List A) : Type 0 where
    pub same : length next ≡ length l
    pub moved : take i next ≡ take i (without n l)
    pub kept : drop i next ≡ drop i l

  pub shift_none : (n : ℕ) (l : List A) → Shifted n n l l
  shift_none n l = record { same = refl; moved = sym (take-without n l); kept = refl }

  module _ {n i : ℕ} {l next : List A} (s : Shifted n i l next) (h : n ≤ i) where
    -- the last place is then given z
    pub shift_rest : i < length l → (z : A) (m : ℕ) → i < m → drop (i + 1) l ≡ replicate (m - (i + 1)) z → drop i (set next i z) ≡ replicate (m - i) z
    shift_rest lt z m below e =
        let b : i < length (set next i z) = simp length-set (omega (arith, s.same)) in
        let c : i < length next = omega (arith, s.same) in
        let u : i < i + 1 = omega arith in
        let k : m - i ≡ suc (m - (i + 1)) = omega arith in
        let tail : drop (suc i) (set next i z) ≡ replicate (m - (i + 1)) z = rw (← (add-one i)) (drop-set-lt (i + 1) next i z u ∙ sym (drop-drop 1 i next) ∙ ap (λ (t : List A). drop 1 t) s.kept ∙ drop-drop 1 i l ∙ e) in
        rw k (drop-cons (set next i z) i z b ∙ cc (get_or-set_same next i z z c, tail))
