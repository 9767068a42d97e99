-- An array that is filled from the front: what is not used yet stays as it was made.
use Prim.Native.Nat.{ℕ, suc, ◌+◌, ◌-◌, ◌<◌}
use mathlib.Core.Path.{◌≡◌, sym, ap, ◌∙◌}
use mathlib.Core.List.{List, [], ◌∷◌, ◌++◌}
use native.Mathlib.Numerals.{add-one}
use native.Mathlib.Omega.{arith}
use lib.ListN.{length, get_or, take, drop, set, replicate, length-set}
use lib.Seq.{drop-drop, drop-set-lt, take-suc-set, take-suc}

module _ {A : Type 0} where
  -- the array's first i elements are the list's, and the rest are z
  pub record Filled (size i : ℕ) (z : A) (list array : List A) : Type 0 where
    pub whole : length array ≡ size
    pub first : take i array ≡ take i list
    pub rest : drop i array ≡ replicate (size - i) z

  pub rest-next : (l : List A) (i n : ℕ) (z : A) → i < n → drop i l ≡ replicate (n - i) z → drop (i + 1) l ≡ replicate (n - (i + 1)) z
  rest-next l i n z h e =
      let k : n - i ≡ suc (n - (i + 1)) = omega arith in
      sym (drop-drop 1 i l) ∙ ap (λ (t : List A). drop 1 t) (e ∙ ap (λ (m : ℕ). replicate m z) k)

  pub filled_more : {size i : ℕ} {z : A} {list array : List A} → Filled size i z list array → i < size → i < length list → (d : A) → Filled size (i + 1) z list (set array i (get_or list i d))
  filled_more {size} {i} {z} {list} {array} f fits there d =
      let b : i < length array = omega (arith, f.whole) in
      let u : i < i + 1 = omega arith in
      record {
        whole = simp length-set f.whole;
        first = rw (add-one i) (take-suc-set array i (get_or list i d) b ∙ ap (λ (t : List A). t ++ get_or list i d ∷ []) f.first ∙ sym (take-suc list i d there));
        rest = drop-set-lt (i + 1) array i (get_or list i d) u ∙ rest-next array i size z fits f.rest;
      }
