-- Lists that are filled by place, parts of a list, and zeros.
use Prim.Native.Nat.{ℕ, zero, suc, ◌+◌, ◌-◌, ◌≤◌, ◌<◌, min}
use mathlib.Core.Path.{◌≡◌, refl, sym, ap, subst, ◌∙◌}
use mathlib.Core.List.{List, [], ◌∷◌, ◌++◌, map, append_assoc, map-append}
use mathlib.Core.Logic.{⊎_elim}
use native.Mathlib.Omega.{arith}
use native.Mathlib.Numerals.{add-one}
use native.Mathlib.Nat.{not-suc-le-zero}
use lib.ListN.{length, get_or, take, drop, set, replicate, length-append, length-drop, length-map, length-set, get_or-append}
use lib.Seq.{get_or-drop, take-suc, set_at, append_snoc, take_all, take_at, drop_at, take-suc-set, get_or-append_seam}
use Rattle.rules.proofs.Tests.{lt-or-ge}
use Rattle.rules.proofs.Mapped.{map-set}
use Rattle.block.specs.Block.{tab}
use Rattle.block.specs.Clauses.{part}

-- ---- the list of f 0 .. f (n - 1)
module _ {A : Type 0} where
  pub tab-length : (f : ℕ → A) (n : ℕ) → length (tab f n) ≡ n
  unfolding tab
  tab-length f zero = refl
  tab-length f (suc n) = length-append (tab f n) (f n ∷ []) ∙ rw (tab-length f n) (omega arith)

  pub tab-cong : (f g : ℕ → A) (n : ℕ) → ((k : ℕ) → k < n → f k ≡ g k) → tab f n ≡ tab g n
  unfolding tab
  tab-cong f g zero h = refl
  tab-cong f g (suc n) h =
      ap (λ t. t ++ f n ∷ []) (tab-cong f g n (λ k (lt : k < n). h k (omega arith))) ∙ ap (λ x. tab g n ++ x ∷ []) (h n (omega arith))

  tab-list : (l : List A) (d : A) (n : ℕ) → n ≤ length l → tab (λ j. get_or l j d) n ≡ take n l
  unfolding tab
  tab-list l d zero h = refl
  tab-list l d (suc n) h = ap (λ t. t ++ get_or l n d ∷ []) (tab-list l d n (omega arith)) ∙ sym (take-suc l n d (omega arith))

  -- a list that has at each place what f says
  pub tab-is : (f : ℕ → A) (l : List A) (d : A) (n : ℕ) → length l ≡ n → ((i : ℕ) → i < n → f i ≡ get_or l i d) → tab f n ≡ l
  tab-is f l d n size h = tab-cong f (λ j. get_or l j d) n h ∙ tab-list l d n (omega arith) ∙ take_all n l (omega arith)

  pub tab-get : (f : ℕ → A) (d : A) (n k : ℕ) → k < n → get_or (tab f n) k d ≡ f k
  unfolding tab
  tab-get f d zero k lt = absurd (not-suc-le-zero lt)
  tab-get f d (suc n) k lt = ⊎_elim
      (λ (less : k < n). get_or-append (tab f n) (f n ∷ []) d k (let z : k < length (tab f n) = omega (arith, tab-length f n) in z) ∙ tab-get f d n k less)
      (λ (more : n ≤ k).
      let e : k ≡ length (tab f n) = omega (arith, tab-length f n) in
      let j : n ≡ k = omega arith in
      ap (λ (m : ℕ). get_or (tab f n ++ f n ∷ []) m d) e ∙ get_or-append_seam (tab f n) (f n) [] d ∙ ap f j)
      (lt-or-ge k n)

pub map-tab : {A B : Type 0} (g : A → B) (f : ℕ → A) (n : ℕ) → map g (tab f n) ≡ tab (λ j. g (f j)) n
unfolding tab
map-tab g f zero = refl
map-tab g f (suc n) = map-append g (tab f n) (f n ∷ []) ∙ ap (λ t. t ++ g (f n) ∷ []) (map-tab g f n)

-- ---- an array that is filled by place: the first i of n places are filled, and the rest of m are as they were
module _ {A : Type 0} (f : ℕ → A) (z : A) where
  pub record Filled (m n i : ℕ) (a : List A) : Type 0 where
    pub within : i ≤ n
    pub is : a ≡ tab f i ++ replicate (m - i) z

  pub fill_none : (m n : ℕ) → Filled m n 0 (replicate m z)
  unfolding tab
  fill_none m n = record { within = omega arith; is = let h : m ≡ m - 0 = omega arith in ap (λ (k : ℕ). replicate k z) h }

  pub fill_more : {m n i : ℕ} {a : List A} → Filled m n i a → i < n → n ≤ m → (v : A) → v ≡ f i → Filled m n (i + 1) (set a i v)
  unfolding tab
  fill_more {m} {n} {i} {a} h lt le v e =
      let k : m - i ≡ suc (m - (i + 1)) = omega arith in
      let open_up : a ≡ tab f i ++ z ∷ replicate (m - (i + 1)) z = h.is ∙ ap (λ (j : ℕ). tab f i ++ replicate j z) k in
      record {
        within = omega arith;
        is =
            ap (λ (t : List A). set t i v) open_up
            ∙ set_at (tab f i) z _ v i (tab-length f i)
            ∙ sym (append_snoc (tab f i) v _)
            ∙ ap (λ (w : A). (tab f i ++ w ∷ []) ++ replicate (m - (i + 1)) z) e
            ∙ ap (λ (j : ℕ). tab f j ++ replicate (m - (i + 1)) z) (sym (add-one i));
      }

  pub fill_done : {m n i : ℕ} {a : List A} → Filled m n i a → n ≤ i → a ≡ tab f n ++ replicate (m - n) z
  fill_done {m} {n} {i} {a} h le = let q : i ≡ n = omega (arith, h.within) in rw (← q) h.is

  -- a loop that goes past n: up to there it fills, and from there on nothing changes
  pub fill_start : (m n : ℕ) → Filled m n (min 0 n) (replicate m z)
  fill_start m n = let h : 0 ≡ min 0 n = omega arith in subst (λ (k : ℕ). Filled m n k (replicate m z)) h (fill_none m n)

  pub fill_on : {m n k : ℕ} {a o : List A} → Filled m n (min k n) a → k < n → n ≤ m → o ≡ set a k (f k) → Filled m n (min (k + 1) n) o
  fill_on {m} {n} {k} {a} {o} h lt le is =
      let here : min k n ≡ k = omega arith in
      let next : k + 1 ≡ min (k + 1) n = omega arith in
      subst (Filled m n (min (k + 1) n)) (sym is) (subst (λ (j : ℕ). Filled m n j (set a k (f k))) next (fill_more (subst (λ (j : ℕ). Filled m n j a) here h) lt le (f k) refl))

  pub fill-past : {m n k : ℕ} {a o : List A} → Filled m n (min k n) a → n ≤ k → o ≡ a → Filled m n (min (k + 1) n) o
  fill-past {m} {n} {k} {a} {o} h past is =
      let stays : min k n ≡ min (k + 1) n = omega arith in
      subst (Filled m n (min (k + 1) n)) (sym is) (subst (λ (j : ℕ). Filled m n j a) stays h)

-- an array whose elements are seen through g
module _ {A B : Type 0} (g : A → B) (f : ℕ → B) where
  pub record Shown (m i : ℕ) (a : List A) : Type 0 where
    pub whole : length a ≡ m
    pub first : take i (map g a) ≡ tab f i

  pub shown-more : {m i : ℕ} {a : List A} → Shown m i a → i < m → (v : A) → g v ≡ f i → Shown m (i + 1) (set a i v)
  unfolding tab
  shown-more {m} {i} {a} h lt v e =
      let there : i < length (map g a) = omega (arith, length-map a g, h.whole) in
      record {
        whole = length-set a i v ∙ h.whole;
        first =
            ap (take (i + 1)) (map-set g a i v)
            ∙ ap (λ (k : ℕ). take k (set (map g a) i (g v))) (add-one i)
            ∙ take-suc-set (map g a) i (g v) there
            ∙ ap (λ (t : List B). t ++ g v ∷ []) h.first
            ∙ ap (λ (x : B). tab f i ++ x ∷ []) e
            ∙ ap (tab f) (sym (add-one i));
      }

  pub shown-all : {m i : ℕ} {a : List A} → Shown m i a → i ≡ m → map g a ≡ tab f m
  shown-all {m} {i} {a} h all =
      let whole : length (map g a) ≤ i = omega (arith, length-map a g, h.whole) in
      sym (take_all i (map g a) whole) ∙ h.first ∙ ap (tab f) all

-- ---- parts
-- as the code cuts it: from a to a + n
pub cut-part : {A : Type 0} (p : List A) (a n k : ℕ) → n ≡ k → take (a + n - a) (drop a p) ≡ take k (drop a p)
cut-part p a n k e = let h : a + n - a ≡ k = omega arith in ap (λ (m : ℕ). take m (drop a p)) h

pub tab-part : (b : List ℕ) (at n : ℕ) → at + n ≤ length b → tab (λ j. get_or b (at + j) 0) n ≡ part b at n
unfolding tab
tab-part b at zero h = refl
tab-part b at (suc n) h =
    let there : n < length (drop at b) = simp length-drop (omega arith) in
    ap (λ (t : List ℕ). t ++ get_or b (at + n) 0 ∷ []) (tab-part b at n (omega arith)) ∙ ap (λ (x : ℕ). part b at n ++ x ∷ []) (sym (get_or-drop at b n 0)) ∙ sym (take-suc (drop at b) n 0 there)

-- a list of numbers that has at each place what f says
pub tab-of : (f : ℕ → ℕ) (n : ℕ) (c : List ℕ) → length c ≡ n → ((k : ℕ) → k < n → get_or c k 0 ≡ f k) → c ≡ tab f n
tab-of f n c size h = sym (tab-is f c 0 n size (λ i (lt : i < n). sym (h i lt)))

pub part-here : (p x s : List ℕ) (at n : ℕ) → length p ≡ at → length x ≡ n → part (p ++ x ++ s) at n ≡ x
part-here p x s at n a e =
    ap (λ (t : List ℕ). take n (drop at t)) (append_assoc p x s) ∙ ap (take n) (drop_at p (x ++ s) at a) ∙ take_at x s n e

-- ---- zeros
pub take-replicate : {A : Type 0} (n k : ℕ) (z : A) → n ≤ k → take n (replicate k z) ≡ replicate n z
take-replicate zero k z h = refl
take-replicate (suc n) zero z h = absurd (not-suc-le-zero h)
take-replicate (suc n) (suc k) z h = ap (λ t. z ∷ t) (take-replicate n k z (omega arith))
