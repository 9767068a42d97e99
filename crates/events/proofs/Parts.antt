-- The bytes and the parts of a body, by their places in the file.
use Prim.Native.Nat.{ℕ, zero, suc, ◌+◌, ◌-◌, ◌≤◌, ◌<◌}
use mathlib.Core.Path.{◌≡◌, sym, ap, ◌∙◌}
use mathlib.Core.List.{List, [], ◌∷◌}
use native.Mathlib.Nat.{zero-add, suc-add}
use native.Mathlib.Omega.{arith}
use lib.ListN.{take, drop}
use lib.Seq.{get_or-take, get_or-drop, drop-drop, take-nil}
use Rattle.events.specs.Events.{byte_at, count_in}

-- ---- a part of a part
drop-take : (m n : ℕ) (l : List ℕ) → drop m (take (m + n) l) ≡ take n (drop m l)
drop-take zero n l = ap (λ (k : ℕ). take k l) (zero-add n)
drop-take (suc m) n [] = ap (drop (suc m)) (take-nil (suc m + n)) ∙ sym (take-nil n)
drop-take (suc m) n (x ∷ xs) = ap (λ (k : ℕ). drop (suc m) (take k (x ∷ xs))) (suc-add m n) ∙ drop-take m n xs

-- ---- numbers of a part, and what is left of one
module _ (file : List ℕ) (a n : ℕ) where
  pub byte-of-part : (i j : ℕ) → i < n → a + i ≡ j → byte_at (take n (drop a file)) i ≡ byte_at file j
  byte-of-part i j h e = get_or-take n (drop a file) i 0 h ∙ get_or-drop a file i 0 ∙ ap (λ (k : ℕ). byte_at file k) e

  pub rest-of-part : (m j : ℕ) → m ≤ n → a + m ≡ j → drop m (take n (drop a file)) ≡ take (n - m) (drop j file)
  rest-of-part m j h e =
      let whole : n ≡ m + (n - m) = omega arith in
      ap (λ (k : ℕ). drop m (take k (drop a file))) whole ∙ drop-take m (n - m) (drop a file) ∙ ap (take (n - m)) (drop-drop m a file ∙ ap (λ (k : ℕ). drop k file) e)

-- ---- the third byte of a body, where it has one
pub third-byte : (file : List ℕ) (at n : ℕ) → 3 ≤ n → count_in (take n (drop (at + 3) file)) ≡ byte_at file (at + 5)
third-byte file at n h =
    let lt : 2 < n = omega arith in
    let place : at + 3 + 2 ≡ at + 5 = omega arith in
    byte-of-part file (at + 3) n 2 (at + 5) lt place

-- from the start of the writes to the end of the body
pub left_behind : (at n r : ℕ) → at + 3 + n - (at + 6 + r) ≡ n - 3 - r
left_behind at n r = omega arith
