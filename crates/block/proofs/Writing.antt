-- Bytes that are written from front to back: what stands before a place stays, and the new bytes stand behind it.
use Prim.Native.Nat.{ℕ, ◌+◌, ◌-◌, ◌*◌, ◌/◌, ◌%◌, ◌^◌, ◌≤◌, ◌<◌}
use mathlib.Core.Path.{◌≡◌, refl, sym, ap, ◌∙◌}
use mathlib.Core.List.{List, [], ◌∷◌, ◌++◌, append_assoc, append-nil}
use native.Mathlib.Omega.{arith}
use native.Mathlib.Numerals.{add-one}
use native.Mathlib.Nat.{zero-mul, add-mul, one-mul, add_assoc}
use lib.ListN.{length, get_or, take, drop, replicate, length-append, length-replicate, replicate-append-replicate, take-append-drop, length-drop, drop_of_length-le}
use lib.Seq.{length-take-le, take-suc, paste, length-paste, take-paste, take-length, drop-append-add, take_all, take_at, drop_at}
use Rattle.std.specs.Int.{w16, w32, to_be_bytes}
use borrow.Rule.Slice.PartMut.{put_mid}
use Rattle.block.specs.Bytes.{two, four, padded}
use Rattle.block.specs.Block.{flat}

-- ---- numbers, the high byte first
pub two-bytes : (n : ℕ) → n < 2 ^ 16 → to_be_bytes w16 n ≡ two n
two-bytes n fits =
    let high : n / 256 % 256 ≡ n / 256 = omega arith in
    rw high

pub four-bytes : (n : ℕ) → n < 2 ^ 32 → to_be_bytes w32 n ≡ four n
four-bytes n fits =
    let a : n / 16777216 % 256 ≡ n / 65_536 / 256 = omega arith in
    let b : n / 65_536 % 256 ≡ n / 65_536 % 256 = refl in
    let c : n / 256 % 256 ≡ n % 65_536 / 256 = omega arith in
    let d : n % 256 ≡ n % 65_536 % 256 = omega arith in
    cc

-- ---- what stands up to the end of the new bytes
pub put_first : (b p : List ℕ) (at : ℕ) {b' : List ℕ} → at + length p ≤ length b → b' ≡ paste b at p (length p) → take (at + length p) b' ≡ take at b ++ p
put_first b p at {b'} room is =
    ap (take (at + length p)) is ∙ take-paste b at p (length p) (omega arith) (omega arith) ∙ ap (λ (t : List ℕ). take at b ++ t) (take-length p)

pub padded-size : (n : ℕ) (xs : List ℕ) → length xs ≤ n → length (padded n xs) ≡ n
padded-size n xs few = omega (arith, length-append xs (replicate (n - length xs) 0), length-replicate {A = ℕ} (n - length xs) 0)

-- an array of 8 that is zero from n on
pub row-padded : (xs : List ℕ) (n : ℕ) → length xs ≡ 8 → n ≤ 8 → drop n xs ≡ replicate (8 - n) 0 → xs ≡ padded 8 (take n xs)
row-padded xs n size few rest =
    let room : n ≤ length xs = omega arith in
    sym (take-append-drop n xs) ∙ ap (λ (t : List ℕ). take n xs ++ t) (rest ∙ ap (λ (k : ℕ). replicate (8 - k) 0) (sym (length-take-le n xs room)))

-- ---- an entry's two lists, each written whole with the zeros behind it, the second over the zeros behind the first
module _ (x r w d : List ℕ) (few : length r ≤ 8) (few' : length w ≤ 8) where
  abbrev room : List ℕ
  room = replicate (8 - length r) 0 ++ (replicate 8 0 ++ d)

  behind : drop 8 room ≡ replicate (8 - length r) 0 ++ d
  behind =
      let z : List ℕ = replicate (8 - length r) 0 in
      let n : 8 - length r + 8 ≡ 8 + (8 - length r) = omega arith in
      let size : length {A = ℕ} (replicate 8 0) ≡ 8 = refl in
      ap (drop 8) (sym (append_assoc z (replicate 8 0) d) ∙ ap (λ (t : List ℕ). t ++ d) (replicate-append-replicate (8 - length r) 8 0 ∙ ap (λ (k : ℕ). replicate k 0) n ∙ sym (replicate-append-replicate 8 (8 - length r) 0)) ∙ append_assoc (replicate 8 0) z d)
      ∙ drop_at (replicate 8 0) (z ++ d) 8 size

  pub lists-put : paste (((x ++ r) ++ replicate (8 - length r) 0) ++ (replicate 8 0 ++ d)) (length x + length r) (padded 8 w) 8 ≡ (x ++ padded 16 (r ++ w)) ++ d
  lists-put =
      let z : List ℕ = replicate (8 - length r) 0 in
      let v : List ℕ = replicate (8 - length w) 0 in
      let size : length (x ++ r) ≡ length x + length r = length-append x r in
      let whole : length (padded 8 w) ≤ 8 = omega (arith, length-append w v, length-replicate {A = ℕ} (8 - length w) 0) in
      let n : 8 - length w + (8 - length r) ≡ 16 - length (r ++ w) = omega (arith, length-append r w) in
      ap (λ (t : List ℕ). paste t (length x + length r) (padded 8 w) 8) (append_assoc (x ++ r) z (replicate 8 0 ++ d))
      ∙ ap (λ (t : List ℕ). t ++ take 8 (padded 8 w) ++ drop (length x + length r + 8) ((x ++ r) ++ room)) (take_at (x ++ r) room (length x + length r) size)
      ∙ ap (λ (t : List ℕ). (x ++ r) ++ t ++ drop (length x + length r + 8) ((x ++ r) ++ room)) (take_all 8 (padded 8 w) whole)
      ∙ ap (λ (k : ℕ). (x ++ r) ++ padded 8 w ++ drop (k + 8) ((x ++ r) ++ room)) (sym size)
      ∙ ap (λ (t : List ℕ). (x ++ r) ++ padded 8 w ++ t) (drop-append-add (x ++ r) room 8 ∙ behind)
      ∙ append_assoc (x ++ r) (padded 8 w) (z ++ d)
      ∙ ap (λ (t : List ℕ). (x ++ r) ++ t) (append_assoc w v (z ++ d) ∙ ap (λ (t : List ℕ). w ++ t) (sym (append_assoc v z d) ∙ ap (λ (t : List ℕ). t ++ d) (replicate-append-replicate (8 - length w) (8 - length r) 0 ∙ ap (λ (k : ℕ). replicate k 0) n)))
      ∙ sym (append_assoc (x ++ r) w (replicate (16 - length (r ++ w)) 0 ++ d))
      ∙ sym (append_assoc ((x ++ r) ++ w) (replicate (16 - length (r ++ w)) 0) d)
      ∙ ap (λ (t : List ℕ). t ++ replicate (16 - length (r ++ w)) 0 ++ d) (append_assoc x r w)
      ∙ ap (λ (t : List ℕ). t ++ d) (append_assoc x (r ++ w) (replicate (16 - length (r ++ w)) 0))

-- the reads, zeros behind them, and the writes over those zeros
pub lists-written : (b r w : List ℕ) (at : ℕ) {b₁ b₂ b₃ : List ℕ} → length r ≤ 8 → length w ≤ 8 → at + 16 ≤ length b
    → b₁ ≡ paste b at (padded 8 r) (length (padded 8 r))
    → b₂ ≡ paste b₁ (at + 8) (replicate 8 0) 8
    → b₃ ≡ paste b₂ (at + length r) (padded 8 w) (length (padded 8 w))
    → take (at + 16) b₃ ≡ take at b ++ padded 16 (r ++ w)
lists-written b r w at {b₁} {b₂} {b₃} few few' room e₁ e₂ e₃ =
    let x = take at b in
    let z : List ℕ = replicate (8 - length r) 0 in
    let d = drop (at + 16) b₂ in
    let eight : length (padded 8 r) ≡ 8 = padded-size 8 r few in
    let eight' : length (padded 8 w) ≡ 8 = padded-size 8 w few' in
    let sixteen : length (padded 16 (r ++ w)) ≡ 16 = padded-size 16 (r ++ w) (omega (arith, length-append r w)) in
    let size : length x ≡ at = length-take-le at b (omega arith) in
    let same : length b₁ ≡ length b = ap length e₁ ∙ length-paste b at (padded 8 r) (length (padded 8 r)) (omega (arith, eight)) (omega arith) in
    let first : take (at + 8) b₁ ≡ x ++ padded 8 r = rw eight at (put_first b (padded 8 r) at (omega (arith, eight)) e₁) in
    let n : at + 16 ≡ at + 8 + 8 = omega arith in
    let both : take (at + 16) b₂ ≡ (x ++ padded 8 r) ++ replicate 8 0 = ap (λ (k : ℕ). take k b₂) n ∙ put_first b₁ (replicate 8 0) (at + 8) (omega arith) e₂ ∙ ap (λ (t : List ℕ). t ++ replicate 8 0) first in
    let split : b₂ ≡ ((x ++ r) ++ z) ++ (replicate 8 0 ++ d) = sym (take-append-drop (at + 16) b₂) ∙ ap (λ (t : List ℕ). t ++ d) (both ∙ ap (λ (t : List ℕ). t ++ replicate 8 0) (sym (append_assoc x r z))) ∙ append_assoc ((x ++ r) ++ z) (replicate 8 0) d in
    let whole : b₃ ≡ (x ++ padded 16 (r ++ w)) ++ d = e₃ ∙ ap (λ (k : ℕ). paste b₂ (at + length r) (padded 8 w) k) eight' ∙ ap (λ (t : List ℕ). paste t (at + length r) (padded 8 w) 8) split ∙ ap (λ (k : ℕ). paste (((x ++ r) ++ z) ++ (replicate 8 0 ++ d)) (k + length r) (padded 8 w) 8) (sym size) ∙ lists-put x r w d few few' in
    ap (take (at + 16)) whole ∙ take_at (x ++ padded 16 (r ++ w)) d (at + 16) (length-append x (padded 16 (r ++ w)) ∙ rw (size, sixteen))

-- ---- the bytes of the elements, one after the other
pub flat-last : {A : Type 0} (f : A → List ℕ) (xs : List A) (x : A) → flat f (xs ++ x ∷ []) ≡ flat f xs ++ f x
unfolding flat
flat-last f [] x = append-nil (f x)
flat-last f (y ∷ xs) x = ap (λ (t : List ℕ). f y ++ t) (flat-last f xs x) ∙ sym (append_assoc (f y) (flat f xs) (f x))

-- ---- written from front to back: what stands before a place, and then the bytes of the first i elements, w each
module _ {A : Type 0} (f : A → List ℕ) (w base : ℕ) (l : List A) where
  pub record Rows (b₀ : List ℕ) (i : ℕ) (b : List ℕ) : Type 0 where
    pub size : length b ≡ length b₀
    pub first : take (base + i * w) b ≡ take base b₀ ++ flat f (take i l)

  pub rows_none : (b : List ℕ) → Rows b 0 b
  unfolding flat
  rows_none b = record { size = refl; first = let e : base + 0 * w ≡ base = ap (λ (k : ℕ). base + k) (zero-mul w) ∙ (let h : base + 0 ≡ base = omega arith in h) in ap (λ (m : ℕ). take m b) e ∙ sym (append-nil (take base b)) }

  pub rows_more : {b₀ b b' p : List ℕ} {i : ℕ} → Rows b₀ i b → (at : ℕ) → at ≡ base + i * w → (d : A) → i < length l → p ≡ f (get_or l i d) → length p ≡ w → length b' ≡ length b → take (at + length p) b' ≡ take at b ++ p → Rows b₀ (i + 1) b'
  rows_more {b₀} {b} {b'} {p} {i} r at place d lt is width same put =
      let m : base + (i + 1) * w ≡ at + length p = ap (λ (k : ℕ). base + k) (add-mul i 1 w ∙ ap (λ (k : ℕ). i * w + k) (one-mul w ∙ sym width)) ∙ sym (add_assoc base (i * w) (length p)) ∙ ap (λ (k : ℕ). k + length p) (sym place) in
      record {
        size = same ∙ r.size;
        first = ap (λ (k : ℕ). take k b') m ∙ put ∙ ap (λ (k : ℕ). take k b ++ p) place ∙ ap (λ (t : List ℕ). t ++ p) r.first ∙ append_assoc (take base b₀) (flat f (take i l)) p ∙ ap (λ (t : List ℕ). take base b₀ ++ t) (ap (λ (t : List ℕ). flat f (take i l) ++ t) is ∙ sym (flat-last f (take i l) (get_or l i d)) ∙ ap (flat f) (sym (take-suc l i d lt) ∙ ap (λ (k : ℕ). take k l) (sym (add-one i))));
      }

  -- the next element's bytes are put
  pub rows-put : {b₀ b b' p : List ℕ} {i : ℕ} → Rows b₀ i b → (at : ℕ) → at ≡ base + i * w → (d : A) → i < length l → p ≡ f (get_or l i d) → length p ≡ w → at + length p ≤ length b → b' ≡ paste b at p (length p) → Rows b₀ (i + 1) b'
  rows-put {b₀} {b} {b'} {p} {i} r at place d lt is width room put =
      let same : length b' ≡ length b = ap length put ∙ length-paste b at p (length p) room (omega arith) in
      rows_more r at place d lt is width same (put_first b p at room put)

  -- all of them are written
  pub rows-all : {b₀ b : List ℕ} {i : ℕ} → Rows b₀ i b → (n : ℕ) → length l ≡ n → n ≤ i → i ≤ n → take (base + n * w) b ≡ take base b₀ ++ flat f l
  rows-all {b₀} {b} {i} r n size past within =
      let all : i ≡ n = omega arith in
      let whole : length l ≤ n = omega arith in
      rw (take_all n l whole) at (rw all at r.first)

-- ---- written over up to the end
pub put-to-end : (b ys : List ℕ) (at : ℕ) {n : ℕ} → length b ≡ n → put_mid at (n - at) b ys ≡ take at b ++ ys
put-to-end b ys at {n} whole =
    let none : drop (n - at) (drop at b) ≡ [] = drop_of_length-le (drop at b) (omega (arith, whole, length-drop at b)) in
    ap (λ (t : List ℕ). take at b ++ (ys ++ t)) none ∙ ap (λ (t : List ℕ). take at b ++ t) (append-nil ys)
