-- What is written back of bytes that keep the clauses is the same bytes.
use Prim.Native.Nat.{ℕ, zero, suc, ◌+◌, ◌-◌, ◌*◌, ◌/◌, ◌%◌, ◌≤◌, ◌<◌}
use mathlib.Core.Path.{◌≡◌, refl, sym, ap, ◌∙◌}
use mathlib.Core.List.{List, [], ◌∷◌, ◌++◌}
use native.Mathlib.Omega.{arith}
use mathlib.Core.Logic.{⊎_elim}
use native.Mathlib.Nat.{zero-mul, add-mul, one-mul}
use lib.ListN.{length, get_or, take, drop, replicate, length-append, length-drop, length-take, length-map, take-append-drop, get_or-eq_default}
use lib.Seq.{length-take-le, take-add, drop-drop, drop-cons, get_or-drop, get_or-take, take-suc}
use Rattle.rules.specs.Table.{Table}
use Rattle.rules.specs.Sound.{Each}
use Rattle.rules.specs.Sound.Each.{none, also}
use Rattle.rules.proofs.Tests.{lt-or-ge}
use Rattle.block.specs.Bytes.{code, padded, entry_bytes, meter_bytes, share_byte, head}
use Rattle.block.specs.Block.{flat, tab, block_of}
use Rattle.block.specs.Clauses.{part, two_at, mode_of, request_in, meter_from, meter_at, meters_in, count_in, row_at, rows_in, queue_in, table_in, RestZero, ListsKeep, AsAbove, Counted}
use Rattle.block.proofs.Places.{tab-length, map-tab}
use Rattle.block.proofs.Each.{each-tab}
use Rattle.block.proofs.Writing.{flat-last}

-- ---- numbers and states
high-back : (a b : ℕ) → b < 256 → (a * 256 + b) / 256 ≡ a
high-back a b h = omega arith

low-back : (a b : ℕ) → b < 256 → (a * 256 + b) % 256 ≡ b
low-back a b h = omega arith

code-back : (x : ℕ) → x ≤ 2 → code (mode_of x) ≡ x
code-back zero h = refl
code-back (suc zero) h = refl
code-back (suc (suc zero)) h = refl
code-back (suc (suc (suc n))) h = absurd (let z : 3 ≤ 2 = omega arith in omega arith)

-- ---- a list by its first elements
front8 : (p : List ℕ) → 8 ≤ length p → p ≡ get_or p 0 0 ∷ get_or p 1 0 ∷ get_or p 2 0 ∷ get_or p 3 0 ∷ get_or p 4 0 ∷ get_or p 5 0 ∷ get_or p 6 0 ∷ get_or p 7 0 ∷ drop 8 p
front8 (a ∷ b ∷ c ∷ d ∷ e ∷ f ∷ g ∷ h ∷ p) few = refl
front8 [] few = absurd (omega arith)
front8 (a ∷ []) few = absurd (omega arith)
front8 (a ∷ b ∷ []) few = absurd (omega arith)
front8 (a ∷ b ∷ c ∷ []) few = absurd (omega arith)
front8 (a ∷ b ∷ c ∷ d ∷ []) few = absurd (omega arith)
front8 (a ∷ b ∷ c ∷ d ∷ e ∷ []) few = absurd (omega arith)
front8 (a ∷ b ∷ c ∷ d ∷ e ∷ f ∷ []) few = absurd (omega arith)
front8 (a ∷ b ∷ c ∷ d ∷ e ∷ f ∷ g ∷ []) few = absurd (omega arith)

front6 : (p : List ℕ) → length p ≡ 6 → p ≡ get_or p 0 0 ∷ get_or p 1 0 ∷ get_or p 2 0 ∷ get_or p 3 0 ∷ get_or p 4 0 ∷ get_or p 5 0 ∷ []
front6 (a ∷ b ∷ c ∷ d ∷ e ∷ f ∷ []) six = refl
front6 (a ∷ b ∷ c ∷ d ∷ e ∷ f ∷ g ∷ p) six = absurd (omega arith)
front6 [] six = absurd (omega arith)
front6 (a ∷ []) six = absurd (omega arith)
front6 (a ∷ b ∷ []) six = absurd (omega arith)
front6 (a ∷ b ∷ c ∷ []) six = absurd (omega arith)
front6 (a ∷ b ∷ c ∷ d ∷ []) six = absurd (omega arith)
front6 (a ∷ b ∷ c ∷ d ∷ e ∷ []) six = absurd (omega arith)

abbrev pub Small : List ℕ → Type 0
Small p = (i : ℕ) → get_or p i 0 < 256

-- ---- an entry
module _ (p : List ℕ) (size : length p ≡ 24) (small : Small p) (state : get_or p 3 0 ≤ 2) (rest : RestZero p) (lists : ListsKeep p) where
  abbrev nr : ℕ
  nr = get_or p 6 0

  abbrev nw : ℕ
  nw = get_or p 7 0

  reads-size : length (part p 8 nr) ≡ nr
  reads-size = length-take-le nr (drop 8 p) (omega (arith, length-drop 8 p, lists.few-reads))

  writes-size : length (part p (8 + nr) nw) ≡ nw
  writes-size = length-take-le nw (drop (8 + nr) p) (omega (arith, length-drop (8 + nr) p, lists.few-reads, lists.few-writes))

  records : padded 16 (part p 8 nr ++ part p (8 + nr) nw) ≡ drop 8 p
  records =
      let both : part p 8 nr ++ part p (8 + nr) nw ≡ take (nr + nw) (drop 8 p) = ap (λ (t : List ℕ). part p 8 nr ++ take nw t) (sym (drop-drop nr 8 p)) ∙ sym (take-add nr nw (drop 8 p)) in
      let n : length (part p 8 nr ++ part p (8 + nr) nw) ≡ nr + nw = length-append (part p 8 nr) (part p (8 + nr) nw) ∙ rw (reads-size, writes-size) in
      ap (λ (t : List ℕ). t ++ replicate (16 - length (part p 8 nr ++ part p (8 + nr) nw)) 0) both
      ∙ ap (λ (k : ℕ). take (nr + nw) (drop 8 p) ++ replicate (16 - k) 0) n
      ∙ ap (λ (t : List ℕ). take (nr + nw) (drop 8 p) ++ t) (sym rest ∙ sym (drop-drop (nr + nw) 8 p))
      ∙ take-append-drop (nr + nw) (drop 8 p)

  pub entry-back : entry_bytes (request_in p) ≡ p
  unfolding entry_bytes request_in
  entry-back =
      rw (high-back (get_or p 1 0) (get_or p 2 0) (small 2), low-back (get_or p 1 0) (get_or p 2 0) (small 2), code-back (get_or p 3 0) state, reads-size, writes-size, records) (sym (front8 p (omega arith)))

-- ---- a meter
meter-back : (p : List ℕ) (share : ℕ) → length p ≡ 6 → Small p → meter_bytes (meter_from p share) ≡ p
unfolding meter_bytes meter_from
meter-back p share six small =
    let h = two_at p 0 in
    let l = two_at p 2 in
    let low : l < 65_536 = omega (arith, small 2, small 3) in
    let up : (h * 65_536 + l) / 65_536 ≡ h = omega arith in
    let down : (h * 65_536 + l) % 65_536 ≡ l = omega arith in
    rw (up, down, high-back (get_or p 0 0) (get_or p 1 0) (small 1), low-back (get_or p 0 0) (get_or p 1 0) (small 1), high-back (get_or p 2 0) (get_or p 3 0) (small 3), low-back (get_or p 2 0) (get_or p 3 0) (small 3), high-back (get_or p 4 0) (get_or p 5 0) (small 5), low-back (get_or p 4 0) (get_or p 5 0) (small 5)) (sym (front6 p six))

-- ---- rows: so many parts of w bytes, one behind the other
flat-parts : {A : Type 0} (f : A → List ℕ) (g : ℕ → A) (b : List ℕ) (at w n : ℕ) → ((i : ℕ) → i < n → f (g i) ≡ part b (at + i * w) w) → flat f (tab g n) ≡ part b at (n * w)
unfolding flat tab
flat-parts f g b at w zero h = ap (λ (k : ℕ). take k (drop at b)) (sym (zero-mul w))
flat-parts f g b at w (suc n) h =
    let k : n * w + w ≡ suc n * w = sym (ap (λ (m : ℕ). m * w) (let z : suc n ≡ n + 1 = omega arith in z) ∙ add-mul n 1 w ∙ ap (λ (m : ℕ). n * w + m) (one-mul w)) in
    flat-last f (tab g n) (g n)
    ∙ ap (λ (t : List ℕ). t ++ f (g n)) (flat-parts f g b at w n (λ i (lt : i < n). h i (omega arith)))
    ∙ ap (λ (t : List ℕ). part b at (n * w) ++ t) (h n (omega arith) ∙ ap (take w) (sym (drop-drop (n * w) at b)))
    ∙ sym (take-add (n * w) w (drop at b))
    ∙ ap (λ (m : ℕ). take m (drop at b)) k

one_at : (b : List ℕ) (k : ℕ) → k < length b → part b k 1 ≡ get_or b k 0 ∷ []
one_at b k lt = ap (take 1) (drop-cons b k 0 lt)

-- ---- bytes of a part, and of a list
pub small-part : (b : List ℕ) (at n : ℕ) → Small b → Small (part b at n)
small-part b at n small i = ⊎_elim
    (λ (lt : i < n). let e = get_or-take n (drop at b) i 0 lt ∙ get_or-drop at b i 0 in omega (arith, e, small (at + i)))
    (λ (ge : n ≤ i). let past : length (part b at n) ≤ i = omega (arith, length-take n (drop at b)) in omega (arith, get_or-eq_default (part b at n) 0 past))
    (lt-or-ge i n)

pub small-each : (l : List ℕ) → Small l → Each (λ r. r ≤ 255) l
small-each [] small = none
small-each (x ∷ l) small = also (let z : x ≤ 255 = omega (arith, small 0) in z) (small-each l (λ i. small (suc i)))

joined : {x y u v : List ℕ} → x ≡ u → y ≡ v → x ++ y ≡ u ++ v
joined {x} {y} {u} {v} e f = ap (λ (l : List ℕ). l ++ y) e ∙ ap (λ (l : List ℕ). u ++ l) f

-- ---- the whole block
module _ (b : List ℕ) (small : Small b) (above : AsAbove b) (fits : count_in b ≤ 64) (states : Each (λ p. get_or p 3 0 ≤ 2) (rows_in b)) (lists : Each ListsKeep (rows_in b)) (counters : Counted b) where
  abbrev n : ℕ
  n = count_in b

  abbrev t : Table
  t = table_in b

  row-size : (i : ℕ) → i < count_in b → length (row_at b i) ≡ 24
  row-size i lt = length-take-le 24 (drop (640 + i * 24) b) (omega (arith, length-drop (640 + i * 24) b, above.whole))

  row_back : (i : ℕ) → i < count_in b → entry_bytes (request_in (row_at b i)) ≡ row_at b i
  row_back i lt =
      entry-back (row_at b i) (row-size i lt) (small-part b (640 + i * 24) 24 small) (each-tab (row_at b) n [] states i lt) (each-tab (row_at b) n [] above.records i lt) (each-tab (row_at b) n [] lists i lt)

  queue-back : flat entry_bytes (queue_in b) ≡ part b 640 (count_in b * 24)
  queue-back =
      ap (flat entry_bytes) (map-tab request_in (row_at b) n) ∙ flat-parts entry_bytes (λ i. request_in (row_at b i)) b 640 24 n row_back

  meters-back : flat meter_bytes (meters_in b) ≡ part b 22 96
  meters-back = flat-parts meter_bytes (meter_at b) b 22 6 16 (λ i (lt : i < 16). meter-back (part b (22 + i * 6) 6) _ (length-take-le 6 (drop (22 + i * 6) b) (omega (arith, length-drop (22 + i * 6) b, above.whole))) (small-part b (22 + i * 6) 6 small))

  shares-back : flat share_byte (meters_in b) ≡ part b 3 16
  unfolding meter_from
  shares-back = flat-parts share_byte (meter_at b) b 3 1 16 (λ i (lt : i < 16). let k : 3 + i ≡ 3 + i * 1 = omega arith in sym (one_at b (3 + i) (omega (arith, above.whole))) ∙ ap (λ (m : ℕ). part b m 1) k)

  count-is : length (queue_in b) ≡ count_in b
  count-is = length-map (rows_in b) request_in ∙ tab-length (row_at b) n

  -- one field more of what stands from the front on
  next : (at m : ℕ) {front x : List ℕ} → take at b ≡ front → part b at m ≡ x → take (at + m) b ≡ front ++ x
  next at m {front} {x} f e = take-add at m b ∙ ap (λ (l : List ℕ). l ++ part b at m) f ∙ ap (λ (l : List ℕ). front ++ l) e

  last-head : part b 636 4 ≡ head 21 1_537 ++ length (queue_in b) ∷ []
  last-head =
      let there : 3 < length (drop 636 b) = omega (arith, length-drop 636 b, above.whole) in
      take-suc (drop 636 b) 3 0 there ∙ ap (λ (l : List ℕ). l ++ get_or (drop 636 b) 3 0 ∷ []) above.heads.queue ∙ ap (λ (x : ℕ). head 21 1_537 ++ x ∷ []) (get_or-drop 636 b 3 0 ∙ sym count-is)

  pub block_back : b ≡ block_of (table_in b)
  unfolding block_of
  block_back =
      let a₁ = next 3 16 above.heads.shares (sym shares-back) in
      let a₂ = next 22 96 (next 19 3 a₁ above.heads.meters) (sym meters-back) in
      let a₃ = next 121 256 (next 118 3 a₂ above.heads.cx) counters.writers in
      let a₄ = next 380 256 (next 377 3 a₃ above.heads.cs) counters.readers in
      let a₅ = next 640 (n * 24) (next 636 4 a₄ last-head) (sym queue-back) in
      sym (take-append-drop (640 + n * 24) b) ∙ joined a₅ (above.entries ∙ ap (λ (k : ℕ). replicate ((64 - k) * 24) 0) (sym count-is))
