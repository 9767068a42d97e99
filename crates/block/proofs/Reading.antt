-- What is read from the bytes of an entry, of a meter, and of a row of them, is what was written.
use Prim.Native.Nat.{ℕ, zero, suc, ◌+◌, ◌-◌, ◌*◌, ◌/◌, ◌%◌, ◌≤◌, ◌<◌}
use mathlib.Core.Path.{◌≡◌, refl, sym, ap, subst, ◌∙◌}
use mathlib.Core.List.{List, [], ◌∷◌, ◌++◌, append_assoc}
use native.Mathlib.Omega.{arith}
use native.Mathlib.Nat.{not-suc-le-zero, zero-mul, add-mul, one-mul}
use lib.ListN.{length, get_or, take, drop, replicate, length-append, length-drop}
use lib.Seq.{length-take-le, take-append_seam, drop-append_seam, drop-append-add, take_at, drop_at, drop-drop}
use Rattle.rules.specs.declared.Mode.{Mode}
use Rattle.rules.specs.declared.Mode.TheVariants.{Free, Waiting, Blocked}
use Rattle.rules.specs.Records.{Stored}
use Rattle.rules.specs.Request.{Request}
use Rattle.rules.specs.Table.{Meter}
use Rattle.rules.specs.Sound.{Each}
use Rattle.rules.specs.Sound.Each.{also}
use Rattle.block.specs.Bytes.{code, padded, entry_bytes, meter_bytes}
use Rattle.entry.specs.declared.Entry.{Entry}
use Rattle.entry.specs.Entry.{Kept, Stands}
use Rattle.block.specs.Block.{flat, tab}
use Rattle.block.specs.Clauses.{part, mode_of, request_in, meter_from, RestZero, ListsKeep}
use Rattle.block.proofs.Places.{tab-part}
use Rattle.block.proofs.Writing.{padded-size}

-- ---- numbers and states
two_back : (n : ℕ) → n / 256 * 256 + n % 256 ≡ n
two_back n = omega arith

four-back : (n : ℕ) → (n / 65_536 / 256 * 256 + n / 65_536 % 256) * 65_536 + (n % 65_536 / 256 * 256 + n % 65_536 % 256) ≡ n
four-back n = omega arith

mode-back : (m : Mode) → mode_of (code m) ≡ m
mode-back Free = refl
mode-back Waiting = refl
mode-back Blocked = refl

code-small : (m : Mode) → code m ≤ 2
code-small Free = omega arith
code-small Waiting = omega arith
code-small Blocked = omega arith

-- ---- a meter
pub meter-length : (m : Meter) → length (meter_bytes m) ≡ 6
unfolding meter_bytes
meter-length m = refl

pub meter-read : (m : Meter) → meter_from (meter_bytes m) m.share ≡ m
unfolding meter_bytes meter_from
meter-read m = rw (four-back m.fuel, two_back m.serials)

-- ---- an entry
module _ (e : Request) (few-reads : length e.reads ≤ 8) (few-writes : length e.writes ≤ 8) where
  abbrev r : List ℕ
  r = e.reads

  abbrev w : List ℕ
  w = e.writes

  abbrev z : List ℕ
  z = replicate (16 - length (r ++ w)) 0

  both : length (r ++ w) ≡ length r + length w
  both = length-append r w

  pub entry_length : length (entry_bytes e) ≡ 24
  unfolding entry_bytes
  entry_length = omega (arith, padded-size 16 (r ++ w) (omega (arith, both)))

  front : take (length r) (padded 16 (r ++ w)) ≡ r
  front = ap (take (length r)) (append_assoc r w z) ∙ take-append_seam r (w ++ z)

  back : take (length w) (drop (length r) (padded 16 (r ++ w))) ≡ w
  back = ap (λ (t : List ℕ). take (length w) (drop (length r) t)) (append_assoc r w z) ∙ ap (take (length w)) (drop-append_seam r (w ++ z)) ∙ take-append_seam w z

  pub entry_read : request_in (entry_bytes e) ≡ e
  unfolding request_in entry_bytes
  entry_read =
      let p = e.tenant ∷ e.serial / 256 ∷ e.serial % 256 ∷ code e.mode ∷ e.awaited ∷ e.due ∷ length r ∷ length w ∷ padded 16 (r ++ w) in
      let skip : drop (8 + length r) p ≡ drop (length r) (padded 16 (r ++ w)) = sym (drop-drop (length r) 8 p) in
      let writes : take (length w) (drop (8 + length r) p) ≡ w = ap (take (length w)) skip ∙ back in
      rw (two_back e.serial, mode-back e.mode, front, writes)

  pub entry-state : get_or (entry_bytes e) 3 0 ≤ 2
  unfolding entry_bytes
  entry-state = code-small e.mode

  pub entry-rest : RestZero (entry_bytes e)
  unfolding entry_bytes
  entry-rest =
      let n = length r + length w in
      let p = e.tenant ∷ e.serial / 256 ∷ e.serial % 256 ∷ code e.mode ∷ e.awaited ∷ e.due ∷ length r ∷ length w ∷ padded 16 (r ++ w) in
      sym (drop-drop n 8 p) ∙ drop_at (r ++ w) z n both ∙ ap (λ (k : ℕ). replicate (16 - k) 0) both

pub entry-keeps : (e : Request) → Stored e.reads e.writes → ListsKeep (entry_bytes e)
unfolding entry_bytes
entry-keeps e f = record { few-reads = f.few-reads; few-writes = f.few-writes; formed = subst (λ (x : Request). Stored x.reads x.writes) (sym (entry_read e f.few-reads f.few-writes)) f }

-- ---- rows of w bytes each
pub flat-length : {A : Type 0} (f : A → List ℕ) (w : ℕ) (l : List A) → Each (λ x. length (f x) ≡ w) l → length (flat f l) ≡ length l * w
unfolding flat
flat-length f w [] all = sym (zero-mul w)
flat-length f w (x ∷ l) (also h all) =
    length-append (f x) (flat f l) ∙ rw (h, flat-length f w l all) (sym (ap (λ (m : ℕ). m * w) (let z : suc (length l) ≡ 1 + length l = omega arith in z) ∙ add-mul 1 (length l) w ∙ ap (λ (m : ℕ). m + length l * w) (one-mul w)))

row_at : {A : Type 0} (f : A → List ℕ) (w : ℕ) (l : List A) (s : List ℕ) (i : ℕ) (d : A) → Each (λ x. length (f x) ≡ w) l → i < length l → part (flat f l ++ s) (i * w) w ≡ f (get_or l i d)
unfolding flat
row_at f w [] s i d all lt = absurd (not-suc-le-zero lt)
row_at f w (x ∷ l) s zero d (also h all) lt =
    ap (λ (k : ℕ). take w (drop k (f x ++ flat f l ++ s))) (zero-mul w) ∙ ap (take w) (append_assoc (f x) (flat f l) s) ∙ take_at (f x) (flat f l ++ s) w h
row_at f w (x ∷ l) s (suc i) d (also h all) lt =
    let k : suc i * w ≡ length (f x) + i * w = ap (λ (m : ℕ). m * w) (let z : suc i ≡ 1 + i = omega arith in z) ∙ add-mul 1 i w ∙ ap (λ (m : ℕ). m + i * w) (one-mul w ∙ sym h) in
    ap (λ (m : ℕ). take w (drop m (f x ++ flat f l ++ s))) k
    ∙ ap (λ (t : List ℕ). take w (drop (length (f x) + i * w) t)) (append_assoc (f x) (flat f l) s)
    ∙ ap (take w) (drop-append-add (f x) (flat f l ++ s) (i * w))
    ∙ row_at f w l s i d all (omega arith)

pub rows_at : {A : Type 0} (f : A → List ℕ) (w : ℕ) (p : List ℕ) (l : List A) (s : List ℕ) (at i : ℕ) (d : A) → length p ≡ at → Each (λ x. length (f x) ≡ w) l → i < length l → part (p ++ flat f l ++ s) (at + i * w) w ≡ f (get_or l i d)
rows_at f w p l s at i d a all lt =
    ap (λ (t : List ℕ). take w (drop (at + i * w) t)) (append_assoc p (flat f l) s)
    ∙ ap (λ (m : ℕ). take w (drop (m + i * w) (p ++ (flat f l ++ s)))) (sym a)
    ∙ ap (take w) (drop-append-add p (flat f l ++ s) (i * w))
    ∙ row_at f w l s i d all lt

-- ---- what the code reads
-- an array of 8 whose first n places are filled from a place of p on, and the rest zero
pub filled-kept : (p : List ℕ) (at n : ℕ) {r : List ℕ} → n ≤ 8 → at + 8 ≤ length p → r ≡ tab (λ j. get_or p (at + j) 0) n ++ replicate (8 - n) 0 → Kept (part p at n) r
filled-kept p at n {r} few room is =
    let size : length (part p at n) ≡ n = length-take-le n (drop at p) (omega (arith, length-drop at p)) in
    let whole : r ≡ part p at n ++ replicate (8 - n) 0 = is ∙ ap (λ (t : List ℕ). t ++ replicate (8 - n) 0) (tab-part p at n (omega arith)) in
    record {
      first = ap (λ (k : ℕ). take k r) size ∙ ap (take n) whole ∙ take_at (part p at n) _ n size;
      rest = ap (λ (k : ℕ). drop k r) size ∙ ap (drop n) whole ∙ drop_at (part p at n) _ n size ∙ ap (λ (k : ℕ). replicate (8 - k) 0) (sym size);
    }

-- the entry of 24 bytes: its numbers are there, and its lists are kept
pub entry-stands : (p : List ℕ) {e : Entry} → (length p ≡ 24) × (get_or p 6 0 ≤ 8) × (get_or p 7 0 ≤ 8)
    → e.tenant ≡ get_or p 0 0 → e.serial ≡ (request_in p).serial → e.mode ≡ mode_of (get_or p 3 0) → e.awaited ≡ get_or p 4 0 → e.due ≡ get_or p 5 0
    → e.nr ≡ get_or p 6 0 → e.nw ≡ get_or p 7 0
    → Kept (part p 8 (get_or p 6 0)) e.reads → Kept (part p (8 + get_or p 6 0) (get_or p 7 0)) e.writes
    → Stands (request_in p) e
unfolding request_in
entry-stands p {e} (size, r, w) tenant serial mode awaited due nr nw reads writes =
    let n = get_or p 6 0 in
    let m = get_or p 7 0 in
    let rs : length (part p 8 n) ≡ n = length-take-le n (drop 8 p) (omega (arith, length-drop 8 p)) in
    let ws : length (part p (8 + n) m) ≡ m = length-take-le m (drop (8 + n) p) (omega (arith, length-drop (8 + n) p)) in
    let front : take e.nr e.reads ≡ part p 8 n = ap (λ (k : ℕ). take k e.reads) (nr ∙ sym rs) ∙ reads.first in
    let back : take e.nw e.writes ≡ part p (8 + n) m = ap (λ (k : ℕ). take k e.writes) (nw ∙ sym ws) ∙ writes.first in
    record {
      is = rw (tenant, serial, mode, awaited, due, front, back);
      tidy = record {
        few-reads = omega arith;
        few-writes = omega arith;
        reads-rest = ap (λ (k : ℕ). drop k e.reads) (nr ∙ sym rs) ∙ reads.rest ∙ ap (λ (k : ℕ). replicate (8 - k) 0) (rs ∙ sym nr);
        writes-rest = ap (λ (k : ℕ). drop k e.writes) (nw ∙ sym ws) ∙ writes.rest ∙ ap (λ (k : ℕ). replicate (8 - k) 0) (ws ∙ sym nw);
      };
    }
