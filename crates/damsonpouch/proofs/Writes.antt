-- Two tables that differ in one tenant's fuel have blocks that differ in the bytes of that fuel.
use Prim.Native.Nat.{ℕ, ◌+◌, ◌-◌, ◌*◌, ◌/◌, ◌%◌, ◌≤◌, ◌<◌}
use mathlib.Core.Path.{◌≡◌, refl, sym, ap, subst, ◌∙◌}
use mathlib.Core.Bool.{Bool, true, false, true≢false}
use mathlib.Core.List.{List}
use mathlib.Core.Logic.{◌⊎◌, inl, inr, ⊎_elim}
use native.Mathlib.Omega.{arith}
use lib.Dec.{eqb}
use lib.ListN.{length, get_or, drop}
use lib.Seq.{get_or-take, get_or-drop, ext_get_or}
use borrow.Author.Tests.{eqb-true, ne_eqb}
use Rattle.rules.specs.Table.{Table, Meter, no_meter, is_tenant, meter_of}
use Rattle.rules.specs.Prices.{clause9}
use Rattle.rules.specs.Sound.{SoundTable}
use Rattle.rules.specs.Runs.{Call, step, is_open, caller_of, number}
use Rattle.rules.proofs.Tests.{lt-or-ge}
use Rattle.rules.proofs.Meters.{tenant-test}
use Rattle.rules.proofs.Sound.{sound-any}
use Rattle.promises.specs.Refused.{SameButFuel}
use Rattle.promises.specs.Fuel.{fuel_of, gift}
use Rattle.promises.proofs.Refusals.{refuses9}
use Rattle.promises.proofs.Fuel.{other-call}
use Rattle.promises.proofs.Promises.{clause9-fair}
use Rattle.block.specs.Bytes.{meter_bytes}
use Rattle.block.specs.Block.{block_of}
use Rattle.block.specs.Clauses.{part}
use Rattle.block.proofs.Whole.{head11, head12, read-share, read-meter, read_behind, behind, block-length}
use Rattle.damsonpouch.specs.declared.Reply.{Reply}
use Rattle.damsonpouch.specs.Writes.{fuel_at, RefusedWrites}
use Rattle.damsonpouch.proofs.Stretches.{has-step}

-- ---- a byte of a part
at_part : (b : List ℕ) (at n k : ℕ) → k < n → get_or b (at + k) 0 ≡ get_or (part b at n) k 0
at_part b at n k lt = sym (get_or-take n (drop at b) k 0 lt ∙ get_or-drop at b k 0)

-- ---- the bytes of two tables' blocks
-- the meters by their place
place_of : (w : Table) (j : ℕ) → get_or w.meters j no_meter ≡ meter_of w (j + 1)
place_of w j = let k : j ≡ j + 1 - 1 = omega arith in ap (λ (m : ℕ). get_or w.meters m no_meter) k

module _ (t u : Table) (s : SoundTable t) (v : SoundTable u) (same : SameButFuel t u) where
  share-same : (j : ℕ) → (get_or u.meters j no_meter).share ≡ (get_or t.meters j no_meter).share
  share-same j = ap (λ (m : Meter). m.share) (place_of u j) ∙ same.shares (j + 1) ∙ sym (ap (λ (m : Meter). m.share) (place_of t j))

  serials-same : (j : ℕ) → (get_or u.meters j no_meter).serials ≡ (get_or t.meters j no_meter).serials
  serials-same j = ap (λ (m : Meter). m.serials) (place_of u j) ∙ same.serials (j + 1) ∙ sym (ap (λ (m : Meter). m.serials) (place_of t j))

  -- before the meters: heads and shares
  front : (i : ℕ) → i < 22 → get_or (block_of u) i 0 ≡ get_or (block_of t) i 0
  front i lt = ⊎_elim
      (λ (a : i < 3).
      let k : 0 + i ≡ i = omega arith in
      subst (λ (m : ℕ). get_or (block_of u) m 0 ≡ get_or (block_of t) m 0) k (at_part (block_of u) 0 3 i a ∙ ap (λ (l : List ℕ). get_or l i 0) (head11 u v ∙ sym (head11 t s)) ∙ sym (at_part (block_of t) 0 3 i a)))
      (λ (a : 3 ≤ i). ⊎_elim
      (λ (c : i < 19).
      let k : 3 + (i - 3) ≡ i = omega arith in
      let room : i - 3 < 16 = omega arith in
      subst (λ (m : ℕ). get_or (block_of u) m 0 ≡ get_or (block_of t) m 0) k (read-share u v (i - 3) room ∙ share-same (i - 3) ∙ sym (read-share t s (i - 3) room)))
      (λ (c : 19 ≤ i).
      let k : 19 + (i - 19) ≡ i = omega arith in
      let room : i - 19 < 3 = omega arith in
      subst (λ (m : ℕ). get_or (block_of u) m 0 ≡ get_or (block_of t) m 0) k (at_part (block_of u) 19 3 (i - 19) room ∙ ap (λ (l : List ℕ). get_or l (i - 19) 0) (head12 u v ∙ sym (head12 t s)) ∙ sym (at_part (block_of t) 19 3 (i - 19) room)))
      (lt-or-ge i 19))
      (lt-or-ge i 3)

  -- behind the meters: the queue's
  back : (i : ℕ) → 118 ≤ i → get_or (block_of u) i 0 ≡ get_or (block_of t) i 0
  back i past =
      let k : 118 + (i - 118) ≡ i = omega arith in
      let queue : drop 118 (block_of u) ≡ drop 118 (block_of t) = read_behind u v ∙ ap behind same.entries ∙ sym (read_behind t s) in
      subst (λ (m : ℕ). get_or (block_of u) m 0 ≡ get_or (block_of t) m 0) k (sym (get_or-drop 118 (block_of u) (i - 118) 0) ∙ ap (λ (l : List ℕ). get_or l (i - 118) 0) queue ∙ get_or-drop 118 (block_of t) (i - 118) 0)

  -- byte m of the meter at place j
  meter-byte : (w : Table) → SoundTable w → (j m : ℕ) → j < 16 → m < 6 → get_or (block_of w) (22 + j * 6 + m) 0 ≡ get_or (meter_bytes (get_or w.meters j no_meter)) m 0
  meter-byte w z j m lt few = at_part (block_of w) (22 + j * 6) 6 m few ∙ ap (λ (l : List ℕ). get_or l m 0) (read-meter w z j lt)

  -- the serials' bytes
  serial-byte : (a b : Meter) (m : ℕ) → a.serials ≡ b.serials → 4 ≤ m → m < 6 → get_or (meter_bytes a) m 0 ≡ get_or (meter_bytes b) m 0
  unfolding meter_bytes
  serial-byte a b m e low high = ⊎_elim
      (λ (x : m < 5). let k : 4 ≡ m = omega arith in subst (λ (i : ℕ). get_or (meter_bytes a) i 0 ≡ get_or (meter_bytes b) i 0) k (ap (λ (n : ℕ). n / 256) e))
      (λ (x : 5 ≤ m). let k : 5 ≡ m = omega arith in subst (λ (i : ℕ). get_or (meter_bytes a) i 0 ≡ get_or (meter_bytes b) i 0) k (ap (λ (n : ℕ). n % 256) e))
      (lt-or-ge m 5)

  middle : (j m : ℕ) → j < 16 → m < 6 → ((get_or u.meters j no_meter).fuel ≡ (get_or t.meters j no_meter).fuel) ⊎ (4 ≤ m) → get_or (block_of u) (22 + j * 6 + m) 0 ≡ get_or (block_of t) (22 + j * 6 + m) 0
  middle j m lt few which =
      let a = get_or u.meters j no_meter in
      let b = get_or t.meters j no_meter in
      let bytes : get_or (meter_bytes a) m 0 ≡ get_or (meter_bytes b) m 0 = ⊎_elim (λ (f : a.fuel ≡ b.fuel). let all : a ≡ b = λ i. record { fuel = f i; serials = serials-same j i; share = share-same j i } in ap (λ (x : Meter). get_or (meter_bytes x) m 0) all) (λ (low : 4 ≤ m). serial-byte a b m (serials-same j) low few) which in
      meter-byte u v j m lt few ∙ bytes ∙ sym (meter-byte t s j m lt few)

  -- the byte at any place, where the fuel is the same, or the place is not that of a fuel
  every_byte : (i : ℕ) → ((j : ℕ) → j < 16 → ((get_or u.meters j no_meter).fuel ≡ (get_or t.meters j no_meter).fuel) ⊎ ((i < 22 + j * 6) ⊎ (26 + j * 6 ≤ i))) → get_or (block_of u) i 0 ≡ get_or (block_of t) i 0
  every_byte i which = ⊎_elim
      (λ (a : i < 22). front i a)
      (λ (a : 22 ≤ i). ⊎_elim
      (λ (c : i < 118).
      let j = (i - 22) / 6 in
      let m = (i - 22) % 6 in
      let k : 22 + j * 6 + m ≡ i = omega arith in
      let lt : j < 16 = omega arith in
      let few : m < 6 = omega arith in
      subst (λ (x : ℕ). get_or (block_of u) x 0 ≡ get_or (block_of t) x 0) k (middle j m lt few (⊎_elim (λ f. inl f) (λ o. inr (⊎_elim (λ (x : i < 22 + j * 6). absurd (omega arith)) (λ (x : 26 + j * 6 ≤ i). let z : 4 ≤ m = omega arith in z) o)) (which j lt))))
      (λ (c : 118 ≤ i). back i c)
      (lt-or-ge i 118))
      (lt-or-ge i 22)

-- ---- a refused call
-- the fuel of a tenant that did not call is as it was
others : (t : Table) (c : Call) → SoundTable t → is_open c ≡ false → eqb (number (step clause9 t c)) 0 ≡ false → (who : ℕ) → is_tenant who ≡ true → eqb (caller_of c) who ≡ false → fuel_of (step clause9 t c).table who ≡ fuel_of t who
others t c s shut refused who one apart =
    let gain = other-call clause9-fair t c who (sound-any s) one shut apart in
    let none : gift who c (step clause9 t c) ≡ 0 = rw refused in
    omega (arith, gain, none)

-- a place outside the caller's fuel is outside every fuel that may have changed
aside : (who i j : ℕ) {P : Type 0} → (i < fuel_at who) ⊎ (fuel_at who + 4 ≤ i) → (eqb who (j + 1) ≡ false → P) → P ⊎ ((i < 22 + j * 6) ⊎ (26 + j * 6 ≤ i))
aside who i j {P} outside kept = go (eqb who (j + 1)) refl
  where
    go : (b : Bool) → eqb who (j + 1) ≡ b → P ⊎ ((i < 22 + j * 6) ⊎ (26 + j * 6 ≤ i))
    go true e = let is : who ≡ j + 1 = eqb-true who (j + 1) e in inr (⊎_elim (λ (x : i < fuel_at who). inl (omega arith)) (λ (x : fuel_at who + 4 ≤ i). inr (omega arith)) outside)
    go false e = inl (kept e)

stranger : (who j : ℕ) → j < 16 → is_tenant who ≡ false → eqb who (j + 1) ≡ false
stranger who j lt none = ne_eqb who (j + 1) (λ (e : who ≡ j + 1). true≢false (sym (tenant-test (j + 1) (omega arith) (omega arith)) ∙ sym (ap is_tenant e) ∙ none))

pub refused-writes : RefusedWrites
refused-writes c before after r shut k l refused =
    let t = k.of in
    let o = step clause9 t c in
    let h = has-step c t k.sound k.is in
    let u = o.table in
    let v = l.sound o h in
    let no : eqb (number o) 0 ≡ false = rw (← (ap (λ (x : Reply). x.number) (l.reply o h))) refused in
    let same = (refuses9 t c shut no).same in
    let fuels : (j : ℕ) → j < 16 → eqb (caller_of c) (j + 1) ≡ false → (get_or u.meters j no_meter).fuel ≡ (get_or t.meters j no_meter).fuel = λ j lt apart. ap (λ (m : Meter). m.fuel) (place_of u j) ∙ others t c k.sound shut no (j + 1) (tenant-test (j + 1) (omega arith) (omega arith)) apart ∙ sym (ap (λ (m : Meter). m.fuel) (place_of t j)) in
    let bytes : (i : ℕ) → ((j : ℕ) → j < 16 → ((get_or u.meters j no_meter).fuel ≡ (get_or t.meters j no_meter).fuel) ⊎ ((i < 22 + j * 6) ⊎ (26 + j * 6 ≤ i))) → get_or after i 0 ≡ get_or before i 0 = λ i which. ap (λ (b : List ℕ). get_or b i 0) (l.block o h) ∙ every_byte t u k.sound v same i which ∙ sym (ap (λ (b : List ℕ). get_or b i 0) k.is) in
    record {
      fuel-alone = λ one i outside. bytes i (λ j (lt : j < 16). aside (caller_of c) i j outside (fuels j lt));
      nothing = λ none. ext_get_or 0 after before (ap length (l.block o h) ∙ block-length u v ∙ sym (ap length k.is ∙ block-length t k.sound)) (λ i lt. bytes i (λ j (lt : j < 16). inl (fuels j lt (stranger (caller_of c) j lt none))));
    }
