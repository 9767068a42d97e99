-- What the steps of the check read and compare: three bytes, two lists, the lists of a row, the meters.
use Prim.Native.Nat.{ℕ, ◌+◌, ◌-◌, ◌*◌, ◌≤◌, ◌<◌}
use mathlib.Core.Path.{◌≡◌, refl, sym, ap, ◌∙◌}
use mathlib.Core.Bool.{Bool}
use mathlib.Core.List.{List, [], ◌∷◌, ◌++◌}
use denote.Enum.Bare.{sameb}
use native.Mathlib.Omega.{arith}
use native.Mathlib.Numerals.{add-one}
use lib.Dec.{eqb, leb}
use lib.ListN.{length, get_or, take, drop, replicate, length-drop, get_or-replicate, replicate-append-replicate}
use Rattle.std.specs.Int.Bits.{bit_or, or_add_and}
use Rattle.std.proofs.lemmas.Nat.{and_le_l, and_le_r}
use lib.Seq.{take-suc, take_all, take-take, get_or-take, length-take-le}
use Rattle.rules.specs.contracts.Mode as mode
use Rattle.rules.specs.declared.Mode.{Mode}
use Rattle.rules.specs.declared.Mode.TheVariants.{Blocked}
use Rattle.rules.specs.Lists.{total}
use Rattle.rules.specs.Request.{Request, requested, size, is_blocked}
use Rattle.rules.specs.Counters.{figure2}
use Rattle.rules.specs.Sound.{Each}
use Rattle.rules.specs.Sound.Each.{none}
use Rattle.rules.specs.Table.{Meter, no_meter, most_fuel}
use Rattle.rules.proofs.Lists.{total-append}
use Rattle.rules.proofs.Order.{each_at, each_last}
use Rattle.manager.proofs.Modes.{blocked-told}
use Rattle.block.specs.Block.{tab}
use Rattle.block.specs.Clauses.{request_in, meter_from, meter_at, mode_of, Same, Suited, Suits}
use Rattle.block.specs.Check.{Tells, MetersFit}
use Rattle.block.proofs.Places.{take-replicate, tab-length, tab-get, cut-part}
use Rattle.block.proofs.Telling.{equal-tells, most-tells, part-last}

-- ---- zeros, as a number stays 0 while all bytes are: it is 0 exactly if the first i bytes are
abbrev pub Nought : List ℕ → ℕ → ℕ → Type 0
Nought p i any = Same (any ≡ 0) (take i p ≡ replicate i 0)

pub nought-none : (p : List ℕ) → Nought p 0 0
nought-none p = record { to = λ z. refl; from = λ z. refl }

no-bit : (a b : ℕ) → bit_or a b ≡ 0 → (a ≡ 0) × (b ≡ 0)
no-bit a b e = (omega (arith, or_add_and a b, and_le_r a b), omega (arith, or_add_and a b, and_le_l a b))

pub nought-more : (p : List ℕ) (i any : ℕ) → i < length p → Nought p i any → Nought p (i + 1) (bit_or any (get_or p i 0))
nought-more p i any inp a =
    let longer : take (i + 1) p ≡ take i p ++ get_or p i 0 ∷ [] = rw add-one (take-suc p i 0 inp) in
    let last : replicate {A = ℕ} (i + 1) 0 ≡ replicate i 0 ++ 0 ∷ [] = sym (replicate-append-replicate i 1 0) in
    record {
      to = λ e. let z = no-bit any (get_or p i 0) e in longer ∙ ap (λ (l : List ℕ). l ++ get_or p i 0 ∷ []) (a.to z.0) ∙ ap (λ (x : ℕ). replicate i 0 ++ x ∷ []) z.1 ∙ sym last;
      from = λ e.
          let first : take i p ≡ replicate i 0 = sym (take-take i (i + 1) p (omega arith)) ∙ ap (take i) e ∙ take-replicate i (i + 1) 0 (omega arith) in
          let here : get_or p i 0 ≡ 0 = sym (get_or-take (i + 1) p i 0 (omega arith)) ∙ ap (λ (l : List ℕ). get_or l i 0) e ∙ get_or-replicate (i + 1) i 0 0 (omega arith) in
          ap (λ (x : ℕ). bit_or x (get_or p i 0)) (a.from first) ∙ ap (bit_or 0) here;
    }

pub nought-tells : (p : List ℕ) {i any : ℕ} → i ≡ length p → Nought p i any → Tells (eqb any 0) (p ≡ replicate (length p) 0)
nought-tells p {i} {any} all a =
    let whole : take i p ≡ p = take_all i p (omega arith) in
    let size : replicate {A = ℕ} i 0 ≡ replicate (length p) 0 = ap (λ (k : ℕ). replicate {A = ℕ} k 0) all in
    part-last (equal-tells any 0) (λ z. sym whole ∙ a.to z ∙ size) (λ e. a.from (whole ∙ e ∙ sym size))

-- ---- the lists of a row, as the code cuts them
pub reads-cut : (p : List ℕ) → take (8 + get_or p 6 0 - 8) (drop 8 p) ≡ (request_in p).reads
unfolding request_in
reads-cut p = cut-part p 8 (get_or p 6 0) _ refl

pub writes-cut : (p : List ℕ) → take (8 + get_or p 6 0 + get_or p 7 0 - (8 + get_or p 6 0)) (drop (8 + get_or p 6 0) p) ≡ (request_in p).writes
unfolding request_in
writes-cut p = cut-part p (8 + get_or p 6 0) (get_or p 7 0) _ refl

-- the code's test for Blocked tells whether the row's request is
pub row-tested : (p : List ℕ) {m : Mode} {r t : Bool} → m ≡ mode_of (get_or p 3 0) → r ≡ sameb mode.the_type m Blocked → r ≡ t → is_blocked (request_in p).mode ≡ t
unfolding request_in
row-tested p {m} is told test = sym (ap is_blocked is) ∙ sym (blocked-told m) ∙ sym told ∙ test

-- figure 2 looks at a request's lists alone
pub figure2-lists : (x s : ℕ → ℕ) (e : Request) {reads writes : List ℕ} → reads ≡ e.reads → writes ≡ e.writes → figure2 x s (requested 0 0 0 reads writes) ≡ figure2 x s e
unfolding figure2
figure2-lists x s e r w = rw (r, w)

module _ (p : List ℕ) (whole : length p ≡ 24) (fr : get_or p 6 0 ≤ 8) (fw : get_or p 7 0 ≤ 8) where
  pub reads-length : length (request_in p).reads ≡ get_or p 6 0
  unfolding request_in
  reads-length = length-take-le (get_or p 6 0) (drop 8 p) (omega (arith, length-drop 8 p))

  pub writes-length : length (request_in p).writes ≡ get_or p 7 0
  unfolding request_in
  writes-length = length-take-le (get_or p 7 0) (drop (8 + get_or p 6 0) p) (omega (arith, length-drop (8 + get_or p 6 0) p))

  row-size : size (request_in p) ≡ get_or p 6 0 + get_or p 7 0
  unfolding size
  row-size = rw (reads-length, writes-length)

  pub row-suits : Same (Suits (mode_of (get_or p 3 0)) (get_or p 5 0) (get_or p 6 0 + get_or p 7 0)) (Suited (request_in p))
  unfolding request_in
  row-suits = record {
    to = λ a. record { free = a.free; waiting = a.waiting; blocked = λ z. rw row-size (a.blocked z) };
    from = λ s. record { free = s.free; waiting = s.waiting; blocked = λ z. rw (← row-size) (s.blocked z) };
  }

-- ---- the meters
pub meter-cut : (b : List ℕ) (i : ℕ) {m : Meter} → m ≡ meter_from (take (22 + i * 6 + 6 - (22 + i * 6)) (drop (22 + i * 6) b)) (get_or b (3 + i) 0) → m ≡ meter_at b i
meter-cut b i e = e ∙ ap (λ (p : List ℕ). meter_from p (get_or b (3 + i) 0)) (cut-part b (22 + i * 6) 6 6 refl)

-- the first i meters have so many places, and fuel within its limit
pub record Metered (b : List ℕ) (i places : ℕ) : Type 0 where
  pub within : i ≤ 16
  pub small : places ≤ i * 255
  pub sum : places ≡ total (λ m. m.share) (tab (meter_at b) i)
  pub fuel : Each (λ m. m.fuel ≤ most_fuel) (tab (meter_at b) i)

module _ (b : List ℕ) where
  pub metered-none : Metered b 0 0
  unfolding tab total
  metered-none = record { within = omega arith; small = omega arith; sum = refl; fuel = none }

  module _ {i places : ℕ} (h : Metered b i places) where
    pub metered-more : (share : ℕ) → share ≡ (meter_at b i).share → share < 256 → i < 16 → (meter_at b i).fuel ≤ most_fuel → Metered b (i + 1) (places + share)
    unfolding tab total
    metered-more share e byte lt fuel = record {
      within = omega arith;
      small = omega (arith, h.small);
      sum = rw add-one (omega (arith, h.sum, total-append (λ m. m.share) (tab (meter_at b) i) (meter_at b i ∷ [])));
      fuel = rw add-one (each_last h.fuel fuel);
    }

    pub metered-tells : 16 ≤ i → Tells (leb places 64) (MetersFit b)
    metered-tells end =
        let all : i ≡ 16 = omega (arith, h.within) in
        let sum : places ≡ total (λ m. m.share) (tab (meter_at b) 16) = rw (← all) h.sum in
        part-last (most-tells places 64) (λ few. record { shares = omega arith; fuel = rw (← all) h.fuel }) (λ f. omega (arith, f.shares))

  pub metered-over : (i : ℕ) → i < 16 → most_fuel < (meter_at b i).fuel → MetersFit b → ⊥
  metered-over i lt over f =
      let here = each_at f.fuel i no_meter (omega (arith, tab-length (meter_at b) 16)) in
      omega (arith, over, ap (λ (m : Meter). m.fuel) (tab-get (meter_at b) no_meter 16 i lt), here)
