-- The rows of a call's refusals: what no refusal means, and that a number that is no tenant is refused with 1.
use Prim.Native.Nat.{ℕ, ◌+◌, ◌≤◌, ◌<◌}
use mathlib.Core.Path.{◌≡◌, refl, sym, ◌∙◌}
use mathlib.Core.Bool.{Bool, true, false, ◌&&◌, not}
use mathlib.Core.List.{List, ◌∷◌}
use lib.Dec.{eqb, ltb}
use lib.ListN.{length}
use borrow.Author.Tests.{eq-eqb, ltb-false, leb-false, eqb-false, eqb-true, not-false}
use Rattle.rules.specs.Lists.{some, total}
use Rattle.rules.specs.Records.{member, rising, only_read}
use Rattle.rules.specs.Request.{Request, reduced, size, is_free, is_blocked}
use Rattle.rules.specs.Table.{Table, meter_of, is_tenant, places_of, most_fuel}
use Rattle.rules.specs.Prices.{Prices, admission, charge, costly}
use Rattle.rules.specs.Refusals.{Row, ◌gives◌, first_of, stands_at, is_absent, entry_of, begin_rows, finish_rows, recheck_rows, scan_rows, deliver_rows, evict_rows, cancel_rows, grant_rows, open_rows}
use Rattle.rules.proofs.Tests.{both, neither, above_zero}
use Rattle.rules.proofs.Admission.{Admissible}

-- ---- one row
pub pass : (test : Bool) (number : ℕ) (rows : List Row) → eqb number 0 ≡ false → first_of (test gives number ∷ rows) ≡ 0 → (test ≡ false) × (first_of rows ≡ 0)
unfolding first_of
pass true number rows n e = let z : true ≡ false = sym (eq-eqb number 0 e) ∙ n in (z, cc)
pass false number rows n e = (refl, e)

-- number 1 burns nothing
pub free-of-charge : (p : Prices) (fuel : ℕ) → charge p fuel 1 ≡ 0
unfolding charge costly member some
free-of-charge p fuel = refl

-- ---- Begin
pub begin-passes : (p : Prices) (t : Table) (e : Request) → first_of (begin_rows p t e) ≡ 0 → Admissible p t e
unfolding begin_rows
begin-passes p t e z =
    let m = meter_of t e.tenant in
    let a = pass _ 1 _ refl z in
    let b = pass _ 2 _ refl a.1 in
    let c = pass _ 3 _ refl b.1 in
    let d = pass _ 4 _ refl c.1 in
    let g = pass _ 6 _ refl d.1 in
    let h = pass _ 7 _ refl g.1 in
    let i = pass _ 8 _ refl h.1 in
    let j = pass _ 9 _ refl i.1 in
    let few = neither (ltb 8 (length e.reads)) (ltb 8 (length e.writes)) c.0 in
    let only = only_read e.reads e.writes in
    let rise = both (rising only) (rising e.writes) (not-false (rising only && rising e.writes) d.0) in
    record {
      tenant = not-false (is_tenant e.tenant) a.0;
      lists = record { few-reads = ltb-false 8 (length e.reads) few.0; few-writes = ltb-false 8 (length e.writes) few.1; reads-rise = rise.0; writes-rise = rise.1 };
      awaited = ltb-false 15 e.awaited g.0;
      place = leb-false m.share (places_of t.queue e.tenant) h.0;
      serial = leb-false 65535 m.serials i.0;
      some-fuel = above_zero m.fuel (eqb-false m.fuel 0 b.0);
      fuel = ltb-false m.fuel (admission p (reduced e)) j.0;
    }

-- ---- a number that is no tenant is refused with 1, whatever the other rows say
pub stranger : (who : ℕ) (rows : List Row) → is_tenant who ≡ false → first_of (not (is_tenant who) gives 1 ∷ rows) ≡ 1
unfolding first_of
stranger who rows h = rw h refl

-- ---- Grant
pub grant-passes : (t : Table) (who amount : ℕ) → first_of (grant_rows t who amount) ≡ 0 → (is_tenant who ≡ true) × ((meter_of t who).fuel + amount ≤ most_fuel)
unfolding grant_rows
grant-passes t who amount z =
    let a = pass _ 1 _ refl z in
    let b = pass _ 13 _ refl a.1 in
    (not-false (is_tenant who) a.0, ltb-false most_fuel ((meter_of t who).fuel + amount) b.0)

-- ---- Open
pub open-passes : (shares : List ℕ) → first_of (open_rows shares) ≡ 0 → (length shares ≡ 16) × (total (λ n. n) shares ≤ 64)
unfolding open_rows
open-passes shares z =
    let a = pass _ 14 _ refl z in
    let b = neither (not (eqb (length shares) 16)) (ltb 64 (total (λ n. n) shares)) a.0 in
    (eqb-true (length shares) 16 (not-false (eqb (length shares) 16) b.0), ltb-false 64 (total (λ n. n) shares) b.1)

-- ---- Finish, Recheck, Deliver, evict, cancel: the entry is there, in the state that the call asks for
pub finish-passes : (t : Table) (who serial : ℕ) → first_of (finish_rows t who serial) ≡ 0 → (is_tenant who ≡ true) × (is_absent who serial t.queue ≡ false) × (is_free (entry_of who serial t.queue).mode ≡ true)
unfolding finish_rows
finish-passes t who serial z =
    let a = pass _ 1 _ refl z in
    let b = pass _ 2 _ refl a.1 in
    let c = pass _ 10 _ refl b.1 in
    let d = pass _ 11 _ refl c.1 in
    (not-false (is_tenant who) a.0, c.0, not-false (is_free (entry_of who serial t.queue).mode) d.0)

pub recheck-passes : (p : Prices) (t : Table) (who serial : ℕ) → first_of (recheck_rows p t who serial) ≡ 0 → (is_tenant who ≡ true) × (is_absent who serial t.queue ≡ false) × (p.recheck (size (entry_of who serial t.queue)) ≤ (meter_of t who).fuel)
unfolding recheck_rows
recheck-passes p t who serial z =
    let a = pass _ 1 _ refl z in
    let b = pass _ 2 _ refl a.1 in
    let c = pass _ 10 _ refl b.1 in
    let d = pass _ 11 _ refl c.1 in
    let e = pass _ 9 _ refl d.1 in
    (not-false (is_tenant who) a.0, c.0, ltb-false (meter_of t who).fuel (p.recheck (size (entry_of who serial t.queue))) e.0)

pub deliver-passes : (t : Table) (who serial : ℕ) → first_of (deliver_rows t who serial) ≡ 0 → (is_absent who serial t.queue ≡ false) × (eqb (entry_of who serial t.queue).due 0 ≡ false)
unfolding deliver_rows
deliver-passes t who serial z =
    let a = pass _ 1 _ refl z in
    let b = pass _ 10 _ refl a.1 in
    let c = pass _ 12 _ refl b.1 in
    (b.0, c.0)

pub evict-passes : (t : Table) (who serial : ℕ) → first_of (evict_rows t who serial) ≡ 0 → (is_tenant who ≡ true) × (is_absent who serial t.queue ≡ false)
unfolding evict_rows
evict-passes t who serial z =
    let a = pass _ 1 _ refl z in
    let b = pass _ 10 _ refl a.1 in
    (not-false (is_tenant who) a.0, b.0)

-- what lets a cancel pass
pub record Cancelable (t : Table) (who serial : ℕ) : Type 0 where
  pub tenant : is_tenant who ≡ true
  pub fuelled : 0 < (meter_of t who).fuel
  pub there : is_absent who serial t.queue ≡ false
  pub blocked : is_blocked (entry_of who serial t.queue).mode ≡ true

pub cancel-passes : (t : Table) (who serial : ℕ) → first_of (cancel_rows t who serial) ≡ 0 → Cancelable t who serial
unfolding cancel_rows
cancel-passes t who serial z =
    let a = pass _ 1 _ refl z in
    let b = pass _ 2 _ refl a.1 in
    let c = pass _ 10 _ refl b.1 in
    let d = pass _ 11 _ refl c.1 in
    record {
      tenant = not-false (is_tenant who) a.0;
      fuelled = above_zero (meter_of t who).fuel (eqb-false (meter_of t who).fuel 0 b.0);
      there = c.0;
      blocked = not-false (is_blocked (entry_of who serial t.queue).mode) d.0;
    }

-- the place of an entry that is there
pub here : (who serial : ℕ) (q : List Request) → is_absent who serial q ≡ false → stands_at who serial q < length q
here who serial q h = leb-false (length q) (stands_at who serial q) h

-- ---- Scan
pub scan-passes : (t : Table) (who : ℕ) → first_of (scan_rows t who) ≡ 0 → (is_tenant who ≡ true) × (0 < (meter_of t who).fuel)
unfolding scan_rows
scan-passes t who z =
    let a = pass _ 1 _ refl z in
    let b = pass _ 2 _ refl a.1 in
    (not-false (is_tenant who) a.0, above_zero (meter_of t who).fuel (eqb-false (meter_of t who).fuel 0 b.0))
