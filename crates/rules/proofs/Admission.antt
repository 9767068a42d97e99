-- "A well-formed request from a tenant below its share, with serials left and fuel for the price, is admitted." It is asked for
-- with its lists as given, and joins with the reduced ones.
use Prim.Native.Nat.{ℕ, ◌≤◌, ◌<◌}
use mathlib.Core.Path.{◌≡◌}
use mathlib.Core.Bool.{true, false}
use mathlib.Core.List.{List}
use native.Mathlib.Omega.{arith}
use lib.Dec.{eqb, ltb, leb}
use lib.ListN.{length}
use borrow.Author.Tests.{le-ltb, lt-leb, ne_eqb}
use Rattle.rules.specs.Records.{WellFormed}
use Rattle.rules.specs.Request.{Request, reduced, admitted}
use Rattle.rules.specs.Table.{Table, meter_of, is_tenant, places_of, burn}
use Rattle.rules.specs.Prices.{Prices, admission}
use Rattle.rules.specs.Refusals.{first_of, begin_rows}
use Rattle.rules.specs.Calls.{asked, begun, joined, begin_of}

pub record Admissible (p : Prices) (t : Table) (e : Request) : Type 0 where
  pub tenant : is_tenant e.tenant ≡ true
  pub lists : WellFormed e.reads e.writes
  pub awaited : e.awaited ≤ 15
  pub place : places_of t.queue e.tenant < (meter_of t e.tenant).share
  pub serial : (meter_of t e.tenant).serials < 65535
  pub some-fuel : 0 < (meter_of t e.tenant).fuel
  pub fuel : admission p (reduced e) ≤ (meter_of t e.tenant).fuel

pub no-refusal : {p : Prices} {t : Table} {e : Request} → Admissible p t e → first_of (begin_rows p t e) ≡ 0
unfolding first_of begin_rows
no-refusal {p} {t} {e} a =
    let m = meter_of t e.tenant in
    let dry : eqb m.fuel 0 ≡ false = ne_eqb m.fuel 0 (λ z. omega (arith, a.some-fuel)) in
    let reads : ltb 8 (length e.reads) ≡ false = le-ltb 8 (length e.reads) a.lists.few-reads in
    let writes : ltb 8 (length e.writes) ≡ false = le-ltb 8 (length e.writes) a.lists.few-writes in
    let late : ltb 15 e.awaited ≡ false = le-ltb 15 e.awaited a.awaited in
    let full : leb m.share (places_of t.queue e.tenant) ≡ false = lt-leb m.share (places_of t.queue e.tenant) a.place in
    let out : leb 65535 m.serials ≡ false = lt-leb 65535 m.serials a.serial in
    let poor : ltb m.fuel (admission p (reduced e)) ≡ false = le-ltb m.fuel (admission p (reduced e)) a.fuel in
    simp (a.tenant, dry, reads, writes, a.lists.reads-rise, a.lists.writes-rise, late, full, out, poor)

-- what an admitted request's Begin does
pub begin-admits : {p : Prices} {t : Table} {who awaited : ℕ} {reads writes : List ℕ} → Admissible p t (asked t who awaited reads writes) → begin_of p t who awaited reads writes ≡ (let e = reduced (asked t who awaited reads writes) in let entry = admitted t.queue e in record { table = burn who (admission p e) (joined t entry); answer = begun t.queue e; burnt = admission p e })
unfolding begin_of
begin-admits a = rw (no-refusal a)
