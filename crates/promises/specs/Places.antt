-- Demand 3, who may join and who may leave; and the front, which may always run.
use Rattle.std.specs.Prelude.{ℕ, ◌≤◌, ◌<◌, ◌≡◌, true, false, List, [], ◌∷◌, ◌++◌}
use Rattle.rules.specs.declared.Answer.TheVariants.{Done}
use Rattle.rules.specs.Records.{WellFormed}
use Rattle.rules.specs.Request.{Request, reduced, is_free, is_blocked, promoted, admitted}
use Rattle.rules.specs.Table.{Table, is_tenant, meter_of, places_of, most_serials}
use Rattle.rules.specs.Prices.{Prices, admission}
use Rattle.rules.specs.Refusals.{is_absent, entry_of}
use Rattle.rules.specs.Calls.{Outcome, named, begun, gone, asked, begin_of, finish_of, pick_of}
use Rattle.promises.specs.Fuel.{fuel_of}

-- ---- 5 "A well-formed request from a tenant below its share, with serials left and fuel for the price, is admitted": e is the
-- request as it is asked for, with its lists as given, which may share records. It joins with the reduced ones.
pub record MayJoin (p : Prices) (t : Table) (e : Request) : Type 0 where
  pub tenant : is_tenant e.tenant ≡ true
  pub lists : WellFormed e.reads e.writes
  pub awaited : e.awaited ≤ 15
  pub place : places_of t.queue e.tenant < (meter_of t e.tenant).share
  pub serial : (meter_of t e.tenant).serials < most_serials
  pub fuel : admission p (reduced e) ≤ fuel_of t e.tenant

pub record Joins (p : Prices) (t : Table) (e : Request) (o : Outcome) : Type 0 where
  pub answer : o.answer ≡ begun t.queue (reduced e)
  pub queue : o.table.queue ≡ t.queue ++ admitted t.queue (reduced e) ∷ []
  pub burnt : o.burnt ≡ admission p (reduced e)

abbrev pub Admits : Prices → Type 0
Admits p =
    (t : Table) (who awaited : ℕ) (reads writes : List ℕ) →
    let e = asked t who awaited reads writes in
    MayJoin p t e →
    Joins p t e (begin_of p t who awaited reads writes)

-- ---- "a tenant with an empty tank can always let go": a Finish of a Free entry succeeds whatever the fuel, which stays
pub record MayLeave (t : Table) (who serial : ℕ) : Type 0 where
  pub tenant : is_tenant who ≡ true
  pub there : is_absent who serial t.queue ≡ false
  pub free : is_free (entry_of who serial t.queue).mode ≡ true

pub record Leaves (t : Table) (who serial : ℕ) (o : Outcome) : Type 0 where
  pub answer : o.answer ≡ Done
  pub table : o.table ≡ gone t who serial
  pub burnt : o.burnt ≡ 0

abbrev pub Finishes : Prices → Type 0
Finishes p =
    (t : Table) (who serial : ℕ) →
    MayLeave t who serial →
    Leaves t who serial (finish_of p t who serial)

-- ---- 8 "the front may always run": Pick promotes it if it is Blocked, whatever the counters are
pub record BlockedFront (t : Table) (e : Request) (q : List Request) : Type 0 where
  pub front : t.queue ≡ e ∷ q
  pub blocked : is_blocked e.mode ≡ true

pub record FrontRuns (e : Request) (q : List Request) (o : Outcome) : Type 0 where
  pub answer : o.answer ≡ named (promoted e)
  pub queue : o.table.queue ≡ promoted e ∷ q
  pub runs : is_blocked (promoted e).mode ≡ false

abbrev pub Picks : Type 0
Picks =
    (t : Table) (e : Request) (q : List Request) →
    BlockedFront t e q →
    FrontRuns e q (pick_of t)
