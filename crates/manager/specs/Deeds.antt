-- The deeds of calls: paying for a refusal, joining and leaving.
use Rattle.std.specs.Prelude.{ℕ, ◌-◌, ◌<◌, ◌≡◌, true, List, length, get_or, Option, Some, None}
use Rattle.rules.specs.declared.Answer.{Answer}
use Rattle.rules.specs.declared.Answer.TheVariants.{Done, Refused, BlockedOn}
use Rattle.rules.specs.Request.{Request, promoted}
use Rattle.rules.specs.Table.{Table, with_queue, meter_of, burn}
use Rattle.rules.specs.Prices.{prices_of, charge}
use Rattle.rules.specs.Refusals.{stands_at, is_absent}
use Rattle.rules.specs.Calls.{Outcome, without_entry, named}
use Rattle.entry.specs.declared.Entry.{Entry}
use Rattle.entry.specs.Entry.{Stands}
use Rattle.meter.specs.declared.Meter.{Meter}
use Rattle.meter.specs.View.{no_meter}
use Rattle.manager.specs.declared.State.{State}
use Rattle.manager.specs.State.{view, Becomes}

-- a tenant's call that is refused with a number
abbrev pub refused_with : Table → ℕ → ℕ → Outcome
refused_with t who number = record {
  table = burn who (charge (prices_of t) (meter_of t who).fuel number) t;
  answer = Refused number;
  burnt = charge (prices_of t) (meter_of t who).fuel number;
}

-- the meter of a tenant among all
abbrev pub meter_in : List Meter → ℕ → Meter
meter_in all who = get_or all (who - 1) no_meter

-- where the entry of that name stands
abbrev pub FoundAt : List Request → ℕ → ℕ → Option ℕ → Type 0
FoundAt q who serial (Some at) = (at ≡ stands_at who serial q) × (at < length q)
FoundAt q who serial None = is_absent who serial q ≡ true

-- the entry at a place has left, and the call says done, and what it burnt
pub record Gone (s : State) (at units : ℕ) (r : State) : Type 0 where
  pub state : Becomes (with_queue (view s) (without_entry at (view s).queue)) r
  pub answer : r.said.answer ≡ Done
  pub burnt : r.said.burnt ≡ units

-- the entry that joins and what Begin answers, by the lowest record that it clashes on
abbrev pub AdmittedBy : Option ℕ → Request → Entry × Answer → Type 0
AdmittedBy (Some r) e j = Stands e j.0 × (j.1 ≡ BlockedOn e.tenant e.serial r)
AdmittedBy None e j = Stands (promoted e) j.0 × (j.1 ≡ named (promoted e))
