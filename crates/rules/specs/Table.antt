-- The table that the calls work on: a meter for each of the tenants 1 to 16, and the queue, front first.
-- Cx and Cs are not kept here: they are counts over the queue (Counters).
use Rattle.std.specs.Prelude.{ℕ, ◌+◌, ◌-◌, Bool, ◌&&◌, List, [], map, eqb, leb, get_or, set}
use Rattle.rules.specs.Lists.{count_if}
use Rattle.rules.specs.Request.{Request}

-- "A tenant has a share (a number of queue places), fuel and serials given so far"
pub record Meter : Type 0 where
  pub fuel : ℕ
  pub serials : ℕ
  pub share : ℕ

pub record Table : Type 0 where
  pub meters : List Meter
  pub queue : List Request

-- "fuel (0 to 1,000,000,000 ...) and serials given so far (at most 65,535 ...)"
abbrev pub most_fuel : ℕ
most_fuel = 1_000_000_000

abbrev pub most_serials : ℕ
most_serials = 65_535

-- "Tenants are 1 to 16"
abbrev pub is_tenant : ℕ → Bool
is_tenant who = leb 1 who && leb who 16

abbrev pub no_meter : Meter
no_meter = record { fuel = 0; serials = 0; share = 0 }

abbrev pub meter_of : Table → ℕ → Meter
meter_of t who = get_or t.meters (who - 1) no_meter

abbrev pub with_meter : Table → ℕ → Meter → Table
with_meter t who m = record { meters = set t.meters (who - 1) m; queue = t.queue }

abbrev pub with_queue : Table → List Request → Table
with_queue t q = record { meters = t.meters; queue = q }

-- the places that the tenant holds
abbrev pub places_of : List Request → ℕ → ℕ
places_of q who = count_if (λ e. eqb e.tenant who) q

-- fuel falls; fuel rises; the next serial is given
abbrev pub spent : Meter → ℕ → Meter
spent m units = record { fuel = m.fuel - units; serials = m.serials; share = m.share }

abbrev pub granted : Meter → ℕ → Meter
granted m amount = record { fuel = m.fuel + amount; serials = m.serials; share = m.share }

abbrev pub numbered : Meter → Meter
numbered m = record { fuel = m.fuel; serials = m.serials + 1; share = m.share }

-- the table once the tenant has burnt some units
abbrev pub burn : ℕ → ℕ → Table → Table
burn who units t = with_meter t who (spent (meter_of t who) units)

-- "Open: a fresh state": fuel "at first 0", no serial given, an empty queue
abbrev pub new_meter : ℕ → Meter
new_meter share = record { fuel = 0; serials = 0; share = share }

unfoldable pub fresh : List ℕ → Table
fresh shares = record { meters = map new_meter shares; queue = [] }
