-- What the steps of the check tell.
use Rattle.std.specs.Prelude.{ℕ, ◌≤◌, ◌≡◌, Bool, true, false, List, get_or}
use Rattle.rules.specs.Lists.{total}
use Rattle.rules.specs.Records.{Stored}
use Rattle.rules.specs.Table.{is_tenant, most_fuel}
use Rattle.rules.specs.Sound.{Each, InOrder, ClearOf}
use Rattle.block.specs.Clauses.{request_in, meters_in, rows_in, queue_in, RestZero, Suited, Tenants, Serials, Counted}

-- r says whether it holds
pub record Tells (r : Bool) (P : Type 0) : Type 0 where
  pub yes : r ≡ true → P
  pub other : r ≡ false → P → ⊥

-- the clauses on meters
pub record MetersFit (b : List ℕ) : Type 0 where
  pub shares : total (λ m. m.share) (meters_in b) ≤ 64
  pub fuel : Each (λ m. m.fuel ≤ most_fuel) (meters_in b)

-- the clauses that the 24 bytes of an entry tell by themselves: on its lists, and on its numbers
pub record ListsFit (p : List ℕ) : Type 0 where
  pub lists : Stored (request_in p).reads (request_in p).writes
  pub rest : RestZero p

pub record NumbersFit (p : List ℕ) : Type 0 where
  pub tenant : is_tenant (get_or p 0 0) ≡ true
  pub awaited : get_or p 4 0 ≤ 15
  pub due : get_or p 5 0 ≤ get_or p 4 0
  pub state : get_or p 3 0 ≤ 2
  pub suits : Suited (request_in p)

pub record RowFits (p : List ℕ) : Type 0 where
  pub few-reads : get_or p 6 0 ≤ 8
  pub few-writes : get_or p 7 0 ≤ 8
  pub numbers : NumbersFit p
  pub lists : ListsFit p

-- the clauses that one pass over the entries tells
pub record QueueFits (b : List ℕ) : Type 0 where
  pub rows : Each RowFits (rows_in b)
  pub tenants : Tenants b
  pub serials : Serials b
  pub counters : Counted b
  pub clear : InOrder ClearOf (queue_in b)
