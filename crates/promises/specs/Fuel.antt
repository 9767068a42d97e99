-- Demand 3, the fuel of a tenant over any run of calls, whatever the other tenants and the host do.
use Rattle.std.specs.Prelude.{ℕ, ◌+◌, ◌*◌, ◌≤◌, ◌≡◌, true, false, ◌&&◌, not, List, eqb, leb, length, if◌then◌else◌}
use Rattle.rules.specs.Lists.{count_if, total}
use Rattle.rules.specs.Records.{member}
use Rattle.rules.specs.Request.{Request}
use Rattle.rules.specs.Table.{Table, is_tenant, meter_of}
use Rattle.rules.specs.CallTable.{Role, opening, host, request, tenant, search}
use Rattle.rules.specs.Prices.{Prices, clause9, costly}
use Rattle.rules.specs.Refusals.{entry_of}
use Rattle.rules.specs.Calls.{Outcome}
use Rattle.rules.specs.Calls.{search as search_of}
use Rattle.rules.specs.Sound.{SoundAny}
use Rattle.rules.specs.Runs.{Call, Run, step, role_of, caller_of, is_open, price_of, number, opened, run_of}
use Rattle.rules.specs.Runs.{burnt_by, prices_by, grant_of_call, granted_to, not_dry}
use Rattle.rules.specs.Runs.Call.{Begin, Finish, Recheck, Scan, Open, Grant, Pick, Deliver, Evict, Cancel}

-- ---- what the promises ask of a price list
pub record Fair (p : Prices) : Type 0 where
  -- an admitted request has paid for two calls, itself and its Finish, which then is free
  pub request : (n : ℕ) → 2 ≤ p.request n + p.release n
  pub finish : p.finish ≡ 0
  -- whoever is not dry can pay for a cancel
  pub cancel : p.cancel ≤ 1
  -- whoever is not dry can pay for a search before its first look
  pub search : p.search ≡ 1
  pub recheck : (n : ℕ) → 1 ≤ p.recheck n
  -- a refused call that is charged
  pub refused : 1 ≤ p.refused

-- ---- runs: any list of calls after an opening with any shares, refused calls included
abbrev pub reached : Prices → List ℕ → List Call → Run
reached p shares calls = run_of p (opened shares) calls

abbrev pub fuel_of : Table → ℕ → ℕ
fuel_of t who = (meter_of t who).fuel

-- ---- 1 "burnt fuel is the sum of the prices of its own calls, refused ones at the table's charge"
-- a call burns its price
abbrev pub BurnsPrice : Prices → Type 0
BurnsPrice p = (t : Table) (c : Call) → (step p t c).burnt ≡ price_of p t c

-- so the tenant's calls of a run burn the sum of theirs
abbrev pub PricesPaid : Prices → ℕ → Run → Type 0
PricesPaid p who r = burnt_by who r.steps ≡ prices_by p who r.steps

abbrev pub BurnsPrices : Prices → Type 0
BurnsPrices p =
    (shares : List ℕ) (calls : List Call) (who : ℕ) →
    PricesPaid p who (reached p shares calls)

-- it is the caller's fuel that falls by as much
abbrev pub Pays : Table → ℕ → Outcome → Type 0
Pays t who o = fuel_of t who ≡ fuel_of o.table who + o.burnt

abbrev pub OwnCall : Prices → Type 0
OwnCall p =
    (t : Table) (c : Call) (who : ℕ) →
    SoundAny t →
    is_tenant who ≡ true →
    eqb (caller_of c) who ≡ true →
    Pays t who (step p t c)

-- "with neighbours calling as they like": no other call changes it but a Grant, which gives its amount if it is not refused
abbrev pub gift : ℕ → Call → Outcome → ℕ
gift who c o = if eqb (number o) 0 then grant_of_call who c else 0

abbrev pub Gains : Table → ℕ → Call → Outcome → Type 0
Gains t who c o = fuel_of o.table who ≡ fuel_of t who + gift who c o

abbrev pub OtherCall : Prices → Type 0
OtherCall p =
    (t : Table) (c : Call) (who : ℕ) →
    SoundAny t →
    is_tenant who ≡ true →
    is_open c ≡ false →
    eqb (caller_of c) who ≡ false →
    Gains t who c (step p t c)

-- ---- 2 "and equals fuel granted less fuel left"
abbrev pub Balanced : ℕ → Run → Type 0
Balanced who r = granted_to who r.steps ≡ burnt_by who r.steps + fuel_of r.table who

abbrev pub Balance : Prices → Type 0
Balance p =
    (shares : List ℕ) (calls : List Call) (who : ℕ) →
    is_tenant who ≡ true →
    Balanced who (reached p shares calls)

-- ---- 4 "A tenant's calls not answered dry never number more than the fuel granted to it"
abbrev pub Counted : ℕ → Run → Type 0
Counted who r = not_dry who r.steps ≤ granted_to who r.steps

abbrev pub NotDry : Prices → Type 0
NotDry p =
    (shares : List ℕ) (calls : List Call) (who : ℕ) →
    is_tenant who ≡ true →
    Counted who (reached p shares calls)

-- ---- document 01's prices, in numbers
-- the column "Burns": `unit` for the refusals that it charges, 0 for the others
abbrev pub column : ℕ → ℕ → ℕ
column unit n = if member n costly then unit else 0

-- in numbers, for document 01: 1 for 3 to 11
abbrev pub Charged9 : Type 0
Charged9 = (n : ℕ) → column 1 n ≡ (if leb 3 n && leb n 11 then 1 else 0)

-- what a refused call burns by the table, by its role: "Host calls, which burn nothing"; "scan cut short: what it had burnt",
-- which is `walked`
abbrev pub table_charge : ℕ → ℕ → Role → ℕ → ℕ
table_charge unit walked opening n = 0
table_charge unit walked host n = 0
table_charge unit walked request n = column unit n
table_charge unit walked tenant n = column unit n
table_charge unit walked search n = if eqb n 9 then walked else column unit n

-- n: "an entry's number of records, reads and writes together"
abbrev pub records_in : Request → ℕ
records_in e = length e.reads + length e.writes

-- of a request as it is asked for: a record in both lists is "counted once in n"
abbrev pub records_once : List ℕ → List ℕ → ℕ
records_once reads writes = count_if (λ r. not (member r writes)) reads + length writes

-- what a call costs that is not refused
unfoldable pub cost9 : Table → Call → ℕ
cost9 t (Begin who awaited reads writes) = 2 + 2 * records_once reads writes
cost9 t (Finish who serial) = 0
cost9 t (Recheck who serial) = 1 + records_in (entry_of who serial t.queue)
cost9 t (Scan who) = 1 + total (λ e. 1 + records_in e) (search_of clause9 t who).looked
cost9 t (Open shares) = 0
cost9 t (Grant who amount) = 0
cost9 t Pick = 0
cost9 t (Deliver who serial) = 0
cost9 t (Evict who serial) = 0
cost9 t (Cancel who serial) = 1

-- that, or what the table says where the call is refused: 1 for a charged number
abbrev pub Costs9 : Table → Call → Outcome → Type 0
Costs9 t c o =
    o.burnt ≡ (if eqb (number o) 0 then cost9 t c else table_charge 1 (cost9 t c) (role_of c) (number o))

-- a call burns it, and the law book's price is that number
abbrev pub Prices9 : Type 0
Prices9 =
    (t : Table) (c : Call) →
    let o = step clause9 t c in
    Costs9 t c o × (price_of clause9 t c ≡ o.burnt)
