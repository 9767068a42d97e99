-- Demand 1, what a refusal does: "changes no counter, entry or place, and burns exactly the fuel stated" in the table.
use Rattle.std.specs.Prelude.{ℕ, min, ◌≡◌, false, List, eqb, replicate}
use Rattle.rules.specs.Table.{Table, meter_of, places_of, fresh}
use Rattle.rules.specs.Prices.{Prices, clause9, searching}
use Rattle.rules.specs.Counters.{cx, cs}
use Rattle.rules.specs.Calls.{Outcome, search, open_of}
use Rattle.rules.specs.Runs.{Call, step, role_of, caller_of, number, is_open}
use Rattle.promises.specs.Fuel.{fuel_of, table_charge}

-- "It leaves counters, queue, states, places and serials as they were": a table that differs in fuel alone
pub record SameButFuel (t u : Table) : Type 0 where
  pub exclusive : (r : ℕ) → cx u.queue r ≡ cx t.queue r
  pub shared : (r : ℕ) → cs u.queue r ≡ cs t.queue r
  pub entries : u.queue ≡ t.queue
  pub places : (who : ℕ) → places_of u.queue who ≡ places_of t.queue who
  pub serials : (who : ℕ) → (meter_of u who).serials ≡ (meter_of t who).serials
  pub shares : (who : ℕ) → (meter_of u who).share ≡ (meter_of t who).share

-- a call that was refused: what the table charges is `unit`, and a search had burnt `walked`
pub record Refusal (unit walked : ℕ) (t : Table) (c : Call) (o : Outcome) : Type 0 where
  pub same : SameButFuel t o.table
  pub burnt : o.burnt ≡ table_charge unit walked (role_of c) (number o)

-- the charge is the list's for a refused call, or what is left if less
abbrev pub Refuses : Prices → Type 0
Refuses p =
    (t : Table) (c : Call) →
    let who = caller_of c in
    let o = step p t c in
    is_open c ≡ false →
    eqb (number o) 0 ≡ false →
    Refusal (min p.refused (fuel_of t who)) (searching p (search p t who).looked) t c o

-- and document 01's is 1
abbrev pub Refuses9 : Type 0
Refuses9 =
    (t : Table) (c : Call) →
    let o = step clause9 t c in
    is_open c ≡ false →
    eqb (number o) 0 ≡ false →
    Refusal 1 (searching clause9 (search clause9 t (caller_of c)).looked) t c o

-- document 02, item 4: "5 is no longer given; its number stays unused"
abbrev pub NeverFive : Prices → Type 0
NeverFive p =
    (t : Table) (c : Call) →
    eqb (number (step p t c)) 5 ≡ false

-- "Refusal 14 hands out a state with every share 0"
pub record RefusedOpen (o : Outcome) : Type 0 where
  pub refused : number o ≡ 14
  pub table : o.table ≡ fresh (replicate 16 0)
  pub burnt : o.burnt ≡ 0

abbrev pub RefusesOpen : Type 0
RefusesOpen =
    (shares : List ℕ) →
    eqb (number (open_of shares)) 0 ≡ false →
    RefusedOpen (open_of shares)
