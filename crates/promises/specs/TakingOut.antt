-- Document 02, item 7, "Taking a stuck request out": what an eviction takes from a tenant, what evict and cancel leave of the queue,
-- and whom the next Scan then promotes.
use Rattle.std.specs.Prelude.{ℕ, ◌+◌, ◌≤◌, ◌<◌, ◌≡◌, Bool, true, false, ◌&&◌, not, List, [], ◌∷◌, ◌++◌, map, eqb, length, get_or, take, if◌then◌else◌}
use Rattle.rules.specs.declared.Answer.TheVariants.{Done}
use Rattle.rules.specs.Lists.{every}
use Rattle.rules.specs.Records.{member}
use Rattle.rules.specs.Request.{Request, nobody, is_named, is_blocked, conflicts_any}
use Rattle.rules.specs.Table.{Table, is_tenant, places_of, with_queue, burn}
use Rattle.rules.specs.Prices.{Prices, searching}
use Rattle.rules.specs.Refusals.{is_absent}
use Rattle.rules.specs.Counters.{cx, cs}
use Rattle.rules.specs.Calls.{Outcome, scan_of, evict_of, cancel_of}
use Rattle.rules.specs.Sound.{SoundAny}
use Rattle.rules.specs.Runs.{Call, step, caller_of, is_open, number, from, run_of}
use Rattle.rules.specs.Runs.Call.{Begin, Finish, Recheck, Scan, Open, Grant, Pick, Deliver, Evict, Cancel}
use Rattle.promises.specs.Fuel.{fuel_of}
use Rattle.promises.specs.Searches.{ready, Promoting}

-- ---- 18 "In demand 3 an eviction may lower a tenant's places, not its fuel"
-- one that is not refused takes a place from the tenant that it names, and none takes fuel from anybody
pub record Takes (t : Table) (whose who : ℕ) (o : Outcome) : Type 0 where
  pub fuel : fuel_of o.table who ≡ fuel_of t who
  pub places : places_of t.queue who ≡ places_of o.table.queue who + (if eqb (number o) 0 && eqb whose who then 1 else 0)

abbrev pub EvictionTakes : Type 0
EvictionTakes =
    (t : Table) (whose serial who : ℕ) →
    Takes t whose who (evict_of t whose serial)

-- and no other call of a neighbour or of the host lowers either. An Open, which begins a new sequence of calls, is not spoken of.
abbrev pub evicts_from : ℕ → Call → Bool
evicts_from who (Begin w awaited reads writes) = false
evicts_from who (Finish w serial) = false
evicts_from who (Recheck w serial) = false
evicts_from who (Scan w) = false
evicts_from who (Open shares) = false
evicts_from who (Grant w amount) = false
evicts_from who Pick = false
evicts_from who (Deliver w serial) = false
evicts_from who (Evict w serial) = eqb w who
evicts_from who (Cancel w serial) = false

pub record LowersNeither (t : Table) (who : ℕ) (o : Outcome) : Type 0 where
  pub fuel : fuel_of t who ≤ fuel_of o.table who
  pub places : places_of o.table.queue who ≡ places_of t.queue who

abbrev pub OthersLowerNeither : Prices → Type 0
OthersLowerNeither p =
    (t : Table) (c : Call) (who : ℕ) →
    SoundAny t →
    is_tenant who ≡ true →
    is_open c ≡ false →
    eqb (caller_of c) who ≡ false →
    evicts_from who c ≡ false →
    LowersNeither t who (step p t c)

-- ---- 19 "Both release counters and place, refund no fuel and answer done"
-- e stood between these entries, and is taken out by a call that burns so much
pub record TakenOut (t : Table) (ahead : List Request) (e : Request) (behind : List Request) (units : ℕ) (o : Outcome) : Type 0 where
  pub answer : o.answer ≡ Done
  pub burnt : o.burnt ≡ units
  -- the rest of the queue is as it was, in order, and so is every meter but for what the call burns
  pub table : o.table ≡ burn e.tenant units (with_queue t (ahead ++ behind))
  -- one count fewer at each of its records, and a place fewer for its tenant
  pub exclusive : (r : ℕ) → cx t.queue r ≡ cx o.table.queue r + (if member r e.writes then 1 else 0)
  pub shared : (r : ℕ) → cs t.queue r ≡ cs o.table.queue r + (if member r e.reads then 1 else 0)
  pub place : (who : ℕ) → places_of t.queue who ≡ places_of o.table.queue who + (if eqb e.tenant who then 1 else 0)

-- "evict (tenant, serial) for an entry in any state"
abbrev pub Evicts : Type 0
Evicts =
    (t : Table) (ahead : List Request) (e : Request) (behind : List Request) →
    SoundAny t →
    t.queue ≡ ahead ++ e ∷ behind →
    TakenOut t ahead e behind 0 (evict_of t e.tenant e.serial)

-- so the host alone can empty the queue, whatever the tenants do and whatever fuel they have
abbrev pub evictions : List Request → List Call
evictions q = map (λ e. Evict e.tenant e.serial) q

abbrev pub HostEmpties : Prices → Type 0
HostEmpties p =
    (t : Table) →
    SoundAny t →
    (run_of p (from t) (evictions t.queue)).table ≡ with_queue t []

-- "cancel for its own Blocked entry": its tenant needs a unit, and with one it gets 11 for an entry that is not Blocked
abbrev pub Cancels : Prices → Type 0
Cancels p =
    (t : Table) (ahead : List Request) (e : Request) (behind : List Request) →
    SoundAny t →
    t.queue ≡ ahead ++ e ∷ behind →
    0 < fuel_of t e.tenant →
    is_blocked e.mode ≡ true →
    TakenOut t ahead e behind p.cancel (cancel_of p t e.tenant e.serial)

abbrev pub CancelsNoOther : Prices → Type 0
CancelsNoOther p =
    (t : Table) (ahead : List Request) (e : Request) (behind : List Request) →
    SoundAny t →
    t.queue ≡ ahead ++ e ∷ behind →
    0 < fuel_of t e.tenant →
    is_blocked e.mode ≡ false →
    number (cancel_of p t e.tenant e.serial) ≡ 11

-- what is refused, and in which order: "evict 1, 10"; "cancel 1, 2, 10, then 11"
pub record Refused (p : Prices) (t : Table) (who serial : ℕ) : Type 0 where
  pub stranger : is_tenant who ≡ false → (number (evict_of t who serial) ≡ 1) × (number (cancel_of p t who serial) ≡ 1)
  pub dry : is_tenant who ≡ true → fuel_of t who ≡ 0 → number (cancel_of p t who serial) ≡ 2
  pub unevicted : is_tenant who ≡ true → is_absent who serial t.queue ≡ true → number (evict_of t who serial) ≡ 10
  pub uncancelled : is_tenant who ≡ true → 0 < fuel_of t who → is_absent who serial t.queue ≡ true → number (cancel_of p t who serial) ≡ 10

abbrev pub TakesNone : Prices → Type 0
TakesNone p = (t : Table) (who serial : ℕ) → Refused p t who serial

-- ---- 20 Whoever conflicted with nothing but the one taken out is promoted by its next Scan with fuel to finish
-- f stands behind e, and conflicts with nothing else that is ahead of it
pub record BehindOnly (e f : Request) (t : Table) : Type 0 where
  pub ahead : List Request
  pub between : List Request
  pub behind : List Request
  pub queue : t.queue ≡ ahead ++ e ∷ (between ++ f ∷ behind)
  pub clear : conflicts_any (ahead ++ between) f ≡ false

-- the calls by which e leaves
pub data TakesOut (e : Request) : Call → Type 0 where
  evicted : TakesOut e (Evict e.tenant e.serial)
  cancelled : TakesOut e (Cancel e.tenant e.serial)
  finished : TakesOut e (Finish e.tenant e.serial)

-- f is at that place of the queue, and Blocked: a name is one request's
pub record WaitsAt (f : Request) (at : ℕ) (t : Table) : Type 0 where
  pub there : at < length t.queue
  pub named : is_named f.tenant f.serial (get_or t.queue at nobody) ≡ true
  pub blocked : is_blocked (get_or t.queue at nobody).mode ≡ true

-- a Scan promotes it, or another of its tenant's requests ahead of it that is ready too: the first of them
pub record PromotesUpTo (p : Prices) (who k : ℕ) (t : Table) (o : Outcome) : Type 0 where
  pub at : ℕ
  pub up_to : at ≤ k
  pub promotes : Promoting p who t at o
  pub itself : ((i : ℕ) → i < k → ready who t.queue i ≡ false) → at ≡ k

-- whatever calls were made in between, if it still waits then, and the fuel pays for the looks up to it
abbrev pub NextScan : Prices → Type 0
NextScan p =
    (t : Table) (e f : Request) (c : Call) (more : List Call) (k : ℕ) →
    let v = (run_of p (from (step p t c).table) more).table in
    SoundAny t →
    BehindOnly e f t →
    TakesOut e c →
    number (step p t c) ≡ 0 →
    every (λ c. not (is_open c)) more ≡ true →
    WaitsAt f k v →
    searching p (take (k + 1) v.queue) ≤ fuel_of v f.tenant →
    PromotesUpTo p f.tenant k v (scan_of p v f.tenant)
