-- A request for locks, as the queue holds it, and when two of them conflict.
use Rattle.std.specs.Prelude.{ℕ, ◌+◌, ◌-◌, Bool, true, false, ◌&&◌, ◌||◌, List, [], eqb, ltb, length, if◌then◌else◌}
use Rattle.rules.specs.declared.Mode.{Mode}
use Rattle.rules.specs.declared.Mode.TheVariants.{Free, Waiting, Blocked}
use Rattle.rules.specs.Lists.{some}
use Rattle.rules.specs.Records.{meets, only_read}

-- "An entry is named by tenant and serial ... It keeps the awaited answers it was opened with and those still due"
pub record Request : Type 0 where
  pub tenant : ℕ
  pub serial : ℕ
  pub mode : Mode
  pub awaited : ℕ
  pub due : ℕ
  pub reads : List ℕ
  pub writes : List ℕ

-- what stands where a list of requests has ended
abbrev pub nobody : Request
nobody = record { tenant = 0; serial = 0; mode = Free; awaited = 0; due = 0; reads = []; writes = [] }

-- a request as it is asked for, with its lists as given: all its answers are due, and it is Blocked until it is found clear
abbrev pub requested : ℕ → ℕ → ℕ → List ℕ → List ℕ → Request
requested who serial awaited reads writes = record {
  tenant = who;
  serial = serial;
  mode = Blocked;
  awaited = awaited;
  due = awaited;
  reads = reads;
  writes = writes;
}

-- a request as it is stored: with the reduced lists
abbrev pub reduced : Request → Request
reduced e = record {
  tenant = e.tenant;
  serial = e.serial;
  mode = e.mode;
  awaited = e.awaited;
  due = e.due;
  reads = only_read e.reads e.writes;
  writes = e.writes;
}

-- "n is an entry's number of records, reads and writes together"
unfoldable pub size : Request → ℕ
size e = length e.reads + length e.writes

-- "Two requests conflict if some record is written by one of them and read or written by the other"
unfoldable pub conflict : Request → Request → Bool
conflict a b =
    meets a.writes b.writes || meets a.writes b.reads || meets a.reads b.writes

-- the request conflicts with some entry of the list
abbrev pub conflicts_any : List Request → Request → Bool
conflicts_any q e = some (λ a. conflict a e) q

abbrev pub is_named : ℕ → ℕ → Request → Bool
is_named who serial e = eqb e.tenant who && eqb e.serial serial

abbrev pub is_free : Mode → Bool
is_free Free = true
is_free Waiting = false
is_free Blocked = false

abbrev pub is_waiting : Mode → Bool
is_waiting Free = false
is_waiting Waiting = true
is_waiting Blocked = false

abbrev pub is_blocked : Mode → Bool
is_blocked Free = false
is_blocked Waiting = false
is_blocked Blocked = true

-- the request with another state, and with another number of answers due
abbrev pub with_mode : Request → Mode → Request
with_mode e m = record {
  tenant = e.tenant;
  serial = e.serial;
  mode = m;
  awaited = e.awaited;
  due = e.due;
  reads = e.reads;
  writes = e.writes;
}

abbrev pub with_due : Request → ℕ → Request
with_due e n = record {
  tenant = e.tenant;
  serial = e.serial;
  mode = e.mode;
  awaited = e.awaited;
  due = n;
  reads = e.reads;
  writes = e.writes;
}

-- document 02, item 2: "A promoted entry becomes Waiting only if an answer is still due, otherwise Free"
unfoldable pub promoted : Request → Request
promoted e = with_mode e (if ltb 0 e.due then Waiting else Free)

-- Begin: "Blocked exactly if it conflicts with some entry queued before it; otherwise it is Waiting if awaited is above 0,
-- and Free if awaited is 0", which is the rule of a promotion, since all its answers are due then (`BeginTells`)
unfoldable pub admitted : List Request → Request → Request
admitted q e = if conflicts_any q e then e else promoted e

-- Deliver: "one remote answer fewer is due. A Waiting entry with none left due becomes Free. A Blocked entry stays Blocked."
unfoldable pub delivered : Request → Request
delivered e =
    let left = with_due e (e.due - 1) in
    if is_waiting e.mode && eqb left.due 0 then with_mode left Free else left
