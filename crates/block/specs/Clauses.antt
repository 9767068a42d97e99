-- "A block is sound exactly if": the list of item 1 over the bytes themselves, one field for each clause, in its words and order.
-- That these clauses and the block of a sound table say the same is `ClausesTell`.
use Rattle.std.specs.Prelude.{ℕ, zero, suc, ◌+◌, ◌-◌, ◌*◌, ◌≤◌, ◌<◌, ◌≡◌, true, List, map, length, get_or, take, drop, replicate}
use Rattle.rules.specs.declared.Mode.{Mode}
use Rattle.rules.specs.declared.Mode.TheVariants.{Free, Waiting, Blocked}
use Rattle.rules.specs.Lists.{total}
use Rattle.rules.specs.Records.{Stored}
use Rattle.rules.specs.Request.{Request, size, is_free, is_waiting, is_blocked}
use Rattle.rules.specs.Table.{Table, Meter, is_tenant, meter_of, places_of, most_fuel}
use Rattle.rules.specs.Counters.{cx, cs}
use Rattle.rules.specs.Sound.{Each, InOrder, SerialsRise, ClearOf, given_by}
use Rattle.block.specs.Bytes.{head}
use Rattle.block.specs.Block.{tab, SoundBlock}

-- ---- what stands in the bytes
-- n bytes from a place on
abbrev pub part : List ℕ → ℕ → ℕ → List ℕ
part b at n = take n (drop at b)

-- the number in two bytes from a place on, and in four
abbrev pub two_at : List ℕ → ℕ → ℕ
two_at p at = get_or p at 0 * 256 + get_or p (at + 1) 0

abbrev pub four_at : List ℕ → ℕ → ℕ
four_at p at = two_at p at * 65_536 + two_at p (at + 2)

-- any other byte than 0, 1 and 2 is no state; it is read as Blocked, and `states` forbids it
abbrev pub mode_of : ℕ → Mode
mode_of zero = Free
mode_of (suc zero) = Waiting
mode_of (suc (suc n)) = Blocked

-- the request in the 24 bytes of an entry
unfoldable pub request_in : List ℕ → Request
request_in p = record {
  tenant = get_or p 0 0;
  serial = two_at p 1;
  mode = mode_of (get_or p 3 0);
  awaited = get_or p 4 0;
  due = get_or p 5 0;
  reads = part p 8 (get_or p 6 0);
  writes = part p (8 + get_or p 6 0) (get_or p 7 0);
}

-- the meter in six bytes, and a share
unfoldable pub meter_from : List ℕ → ℕ → Meter
meter_from p share = record { fuel = four_at p 0; serials = two_at p 4; share = share }

-- the meter that stands at a place, from 0
abbrev pub meter_at : List ℕ → ℕ → Meter
meter_at b i = meter_from (part b (22 + i * 6) 6) (get_or b (3 + i) 0)

abbrev pub meters_in : List ℕ → List Meter
meters_in b = tab (meter_at b) 16

abbrev pub count_in : List ℕ → ℕ
count_in b = get_or b 639 0

-- the 24 bytes of each entry in use
abbrev pub row_at : List ℕ → ℕ → List ℕ
row_at b i = part b (640 + i * 24) 24

abbrev pub rows_in : List ℕ → List (List ℕ)
rows_in b = tab (row_at b) (count_in b)

abbrev pub queue_in : List ℕ → List Request
queue_in b = map request_in (rows_in b)

abbrev pub table_in : List ℕ → Table
table_in b = record { meters = meters_in b; queue = queue_in b }

-- ---- the clauses
-- the records that an entry's counts leave unused are zero
abbrev pub RestZero : List ℕ → Type 0
RestZero p = let n = get_or p 6 0 + get_or p 7 0 in drop (8 + n) p ≡ replicate (16 - n) 0

-- each field has its head: the tag, and its length
pub record Heads (b : List ℕ) : Type 0 where
  pub shares : part b 0 3 ≡ head 17 16
  pub meters : part b 19 3 ≡ head 18 96
  pub cx : part b 118 3 ≡ head 19 256
  pub cs : part b 377 3 ≡ head 20 256
  pub queue : part b 636 3 ≡ head 21 1_537

pub record AsAbove (b : List ℕ) : Type 0 where
  pub whole : length b ≡ 2_176
  pub heads : Heads b
  pub records : Each RestZero (rows_in b)
  pub entries : drop (640 + count_in b * 24) b ≡ replicate ((64 - count_in b) * 24) 0

pub record Limits (b : List ℕ) : Type 0 where
  pub fuel : Each (λ m. m.fuel ≤ most_fuel) (meters_in b)
  pub awaited : Each (λ e. e.awaited ≤ 15) (queue_in b)
  pub count : count_in b ≤ 64

pub record Tenants (b : List ℕ) : Type 0 where
  pub range : Each (λ e. is_tenant e.tenant ≡ true) (queue_in b)
  pub places : (who : ℕ) → is_tenant who ≡ true → places_of (queue_in b) who ≤ (meter_of (table_in b) who).share

pub record Serials (b : List ℕ) : Type 0 where
  pub rise : InOrder SerialsRise (queue_in b)
  pub from_one : Each (λ e. 1 ≤ e.serial) (queue_in b)
  pub to-given : Each (λ e. e.serial ≤ given_by (table_in b) e.tenant) (queue_in b)

-- a state and what it asks for: "a Free entry has nothing due, ... a Blocked one n above 0"; item 2: the block "refuses a Waiting
-- entry with nothing due", and so, by the clause on due, one with nothing awaited
pub record Suits (mode : Mode) (due n : ℕ) : Type 0 where
  pub free : is_free mode ≡ true → due ≡ 0
  pub waiting : is_waiting mode ≡ true → 0 < due
  pub blocked : is_blocked mode ≡ true → 0 < n

abbrev pub Suited : Request → Type 0
Suited e = Suits e.mode e.due (size e)

-- "lists keep refusals 3 to 5": the counts themselves too, since the bytes of an entry end after 16 records
pub record ListsKeep (p : List ℕ) : Type 0 where
  pub few-reads : get_or p 6 0 ≤ 8
  pub few-writes : get_or p 7 0 ≤ 8
  pub formed : Stored (request_in p).reads (request_in p).writes

pub record Counted (b : List ℕ) : Type 0 where
  pub writers : part b 121 256 ≡ tab (cx (queue_in b)) 256
  pub readers : part b 380 256 ≡ tab (cs (queue_in b)) 256

pub record Clauses (b : List ℕ) : Type 0 where
  -- "heads, lengths and unused bytes are as above"
  pub as-above : AsAbove b
  -- "shares sum to at most 64"
  pub shares : total (λ m. m.share) (meters_in b) ≤ 64
  -- "fuel, awaited and count keep document 01's limits"
  pub limits : Limits b
  -- "due is at most awaited"
  pub due : Each (λ e. e.due ≤ e.awaited) (queue_in b)
  -- "tenants are 1 to 16, none above its share"
  pub tenants : Tenants b
  -- "a tenant's serials rise from front to back, from 1 to those given"
  pub serials : Serials b
  -- "states are 0 to 2"
  pub states : Each (λ p. get_or p 3 0 ≤ 2) (rows_in b)
  -- "a Free entry has nothing due, ... a Blocked one n above 0", and a Waiting one has an answer due
  pub suits : Each Suited (queue_in b)
  -- "lists keep refusals 3 to 5"
  pub lists : Each ListsKeep (rows_in b)
  -- "Cx and Cs are the queue's"
  pub counters : Counted b
  -- "no Free or Waiting entry conflicts with one ahead"
  pub clear : InOrder ClearOf (queue_in b)

-- of bytes, the clauses and the block of a sound table say the same
pub record Same (P Q : Type 0) : Type 0 where
  pub to : P → Q
  pub from : Q → P

abbrev pub ClausesTell : Type 0
ClausesTell = (b : List ℕ) → ((i : ℕ) → get_or b i 0 < 256) → Same (Clauses b) (SoundBlock b)
