-- A sound table: what an opening makes and every call keeps. The clauses are those of the sound block of document 02,
-- item 1, with what item 2 asks of a Waiting entry, as far as they speak of a table.
use Rattle.std.specs.Prelude.{ℕ, ◌≤◌, ◌<◌, ◌≡◌, true, false, List, [], ◌∷◌, length}
use Rattle.rules.specs.Lists.{total}
use Rattle.rules.specs.Records.{Stored}
use Rattle.rules.specs.Request.{Request, size, conflict, is_free, is_waiting, is_blocked}
use Rattle.rules.specs.Table.{Table, is_tenant, meter_of, places_of, most_fuel, most_serials}

-- it holds of each element
pub data Each {A : Type 0} (P : A → Type 0) : List A → Type 0 where
  none : Each P []
  also : {x : A} {xs : List A} → P x → Each P xs → Each P (x ∷ xs)

-- it holds of each two elements, the one ahead named first
pub data InOrder {A : Type 0} (R : A → A → Type 0) : List A → Type 0 where
  none : InOrder R []
  also : {x : A} {xs : List A} → Each (R x) xs → InOrder R xs → InOrder R (x ∷ xs)

-- an entry by itself, where its tenant has been given so many serials
pub record Fit (given : ℕ → ℕ) (e : Request) : Type 0 where
  -- "awaited ... keep document 01's limits; due is at most awaited"
  pub awaited : e.awaited ≤ 15
  pub due : e.due ≤ e.awaited
  -- "tenants are 1 to 16"
  pub tenant : is_tenant e.tenant ≡ true
  -- "a tenant's serials rise ... from 1 to those given"
  pub from_one : 1 ≤ e.serial
  pub to-given : e.serial ≤ given e.tenant
  -- "a Free entry has nothing due, ... a Blocked one n above 0"; item 2: it "refuses a Waiting entry with nothing due"
  pub free : is_free e.mode ≡ true → e.due ≡ 0
  pub waiting : is_waiting e.mode ≡ true → 0 < e.due
  pub blocked : is_blocked e.mode ≡ true → 0 < size e
  -- "lists keep refusals 3 to 5"
  pub lists : Stored e.reads e.writes

abbrev pub given_by : Table → ℕ → ℕ
given_by t who = (meter_of t who).serials

-- "serials rise from front to back"
abbrev pub SerialsRise : Request → Request → Type 0
SerialsRise a e = a.tenant ≡ e.tenant → a.serial < e.serial

-- "no Free or Waiting entry conflicts with one ahead"
abbrev pub ClearOf : Request → Request → Type 0
ClearOf a e = is_blocked e.mode ≡ false → conflict a e ≡ false

-- the records that the entry names are all of them so
pub record Names (ok : ℕ → Type 0) (e : Request) : Type 0 where
  pub reads : Each ok e.reads
  pub writes : Each ok e.writes

-- a table whose entries name only records that are `ok`: every call keeps it so that names none but these
pub record SoundBy (ok : ℕ → Type 0) (t : Table) : Type 0 where
  pub sixteen : length t.meters ≡ 16
  -- "shares sum to at most 64"
  pub shares : total (λ m. m.share) t.meters ≤ 64
  -- "fuel ... keep document 01's limits", and so do the serials given
  pub fuel : Each (λ m. m.fuel ≤ most_fuel) t.meters
  pub given : Each (λ m. m.serials ≤ most_serials) t.meters
  -- "none above its share"
  pub places : (who : ℕ) → is_tenant who ≡ true → places_of t.queue who ≤ (meter_of t who).share
  pub entries : Each (Fit (given_by t)) t.queue
  pub records : Each (Names ok) t.queue
  pub serials : InOrder SerialsRise t.queue
  pub clear : InOrder ClearOf t.queue

-- "Records are numbered 0 to 255"
abbrev pub SoundTable : Table → Type 0
SoundTable = SoundBy (λ r. r ≤ 255)

-- sound but for that, as the law book's calls keep it whatever numbers they name
abbrev pub SoundAny : Table → Type 0
SoundAny = SoundBy (λ r. Unit {0})
