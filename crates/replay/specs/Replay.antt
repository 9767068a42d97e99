-- One step of an event file, and the listing of the whole file.
use Rattle.std.specs.Prelude.{ℕ, zero, suc, ◌+◌, ◌-◌, ◌≡◌, Bool, true, false, List, [], ◌++◌, length, replicate, if◌then◌else◌, Option, Some, None}
use Rattle.rules.specs.declared.Answer.TheVariants.{Refused}
use Rattle.rules.specs.declared.Event.{Event}
use Rattle.rules.specs.Table.{Table, meter_of, is_tenant, fresh}
use Rattle.rules.specs.Prices.{prices_of}
use Rattle.rules.specs.Runs.{Call, event_of, step}
use Rattle.manager.specs.declared.State.{State}
use Rattle.manager.specs.State.{view, Sound}
use Rattle.events.specs.declared.Next.{Next}
use Rattle.events.specs.Events.{call_at, too_long, record_at}
use Rattle.listing.specs.declared.Name.{Name}
use Rattle.listing.specs.Listing.{line_of, header_text}
use Rattle.listing.specs.Written.{Written}
use Rattle.replay.specs.declared.Stepped.{Stepped}

-- ---- one line
-- "the named tenant's fuel afterwards, or - with no valid tenant named"
abbrev pub left_after : Table → ℕ → Option ℕ
left_after t who = if is_tenant who then Some (meter_of t who).fuel else None

-- "record number; call; answer; units burnt; the named tenant's fuel afterwards": all of it by the law book's step
unfoldable pub call_line : ℕ → Table → Call → List ℕ
call_line number t call =
    let e = event_of call in
    let o = step (prices_of t) t call in
    line_of number (Name.Call e.kind) o.answer o.burnt (left_after o.table e.tenant)

-- "A file refusal prints the call file, burns 0, and -"
abbrev pub file_line : ℕ → ℕ → List ℕ
file_line number k = line_of number Name.File (Refused k) 0 None

-- ---- one step, by what stands at the position
-- after a call the reading goes on; after a refusal "Reading stops there"
abbrev pub goes_on : Next → Bool
goes_on (Next.Call e n) = true
goes_on (Next.Refused k) = false
goes_on Next.End = false

-- where the reading then stands
abbrev pub place_by : ℕ → Next → ℕ
place_by at (Next.Call e n) = n
place_by at (Next.Refused k) = at
place_by at Next.End = at

-- where the next record begins, where the reading goes on
abbrev pub next_by : Next → Option ℕ
next_by (Next.Call e n) = Some n
next_by (Next.Refused k) = None
next_by Next.End = None

-- the table then: a call's, by the law book
abbrev pub table_by : Table → List ℕ → ℕ → Next → Table
table_by t file at (Next.Call e n) = (step (prices_of t) t (call_at file at e)).table
table_by t file at (Next.Refused k) = t
table_by t file at Next.End = t

-- "one line a record"
abbrev pub line_by : ℕ → Table → List ℕ → ℕ → Next → List ℕ
line_by number t file at (Next.Call e n) = call_line number t (call_at file at e)
line_by number t file at (Next.Refused k) = file_line number k
line_by number t file at Next.End = []

-- r is what one step makes of the state s
pub record Steps (s : State) (file : List ℕ) (at : ℕ) (first : Bool) (number : ℕ) (r : Stepped) : Type 0 where
  pub sound : Sound r.state
  pub table : view r.state ≡ table_by (view s) file at (record_at file at first)
  pub line : Written (line_by number (view s) file at (record_at file at first)) r.line
  pub next : r.next ≡ next_by (record_at file at first)
  -- without a call the state is the very same
  pub kept : goes_on (record_at file at first) ≡ false → r.state ≡ s

-- the event stands at the position
pub record ReadAt (file : List ℕ) (at : ℕ) (e : Event) : Type 0 where
  pub first : Bool
  pub next : ℕ
  pub is : record_at file at first ≡ Next.Call e next

-- ---- the whole file
-- the lines of at most k records: from a table, a position, whether it is the first record's, and the record's number
unfoldable pub lines_from : ℕ → List ℕ → Table → ℕ → Bool → ℕ → List ℕ
lines_from zero file t at first number = []
lines_from (suc k) file t at first number =
    let found = record_at file at first in
    line_by number t file at found ++
    (if goes_on found then lines_from k file (table_by t file at found) (place_by at found) false (number + 1) else [])

-- all that are left; a record has at least one byte
abbrev pub lines_left : List ℕ → Table → ℕ → Bool → ℕ → List ℕ
lines_left file t at first number = lines_from (suc (length file - at)) file t at first number

-- the same, from a position where there is one
abbrev pub lines_at : List ℕ → Table → Option ℕ → Bool → ℕ → List ℕ
lines_at file t (Some at) first number = lines_left file t at first number
lines_at file t None first number = []

-- the table before the first record, which no call meets but Open
abbrev pub unopened : Table
unopened = fresh (replicate 16 0)

-- "prints a header, then one line a record"; "24 comes before any record, with record number 1"
unfoldable pub listing_of : List ℕ → List ℕ
listing_of file = header_text ++ (if too_long file then file_line 1 24 else lines_left file unopened 0 true 1)
