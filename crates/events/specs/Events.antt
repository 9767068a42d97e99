-- The event file, as a list of bytes: what stands at a position, when it is refused, and which call it is.
use Rattle.std.specs.Prelude.{ℕ, ◌+◌, ◌-◌, ◌*◌, ◌≤◌, ◌≡◌, Bool, true, false, ◌&&◌, not, List, [], ◌∷◌, ◌++◌, eqb, ltb, leb, length, get_or, take, drop, if◌then◌else◌, Option, Some, None}
use Rattle.rules.specs.declared.Kind.{Kind}
use Rattle.rules.specs.declared.Event.{Event}
use Rattle.rules.specs.CallTable.{Body, bytes, lists, row_of, is_opening}
use Rattle.rules.specs.Refusals.{Row, ◌gives◌, first_of}
use Rattle.rules.specs.Runs.{Call, event_of}
use Rattle.rules.specs.Tags.{kind_of}
use Rattle.events.specs.declared.Next.{Next}

-- ---- numbers, "high first"
abbrev pub byte_at : List ℕ → ℕ → ℕ
byte_at file i = get_or file i 0

abbrev pub two_at : List ℕ → ℕ → ℕ
two_at file i = byte_at file i * 256 + byte_at file (i + 1)

abbrev pub four_at : List ℕ → ℕ → ℕ
four_at file i = two_at file i * 65_536 + two_at file (i + 2)

-- ---- "A record is a one-byte tag, a two-byte length (high byte first) and a body"
abbrev pub tag_at : List ℕ → ℕ → ℕ
tag_at file at = byte_at file at

abbrev pub length_at : List ℕ → ℕ → ℕ
length_at file at = two_at file (at + 1)

abbrev pub body_at : List ℕ → ℕ → List ℕ
body_at file at = take (length_at file at) (drop (at + 3) file)

-- where the next record begins
abbrev pub next_at : List ℕ → ℕ → ℕ
next_at file at = at + 3 + length_at file at

-- r of a Begin: the third byte of a body
abbrev pub count_in : List ℕ → ℕ
count_in body = byte_at body 2

-- ---- tags
-- 20 is for a tag that no call has
abbrev pub is_known : Option Kind → Bool
is_known (Some k) = true
is_known None = false

abbrev pub is_tag : ℕ → Bool
is_tag tag = is_known (kind_of tag)

abbrev pub opens : Option Kind → Bool
opens (Some k) = is_opening (row_of k).role
opens None = false

-- ---- refusals
-- 22: "a length that does not suit its tag (for Begin, below 3 or r above length − 3)", by the length and r
abbrev pub fits : Body → ℕ → ℕ → Bool
fits (bytes k) n r = eqb n k
fits lists n r = leb 3 n && leb r (n - 3)

abbrev pub suits : Option Kind → ℕ → ℕ → Bool
suits (Some k) n r = fits (row_of k).body n r
suits None n r = false

-- 21: "one or two bytes left, or a body past the end"; 20: "unknown tag". A record by itself: "21 for the head, 20, 21 for the
-- body, 22"
unfoldable pub body_rows : List ℕ → ℕ → Option Kind → List Row
body_rows file at kind =
    ltb (length file) (next_at file at) gives 21 ∷
    not (suits kind (length_at file at) (count_in (body_at file at))) gives 22 ∷
    []

unfoldable pub record_rows : List ℕ → ℕ → List Row
record_rows file at =
    ltb (length file) (at + 3) gives 21 ∷
    not (is_tag (tag_at file at)) gives 20 ∷
    body_rows file at (kind_of (tag_at file at))

-- 23: "the first record is not Open, or a later one is"
abbrev pub misplaced : Option Kind → Bool → Bool
misplaced kind first = if first then not (opens kind) else opens kind

unfoldable pub file_rows : List ℕ → ℕ → Bool → List Row
file_rows file at first = record_rows file at ++ misplaced (kind_of (tag_at file at)) first gives 23 ∷ []

-- 24: "a file above 65,536 bytes"; it "comes before any record"
abbrev pub too_long : List ℕ → Bool
too_long file = ltb 65_536 (length file)

-- ---- calls
-- The call of a body that suits its tag. "01 Open: 16 shares. 02 Grant: tenant, amount in four bytes ... 03 Begin: tenant,
-- awaited, r, then r reads; the rest are writes. 04 Finish, 05 Recheck, 08 Deliver: tenant, serial in two bytes. 06 Scan:
-- tenant. 07 Pick: empty." Document 02, item 7: "bodies as for Finish".
unfoldable pub call_of : Kind → List ℕ → Call
call_of Kind.Open body = Call.Open body
call_of Kind.Grant body = Call.Grant (byte_at body 0) (four_at body 1)
call_of Kind.Begin body =
    Call.Begin (byte_at body 0) (byte_at body 1) (take (count_in body) (drop 3 body)) (drop (3 + count_in body) body)
call_of Kind.Finish body = Call.Finish (byte_at body 0) (two_at body 1)
call_of Kind.Recheck body = Call.Recheck (byte_at body 0) (two_at body 1)
call_of Kind.Scan body = Call.Scan (byte_at body 0)
call_of Kind.Pick body = Call.Pick
call_of Kind.Deliver body = Call.Deliver (byte_at body 0) (two_at body 1)
call_of Kind.Evict body = Call.Evict (byte_at body 0) (two_at body 1)
call_of Kind.Cancel body = Call.Cancel (byte_at body 0) (two_at body 1)

-- the call of an event that stands at a position: its lists are parts of the file
abbrev pub call_at : List ℕ → ℕ → Event → Call
call_at file at e = call_of e.kind (body_at file at)

-- what stands at a position: the end, a refusal, or an event and where the next record begins
abbrev pub read_as : Option Kind → List ℕ → ℕ → Next
read_as (Some k) file at = Next.Call (event_of (call_of k (body_at file at))) (next_at file at)
read_as None file at = Next.Refused 20

unfoldable pub record_at : List ℕ → ℕ → Bool → Next
record_at file at first =
    let number = first_of (file_rows file at first) in
    if leb (length file) at then Next.End else
    if eqb number 0 then read_as (kind_of (tag_at file at)) file at else
    Next.Refused number

-- ---- parts of the file
-- a part: where it begins, and how many bytes it has
pub record Part : Type 0 where
  pub from : ℕ
  pub count : ℕ

abbrev pub part : ℕ → ℕ → Part
part from count = record { from = from; count = count }

abbrev pub within : List ℕ → Part → List ℕ
within file p = take p.count (drop p.from file)

-- the whole record that stands at a position, none where something is wrong with it
abbrev pub standing : List ℕ → ℕ → Option Kind
standing file at = if eqb (first_of (record_rows file at)) 0 then kind_of (tag_at file at) else None

abbrev pub is_lists : Body → Bool
is_lists (bytes n) = false
is_lists lists = true

abbrev pub has_lists : Option Kind → Bool
has_lists (Some k) = is_lists (row_of k).body
has_lists None = false

-- the shares of an Open, the reads and the writes of a Begin; an empty part, at the file's end, where no such record stands
unfoldable pub shares_part : List ℕ → ℕ → Part
shares_part file at = if opens (standing file at) then part (at + 3) (length_at file at) else part (length file) 0

unfoldable pub reads_part : List ℕ → ℕ → Part
reads_part file at = if has_lists (standing file at) then part (at + 6) (byte_at file (at + 5)) else part (length file) 0

unfoldable pub writes_part : List ℕ → ℕ → Part
writes_part file at =
    let r = byte_at file (at + 5) in
    if has_lists (standing file at) then part (at + 6 + r) (length_at file at - 3 - r) else part (length file) 0

-- ---- what is known of a record that stands whole
pub record Whole (file : List ℕ) (at : ℕ) (kind : Kind) : Type 0 where
  pub inside : next_at file at ≤ length file
  pub tag : kind_of (tag_at file at) ≡ Some kind
  pub suited : fits (row_of kind).body (length_at file at) (count_in (body_at file at)) ≡ true

-- how long a body is, as the code has it; None where it has lists
abbrev pub length_of : Body → Option ℕ
length_of (bytes n) = Some n
length_of lists = None
