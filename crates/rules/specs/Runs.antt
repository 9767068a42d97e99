-- Any call, its price, and sequences of calls from an opening.
use Rattle.std.specs.Prelude.{ℕ, Bool, ◌&&◌, not, List, [], ◌∷◌, ◌++◌, eqb, if◌then◌else◌}
use Rattle.rules.specs.declared.Kind.{Kind}
use Rattle.rules.specs.declared.Event.{Event}
use Rattle.rules.specs.Lists.{total, count_if}
use Rattle.rules.specs.Request.{reduced, size}
use Rattle.rules.specs.Table.{Table}
use Rattle.rules.specs.CallTable.{Role, row_of, is_opening, payer}
use Rattle.rules.specs.Prices.{Prices, admission, searching}
use Rattle.rules.specs.Refusals.{first_of, entry_of, begin_rows, finish_rows, recheck_rows, scan_rows, cancel_rows}
use Rattle.rules.specs.Calls.{Outcome, to_pay, asked, search, begin_of, finish_of, recheck_of, scan_of, open_of, grant_of, pick_of, deliver_of, evict_of, cancel_of}
use Rattle.rules.specs.Said.{said}

-- the calls with their arguments
pub data Call : Type 0 where
  Begin : ℕ → ℕ → List ℕ → List ℕ → Call
  Finish : ℕ → ℕ → Call
  Recheck : ℕ → ℕ → Call
  Scan : ℕ → Call
  Open : List ℕ → Call
  Grant : ℕ → ℕ → Call
  Pick : Call
  Deliver : ℕ → ℕ → Call
  Evict : ℕ → ℕ → Call
  Cancel : ℕ → ℕ → Call

-- what it makes of a table
abbrev pub step : Prices → Table → Call → Outcome
step p t (Begin who awaited reads writes) = begin_of p t who awaited reads writes
step p t (Finish who serial) = finish_of p t who serial
step p t (Recheck who serial) = recheck_of p t who serial
step p t (Scan who) = scan_of p t who
step p t (Open shares) = open_of shares
step p t (Grant who amount) = grant_of t who amount
step p t Pick = pick_of t
step p t (Deliver who serial) = deliver_of t who serial
step p t (Evict who serial) = evict_of t who serial
step p t (Cancel who serial) = cancel_of p t who serial

abbrev pub event : Kind → ℕ → ℕ → ℕ → ℕ → Event
event kind tenant awaited serial amount = record { kind = kind; tenant = tenant; awaited = awaited; serial = serial; amount = amount }

-- the call without its lists: which it is, the tenant that it names, and its numbers; 0 where it has none
abbrev pub event_of : Call → Event
event_of (Begin who awaited reads writes) = event Kind.Begin who awaited 0 0
event_of (Finish who serial) = event Kind.Finish who 0 serial 0
event_of (Recheck who serial) = event Kind.Recheck who 0 serial 0
event_of (Scan who) = event Kind.Scan who 0 0 0
event_of (Open shares) = event Kind.Open 0 0 0 0
event_of (Grant who amount) = event Kind.Grant who 0 0 amount
event_of Pick = event Kind.Pick 0 0 0 0
event_of (Deliver who serial) = event Kind.Deliver who 0 serial 0
event_of (Evict who serial) = event Kind.Evict who 0 serial 0
event_of (Cancel who serial) = event Kind.Cancel who 0 serial 0

-- its lists, which are all the records that it names
pub record Lists : Type 0 where
  pub reads : List ℕ
  pub writes : List ℕ

abbrev both : List ℕ → List ℕ → Lists
both reads writes = record { reads = reads; writes = writes }

abbrev pub lists_of : Call → Lists
lists_of (Begin who awaited reads writes) = both reads writes
lists_of (Finish who serial) = both [] []
lists_of (Recheck who serial) = both [] []
lists_of (Scan who) = both [] []
lists_of (Open shares) = both [] []
lists_of (Grant who amount) = both [] []
lists_of Pick = both [] []
lists_of (Deliver who serial) = both [] []
lists_of (Evict who serial) = both [] []
lists_of (Cancel who serial) = both [] []

abbrev pub records_of : Call → List ℕ
records_of c = (lists_of c).reads ++ (lists_of c).writes

-- its role in the table of calls, and who pays for it
abbrev pub role_of : Call → Role
role_of c = (row_of (event_of c).kind).role

abbrev pub is_open : Call → Bool
is_open c = is_opening (role_of c)

abbrev pub caller_of : Call → ℕ
caller_of c = payer (role_of c) (event_of c).tenant

-- The price of a call, from the rules and the entries looked at: of a refused one the table's charge, of a host call 0.
unfoldable pub price_of : Prices → Table → Call → ℕ
price_of p t (Begin who awaited reads writes) =
    let e = asked t who awaited reads writes in
    to_pay p t who (first_of (begin_rows p t e)) (admission p (reduced e))
price_of p t (Finish who serial) = to_pay p t who (first_of (finish_rows t who serial)) p.finish
price_of p t (Recheck who serial) =
    to_pay p t who (first_of (recheck_rows p t who serial)) (p.recheck (size (entry_of who serial t.queue)))
price_of p t (Scan who) = to_pay p t who (first_of (scan_rows t who)) (searching p (search p t who).looked)
price_of p t (Open shares) = 0
price_of p t (Grant who amount) = 0
price_of p t Pick = 0
price_of p t (Deliver who serial) = 0
price_of p t (Evict who serial) = 0
price_of p t (Cancel who serial) = to_pay p t who (first_of (cancel_rows t who serial)) p.cancel

-- the number that it was refused with, 0 where it was not
abbrev pub number : Outcome → ℕ
number o = (said o.answer).number

-- a call as it was made: the table that it met, the call, and what came of it
pub record Step : Type 0 where
  pub met : Table
  pub call : Call
  pub outcome : Outcome

-- a sequence of calls: the table now, and the steps since it began, the latest first
pub record Run : Type 0 where
  pub table : Table
  pub steps : List Step

-- it begins at any table, or at that of an opening
abbrev pub from : Table → Run
from t = record { table = t; steps = [] }

abbrev pub opened : List ℕ → Run
opened shares = from (open_of shares).table

-- "A later Open begins a new sequence of calls"
unfoldable pub after : Prices → Run → Call → Run
after p r c =
    let o = step p r.table c in
    record {
      table = o.table;
      steps = if is_open c then [] else (record { met = r.table; call = c; outcome = o } ∷ r.steps);
    }

unfoldable pub run_of : Prices → Run → List Call → Run
run_of p r [] = r
run_of p r (c ∷ cs) = run_of p (after p r c) cs

-- over the steps of a run: what the tenant's own calls burnt, and the sum of their prices
abbrev pub is_by : ℕ → Step → Bool
is_by who s = eqb (caller_of s.call) who

unfoldable pub burnt_by : ℕ → List Step → ℕ
burnt_by who = total (λ s. if is_by who s then s.outcome.burnt else 0)

unfoldable pub prices_by : Prices → ℕ → List Step → ℕ
prices_by p who = total (λ s. if is_by who s then price_of p s.met s.call else 0)

-- the fuel that the call grants to the tenant, if it is not refused: a Grant's amount, which no other call has
abbrev pub grant_of_call : ℕ → Call → ℕ
grant_of_call who c = if eqb (event_of c).tenant who then (event_of c).amount else 0

unfoldable pub granted_to : ℕ → List Step → ℕ
granted_to who = total (λ s. if eqb (number s.outcome) 0 then grant_of_call who s.call else 0)

-- the tenant's own calls that were not answered "dry", which is number 2
abbrev pub is_dry_answer : Outcome → Bool
is_dry_answer o = eqb (number o) 2

unfoldable pub not_dry : ℕ → List Step → ℕ
not_dry who = count_if (λ s. is_by who s && not (is_dry_answer s.outcome))
