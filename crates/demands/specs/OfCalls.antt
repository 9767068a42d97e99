-- The demands, of one real call: a sound state was given to it, and it gave back one that its contract allows. Each field is a
-- sentence of the three demands, said of the code's own states; `seen` is the law book's outcome that a state shows: its table, its
-- answer and the units burnt.
use Rattle.std.specs.Prelude.{ℕ, ◌+◌, ◌≤◌, ◌<◌, ◌≡◌, true, false, List, [], ◌∷◌, ◌++◌, eqb, ltb, take}
use Rattle.rules.specs.declared.Mode.{Mode}
use Rattle.rules.specs.declared.Answer.TheVariants.{Nothing, Refused, Named}
use Rattle.rules.specs.Lists.{total}
use Rattle.rules.specs.Request.{Request, is_blocked}
use Rattle.rules.specs.Table.{Table, is_tenant, meter_of, places_of}
use Rattle.rules.specs.CallTable.{is_request}
use Rattle.rules.specs.Prices.{clause9, prices_of, searching}
use Rattle.rules.specs.Counters.{cx, cs}
use Rattle.rules.specs.Calls.{Outcome as LawOutcome, asked, search}
use Rattle.rules.specs.Said.{said}
use Rattle.rules.specs.Runs.{step, role_of, caller_of, is_open, number}
use Rattle.rules.specs.Runs.Call.{Begin, Finish, Scan, Open, Pick, Evict, Cancel}
use Rattle.promises.specs.Fuel.{fuel_of, records_in, table_charge, Costs9, Pays, Gains}
use Rattle.promises.specs.Refused.{RefusedOpen}
use Rattle.promises.specs.Searches.{FirstReady, Promoting, LookedAtAll, CutShort}
use Rattle.promises.specs.Places.{MayJoin, Joins, MayLeave, Leaves, BlockedFront, FrontRuns}
use Rattle.promises.specs.Reports.{ReportOf}
use Rattle.promises.specs.TakingOut.{Takes, evicts_from, LowersNeither, TakenOut}
use Rattle.maps.specs.Maps.{in_map}
use Rattle.counters.specs.Counters.{at}
use Rattle.manager.specs.declared.State.{State}
use Rattle.manager.specs.State.{view, Sound}
use Rattle.manager.specs.Runs.{CodeStep, DidCall, seen}

pub record Made (s : CodeStep) : Type 0 where
  pub sound : Sound s.met
  pub did : DidCall s.met s.call s.gave

-- the table that the call met, and what the law book sees of the state that it gave back
abbrev pub table_of : CodeStep → Table
table_of s = view s.met

abbrev pub outcome_of : CodeStep → LawOutcome
outcome_of s = seen s.gave

-- ---- demand 1: "A refusal carries its number from the table, changes no counter, entry or place, and burns exactly the fuel
-- stated there"
pub record Untouched (a b : State) : Type 0 where
  pub exclusive : (r : ℕ) → r < 256 → at b.cx r ≡ at a.cx r
  pub shared : (r : ℕ) → r < 256 → at b.cs r ≡ at a.cs r
  pub entries : (view b).queue ≡ (view a).queue
  pub places : (who : ℕ) → places_of (view b).queue who ≡ places_of (view a).queue who
  pub serials : (who : ℕ) → (meter_of (view b) who).serials ≡ (meter_of (view a) who).serials
  pub shares : (who : ℕ) → (meter_of (view b) who).share ≡ (meter_of (view a) who).share

-- 1 for a charged number, and what a search cut short had burnt
abbrev pub stated : CodeStep → ℕ
stated s =
    let t = table_of s in
    let walked = searching clause9 (search clause9 t (caller_of s.call)).looked in
    table_charge 1 walked (role_of s.call) (number (outcome_of s))

pub record RefusedCall (s : CodeStep) : Type 0 where
  pub state : Untouched s.met s.gave
  pub burnt : s.gave.said.burnt ≡ stated s

abbrev pub Refusals : CodeStep → Type 0
Refusals s =
    is_open s.call ≡ false →
    eqb (number (outcome_of s)) 0 ≡ false →
    RefusedCall s

abbrev pub RefusedOpens : CodeStep → Type 0
RefusedOpens s =
    (shares : List ℕ) →
    s.call ≡ Open shares →
    eqb (number (outcome_of s)) 0 ≡ false →
    RefusedOpen (outcome_of s)

-- ---- demand 2: "After every call the answer, queue, states and counters are those that the VLL rules give"
pub record ByTheRules (s : CodeStep) : Type 0 where
  pub outcome : outcome_of s ≡ step (prices_of (table_of s)) (table_of s) s.call
  pub exclusive : (r : ℕ) → r < 256 → at s.gave.cx r ≡ cx (view s.gave).queue r
  pub shared : (r : ℕ) → r < 256 → at s.gave.cs r ≡ cs (view s.gave).queue r
  -- document 02, item 5: "two maps of 256 bits, of records with Cx above 0 and with Cs above 0, right after every call"
  pub written : (r : ℕ) → r < 256 → in_map s.gave.maps.written r ≡ ltb 0 (cx (view s.gave).queue r)
  pub read : (r : ℕ) → r < 256 → in_map s.gave.maps.read r ≡ ltb 0 (cs (view s.gave).queue r)

-- item 5: an admitted Begin is Blocked exactly if a record holds it up, and reports the lowest; no other call reports one
abbrev pub Reporting : CodeStep → Type 0
Reporting s =
    (who awaited : ℕ) (reads writes : List ℕ) →
    let t = table_of s in
    s.call ≡ Begin who awaited reads writes →
    number (outcome_of s) ≡ 0 →
    ReportOf t.queue (asked t who awaited reads writes) s.gave.said.answer

abbrev pub ReportsNone : CodeStep → Type 0
ReportsNone s = is_request (role_of s.call) ≡ false → (said s.gave.said.answer).clash ≡ []

-- "A search with fuel to finish promotes the caller's first blocked request that conflicts with nothing ahead of it"
abbrev pub SearchPromotes : CodeStep → Type 0
SearchPromotes s =
    (who at : ℕ) →
    let t = table_of s in
    s.call ≡ Scan who →
    is_tenant who ≡ true →
    FirstReady who t.queue at →
    searching clause9 (take (at + 1) t.queue) ≤ fuel_of t who →
    Promoting clause9 who t at (outcome_of s)

-- whatever the fuel, it promotes no other
abbrev pub SearchNames : CodeStep → Type 0
SearchNames s =
    (who : ℕ) (mode : Mode) (tenant serial : ℕ) →
    s.call ≡ Scan who →
    s.gave.said.answer ≡ Named mode tenant serial →
    (at : ℕ) × Promoting clause9 who (table_of s) at (outcome_of s)

-- "and reports none only if there is none"; it is cut short only where the fuel does not pay
abbrev pub SearchReportsNone : CodeStep → Type 0
SearchReportsNone s =
    (who : ℕ) →
    s.call ≡ Scan who →
    s.gave.said.answer ≡ Nothing →
    LookedAtAll clause9 who (table_of s) (outcome_of s)

abbrev pub SearchCut : CodeStep → Type 0
SearchCut s =
    (who : ℕ) →
    s.call ≡ Scan who →
    s.gave.said.answer ≡ Refused 9 →
    (at : ℕ) × CutShort clause9 who (table_of s) at (outcome_of s)

-- ---- demand 3: the price of a call, which its caller's fuel pays and no other's
abbrev pub OwnFuel : CodeStep → Type 0
OwnFuel s =
    (who : ℕ) →
    is_tenant who ≡ true →
    eqb (caller_of s.call) who ≡ true →
    Pays (table_of s) who (outcome_of s)

abbrev pub OtherFuel : CodeStep → Type 0
OtherFuel s =
    (who : ℕ) →
    is_tenant who ≡ true →
    is_open s.call ≡ false →
    eqb (caller_of s.call) who ≡ false →
    Gains (table_of s) who s.call (outcome_of s)

-- "A search costs 1 plus, for each entry looked at, 1 plus its records: at most 1,089"
abbrev pub SearchCosts : CodeStep → Type 0
SearchCosts s =
    (who : ℕ) →
    let t = table_of s in
    s.call ≡ Scan who →
    is_tenant who ≡ true →
    0 < fuel_of t who →
    s.gave.said.burnt ≡ 1 + total (λ e. 1 + records_in e) (search clause9 t who).looked

abbrev pub SearchAtMost : CodeStep → Type 0
SearchAtMost s =
    (who : ℕ) →
    s.call ≡ Scan who →
    s.gave.said.burnt ≤ 1089

-- "A well-formed request from a tenant below its share, with serials left and fuel for the price, is admitted"
abbrev pub Admission : CodeStep → Type 0
Admission s =
    (who awaited : ℕ) (reads writes : List ℕ) →
    let t = table_of s in
    let e = asked t who awaited reads writes in
    s.call ≡ Begin who awaited reads writes →
    MayJoin clause9 t e →
    Joins clause9 t e (outcome_of s)

-- "a tenant with an empty tank can always let go"
abbrev pub LettingGo : CodeStep → Type 0
LettingGo s =
    (who serial : ℕ) →
    let t = table_of s in
    s.call ≡ Finish who serial →
    MayLeave t who serial →
    Leaves t who serial (outcome_of s)

-- "the front may always run"
abbrev pub FrontPicked : CodeStep → Type 0
FrontPicked s =
    (e : Request) (q : List Request) →
    s.call ≡ Pick →
    BlockedFront (table_of s) e q →
    FrontRuns e q (outcome_of s)

-- document 02, item 7: "In demand 3 an eviction may lower a tenant's places, not its fuel"; no other call of a neighbour or of the
-- host lowers either
abbrev pub EvictionTakes : CodeStep → Type 0
EvictionTakes s =
    (whose serial who : ℕ) →
    s.call ≡ Evict whose serial →
    Takes (table_of s) whose who (outcome_of s)

abbrev pub OthersLowerNeither : CodeStep → Type 0
OthersLowerNeither s =
    (who : ℕ) →
    is_tenant who ≡ true →
    is_open s.call ≡ false →
    eqb (caller_of s.call) who ≡ false →
    evicts_from who s.call ≡ false →
    LowersNeither (table_of s) who (outcome_of s)

-- "Both release counters and place, refund no fuel and answer done": of an entry in any state, and of the caller's own Blocked one
abbrev pub Evicted : CodeStep → Type 0
Evicted s =
    (ahead : List Request) (e : Request) (behind : List Request) →
    s.call ≡ Evict e.tenant e.serial →
    (table_of s).queue ≡ ahead ++ e ∷ behind →
    TakenOut (table_of s) ahead e behind 0 (outcome_of s)

abbrev pub Cancelled : CodeStep → Type 0
Cancelled s =
    (ahead : List Request) (e : Request) (behind : List Request) →
    s.call ≡ Cancel e.tenant e.serial →
    (table_of s).queue ≡ ahead ++ e ∷ behind →
    0 < fuel_of (table_of s) e.tenant →
    is_blocked e.mode ≡ true →
    TakenOut (table_of s) ahead e behind 1 (outcome_of s)

abbrev pub CancelledNoOther : CodeStep → Type 0
CancelledNoOther s =
    (ahead : List Request) (e : Request) (behind : List Request) →
    s.call ≡ Cancel e.tenant e.serial →
    (table_of s).queue ≡ ahead ++ e ∷ behind →
    0 < fuel_of (table_of s) e.tenant →
    is_blocked e.mode ≡ false →
    number (outcome_of s) ≡ 11

pub record OfCall (s : CodeStep) : Type 0 where
  -- demand 1
  pub refusals : Refusals s
  pub refused-opens : RefusedOpens s
  -- document 02, item 4: "5 is no longer given"
  pub never-five : eqb (number (outcome_of s)) 5 ≡ false
  -- demand 2
  pub rules : ByTheRules s
  pub reports : Reporting s
  pub reports-none : ReportsNone s
  pub search-promotes : SearchPromotes s
  pub search-names : SearchNames s
  pub search-reports-none : SearchReportsNone s
  pub search-cut : SearchCut s
  -- demand 3
  pub price : Costs9 (table_of s) s.call (outcome_of s)
  pub own-fuel : OwnFuel s
  pub other-fuel : OtherFuel s
  pub search-costs : SearchCosts s
  pub search-at-most : SearchAtMost s
  pub admission : Admission s
  pub letting-go : LettingGo s
  pub front-picked : FrontPicked s
  -- item 7
  pub eviction-takes : EvictionTakes s
  pub others-lower-neither : OthersLowerNeither s
  pub evicted : Evicted s
  pub cancelled : Cancelled s
  pub cancelled-no-other : CancelledNoOther s

-- every real call is so
abbrev pub EveryCall : Type 0
EveryCall = (s : CodeStep) → Made s → OfCall s
