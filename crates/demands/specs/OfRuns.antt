-- The demands, over any run of the real calls from an opening, "with neighbours calling as they like". `seen_run` is the run with
-- its states seen as tables: the calls, the answers and the units burnt in it are the code's own.
use Rattle.std.specs.Prelude.{ℕ, ◌+◌, ◌≤◌, ◌≡◌, true, false, not, List, [], ◌∷◌, take}
use Rattle.rules.specs.Lists.{every}
use Rattle.rules.specs.Request.{Request}
use Rattle.rules.specs.Table.{is_tenant, with_queue}
use Rattle.rules.specs.Prices.{clause9, searching}
use Rattle.rules.specs.Sound.{Each}
use Rattle.rules.specs.Runs.{Call, Scan, is_open, number}
use Rattle.promises.specs.Fuel.{PricesPaid, Balanced, Counted, fuel_of}
use Rattle.promises.specs.Names.{NamesDiffer, HasLeft, is_queued}
use Rattle.promises.specs.Order.{KeepsOrder, LeftForGood, RunsInTurn, TotalOrder, QueueInOrder, points}
use Rattle.promises.specs.Drains.{NoneHangs, draining, Drained}
use Rattle.promises.specs.TakingOut.{evictions, BehindOnly, TakesOut, WaitsAt, PromotesUpTo}
use Rattle.promises.specs.Sales.{Ask, begin, share_one, HeldUp, Meet}
use Rattle.manager.specs.declared.State.{State}
use Rattle.manager.specs.State.{view, Sound}
use Rattle.manager.specs.Runs.{CodeRun, code_opened, DidCall, Ran, RealRun, seen, seen_run}
use Rattle.demands.specs.OfCalls.{OfCall}

-- "serials ... never given twice": a name that was in the queue and has left does not come back before the next Open
abbrev pub NamesStayAway : CodeRun → Type 0
NamesStayAway last =
    (who serial : ℕ) (more : List Call) (rs : List State) (end : CodeRun) →
    HasLeft who serial (seen_run last) →
    every (λ c. not (is_open c)) more ≡ true →
    Ran last more rs end →
    is_queued who serial (view end.state) ≡ false

-- document 02, item 2: the queue can be emptied, by these calls one after another from the state as it is, whatever the tenants' fuel
abbrev pub CanDrain : State → Type 0
CanDrain s =
    let calls = draining (view s).queue in
    (rs : List State) (end : CodeRun) →
    Ran (code_opened s) calls rs end →
    Drained (view s) calls (seen_run end)

-- document 02, item 4: of two requests that are admitted one after the other, the first still in the queue, and that share a record
-- which one of them sells, the second is Blocked, and is told of that record or of a lower one
abbrev pub SecondSale : CodeRun → Type 0
SecondSale last =
    (a b : Ask) (between : List Call) (r : ℕ) (rs : List State) (end : CodeRun) (gave : State) →
    Ran last (begin a ∷ between) rs end →
    DidCall end.state (begin b) gave →
    Meet clause9 (seen_run last) a b between →
    share_one r a b ≡ true →
    HeldUp b (view end.state) r gave.said.answer

-- document 02, item 7: the host alone can empty the queue, by an eviction of each entry from the state as it is
abbrev pub CanEvict : State → Type 0
CanEvict s =
    (rs : List State) (end : CodeRun) →
    Ran (code_opened s) (evictions (view s).queue) rs end →
    view end.state ≡ with_queue (view s) []

-- and whoever conflicted with nothing but the one taken out is promoted by its next Scan with fuel to finish, whatever calls are
-- made before that Scan
abbrev pub Freed : State → Type 0
Freed s =
    (e f : Request) (c : Call) (out : State) (more : List Call) (rs : List State) (end : CodeRun) (k : ℕ) (gave : State) →
    let v = view end.state in
    BehindOnly e f (view s) →
    TakesOut e c →
    DidCall s c out →
    number (seen out) ≡ 0 →
    every (λ c. not (is_open c)) more ≡ true →
    Ran (code_opened out) more rs end →
    WaitsAt f k v →
    searching clause9 (take (k + 1) v.queue) ≤ fuel_of v f.tenant →
    DidCall end.state (Scan f.tenant) gave →
    PromotesUpTo clause9 f.tenant k v (seen gave)

pub record OfRun (last : CodeRun) : Type 0 where
  -- every call since the opening, and the state now
  pub calls : Each OfCall last.steps
  pub sound : Sound last.state
  -- demand 3: "a tenant's burnt fuel is the sum of the prices of its own calls, refused ones at the table's charge"
  pub burnt : (who : ℕ) → PricesPaid clause9 who (seen_run last)
  -- "and equals fuel granted less fuel left"
  pub balance : (who : ℕ) → is_tenant who ≡ true → Balanced who (seen_run last)
  -- "A tenant's calls not answered dry never number more than the fuel granted to it"
  pub not-dry : (who : ℕ) → is_tenant who ≡ true → Counted who (seen_run last)
  -- no name is given twice
  pub names : NamesDiffer (seen_run last).steps
  pub names-stay-away : NamesStayAway last
  -- document 02, item 2: no request hangs, and all can leave
  pub none-hangs : NoneHangs (view last.state)
  pub drains : CanDrain last.state
  -- document 02, item 4: who reads a record and writes it back has it alone
  pub second-sale : SecondSale last
  -- document 02, item 6: "of two admitted requests that conflict, the one admitted later does not become Free or Waiting before the
  -- earlier one has left the queue", and what has left has left for good
  pub order : KeepsOrder (seen_run last)
  pub left-for-good : LeftForGood (seen_run last)
  -- so conflicting requests run in the order of their admission, which is total, and is the order of the queue
  pub runs-in-turn : RunsInTurn (seen_run last)
  pub admission-total : TotalOrder (seen_run last).steps
  pub queue-in-order : Each QueueInOrder (points (seen_run last))
  -- document 02, item 7: a stuck request can be taken out, and then those run that waited for it alone
  pub can-evict : CanEvict last.state
  pub freed : Freed last.state

abbrev pub EveryRun : Type 0
EveryRun =
    (shares : List ℕ) (first : State) (cs : List Call) (rs : List State) (last : CodeRun) →
    RealRun shares first cs rs last →
    OfRun last
