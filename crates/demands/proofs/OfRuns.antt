-- What the promises say of the law book's runs, they say of the real ones, which are those seen through the view.
use Prim.Native.Nat.{ℕ, ◌+◌, ◌≤◌}
use mathlib.Core.Path.{◌≡◌, sym, ap, subst, ◌∙◌}
use mathlib.Core.Bool.{false}
use mathlib.Core.List.{List}
use lib.ListN.{take}
use Rattle.rules.specs.Prices.{clause9, searching}
use Rattle.rules.specs.Table.{Table}
use Rattle.rules.specs.Calls.{Outcome, scan_of}
use Rattle.rules.specs.Sound.{Each}
use Rattle.rules.specs.Runs.{Call, Run, step, is_open, number, from, run_of}
use Rattle.rules.proofs.Tests.{if-either}
use Rattle.rules.proofs.Order.{each_map}
use Rattle.rules.proofs.Sound.{sound-any}
use Rattle.promises.specs.Fuel.{PricesPaid, Balanced, Counted, fuel_of}
use Rattle.promises.specs.Names.{NamesDiffer, HasLeft, is_queued}
use Rattle.promises.specs.Order.{KeepsOrder, LeftForGood, RunsInTurn, TotalOrder, QueueInOrder, points}
use Rattle.promises.specs.Drains.{NoneHangs, draining, Drained}
use Rattle.promises.specs.TakingOut.{WaitsAt, PromotesUpTo}
use Rattle.promises.specs.Sales.{Ask, begin, HeldUp, meeting, Meet}
use Rattle.promises.specs.Promises.{Promises}
use Rattle.promises.proofs.Promises.{at-clause9}
use Rattle.manager.specs.declared.State.{State}
use Rattle.manager.specs.State.{view, Sound}
use Rattle.manager.specs.Runs.{CodeRun, Ran, uncalled, called, seen_run}
use Rattle.manager.proofs.Runs.{did-seen, ran-run, code-runs-faithfully}
use Rattle.demands.specs.OfCalls.{Made}
use Rattle.demands.specs.OfRuns.{Freed, EveryRun}
use Rattle.demands.proofs.OfCalls.{every_call}

-- each step of a run is a real call on a sound state
ran-made : {run last : CodeRun} {cs : List Call} {rs : List State} → Ran run cs rs last → Sound run.state → Each Made run.steps → Each Made last.steps
ran-made uncalled h all = all
ran-made {run} (called c r d more) h all =
    ran-made more d.sound (if-either (Each Made) (is_open c) Each.none (Each.also (record { sound = h; did = d }) all))

-- the law book's Begin at this table is held up
abbrev Waits : Ask → ℕ → Table → Type 0
Waits b r t = HeldUp b t r (step clause9 t (begin b)).answer

-- the law book's promise, at the tables that the code's states show
freed-by : Promises clause9 → (s : State) → Sound s → Freed s
freed-by promised s h e f c out more outcomes end k gave behind takes did done shut ran waits enough scans =
    let t = view s in
    let v = view end.state in
    let is : (run_of clause9 (from (step clause9 t c).table) more).table ≡ v = ap (λ (u : Table). (run_of clause9 (from u) more).table) (sym did.table) ∙ ap (λ (r : Run). r.table) (ran-run ran) in
    let passed : number (step clause9 t c) ≡ 0 = ap number (sym (did-seen did)) ∙ done in
    let law = promised.next-scan t e f c more k (sound-any h.table) behind takes passed shut in
    subst (PromotesUpTo clause9 f.tenant k v) (sym (did-seen scans))
    (subst (λ (u : Table). WaitsAt f k u → searching clause9 (take (k + 1) u.queue) ≤ fuel_of u f.tenant → PromotesUpTo clause9 f.tenant k u (scan_of clause9 u f.tenant)) is law waits enough)

pub every-run : EveryRun
every-run shares first cs rs last real =
    let faithful = code-runs-faithfully shares first cs rs last real in
    let promised : Promises clause9 = at-clause9.all in
    let of : (P : Run → Type 0) → P (run_of clause9 _ cs) → P (seen_run last) = λ P h. subst P faithful.run h in
    record {
      calls = each_map every_call (ran-made real.calls faithful.first-sound Each.none);
      sound = faithful.last-sound;
      burnt = λ who. of (PricesPaid clause9 who) (promised.burns-prices shares cs who);
      balance = λ who tenant. of (Balanced who) (promised.balance shares cs who tenant);
      not-dry = λ who tenant. of (Counted who) (promised.not-dry shares cs who tenant);
      names = of (λ r. NamesDiffer r.steps) (promised.own-names shares cs);
      names-stay-away = λ who serial more outcomes end left shut ran.
          let law = of (λ r. HasLeft who serial r → is_queued who serial (run_of clause9 r more).table ≡ false) (λ h. promised.never_back shares cs more who serial h shut) in
          ap (λ (r : Run). is_queued who serial r.table) (sym (ran-run ran)) ∙ law left;
      none-hangs = of (λ r. NoneHangs r.table) (promised.never-hangs shares cs);
      drains = λ outcomes end ran.
          let t = view last.state in
          subst (Drained t (draining t.queue)) (ran-run ran) (promised.drains t (sound-any faithful.last-sound.table));
      second-sale = λ a b between r outcomes end gave ran did met share.
          let law = of (λ run. Meet clause9 run a b between → Waits b r (meeting clause9 run a between)) (λ m. promised.second-waits shares cs between a b r m share) in
          let waits = subst (λ run. Waits b r run.table) (ran-run ran) (law met) in
          (waits.0, ap (λ (o : Outcome). o.answer) (did-seen did) ∙ waits.1, waits.2);
      order = of KeepsOrder (promised.order shares cs);
      left-for-good = of LeftForGood (promised.stays-away shares cs);
      runs-in-turn = of RunsInTurn (promised.run-in-order shares cs);
      admission-total = of (λ r. TotalOrder r.steps) (promised.admission-total shares cs);
      queue-in-order = of (λ r. Each QueueInOrder (points r)) (promised.queue-order shares cs);
      can-evict = λ outcomes end ran.
          let t = view last.state in
          ap (λ (r : Run). r.table) (sym (ran-run ran)) ∙ promised.host-empties t (sound-any faithful.last-sound.table);
      freed = freed-by promised last.state faithful.last-sound;
    }
