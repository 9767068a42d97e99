-- From the law book to the code: a run of the real calls has the answers, burnt counts and views of the law book's run.
use Rattle.std.specs.Prelude.{if◌then◌else◌}
use mathlib.Core.Path.{◌≡◌, refl, sym, ap, ◌∙◌}
use mathlib.Core.Bool.{Bool, true, false}
use mathlib.Core.List.{List, [], ◌∷◌, map}
use Rattle.rules.specs.Table.{Table}
use Rattle.rules.specs.Prices.{clause9}
use Rattle.rules.specs.Sound.{Each, none, also}
use Rattle.rules.specs.Calls.{Outcome}
use Rattle.rules.specs.Runs.{Call, Step, Run, step, is_open, after, run_of}
use Rattle.manager.specs.declared.State.{State}
use Rattle.manager.specs.State.{view, Sound, Did}
use Rattle.manager.specs.Runs.{DidCall, CodeStep, CodeRun, code_after, Ran, uncalled, called, seen, seen_step, seen_run, outcomes_of, RunsFaithfully}

-- what a call gave back, seen through the view, is what the law book's gives
pub did-seen : {r : State} {o : Outcome} → Did r o → seen r ≡ o
did-seen d = λ i. record { table = d.table i; answer = d.answer i; burnt = d.burnt i }

-- ---- one call more
steps-after : (b : Bool) (s : CodeStep) (l : List CodeStep) → map seen_step (if b then [] else (s ∷ l)) ≡ (if b then [] else (seen_step s ∷ map seen_step l))
steps-after true s l = refl
steps-after false s l = refl

after-seen : (run : CodeRun) (c : Call) (r : State) → DidCall run.state c r → after clause9 (seen_run run) c ≡ seen_run (code_after run c r)
unfolding after
after-seen run c r d =
    let t = view run.state in
    ap (λ (o : Outcome). record { table = o.table; steps = if is_open c then [] else (record { met = t; call = c; outcome = o } ∷ map seen_step run.steps) }) (sym (did-seen d))
    ∙ ap (λ (l : List Step). record { table = view r; steps = l }) (sym (steps-after (is_open c) (record { met = run.state; call = c; gave = r }) run.steps))

-- ---- a run
-- the law book's run of the same calls is the code's, seen through the view: the table, and each step's table, call, answer
-- and units burnt
pub ran-run : {run last : CodeRun} {cs : List Call} {rs : List State} → Ran run cs rs last → run_of clause9 (seen_run run) cs ≡ seen_run last
unfolding run_of
ran-run uncalled = refl
ran-run {run} {last} (called {cs = cs} c r d more) = ap (λ (u : Run). run_of clause9 u cs) (after-seen run c r d) ∙ ran-run more

-- every call's outcome, those before a later opening too
pub ran-outcomes : {run last : CodeRun} {cs : List Call} {rs : List State} → Ran run cs rs last → map seen rs ≡ outcomes_of clause9 (view run.state) cs
unfolding outcomes_of
ran-outcomes uncalled = refl
ran-outcomes {run} (called {cs = cs} {rs = rs} c r d more) =
    let o = step clause9 (view run.state) c in
    let rest : map seen rs ≡ outcomes_of clause9 o.table cs = ran-outcomes more ∙ ap (λ (t : Table). outcomes_of clause9 t cs) d.table in
    ap (λ (a : Outcome). a ∷ map seen rs) (did-seen d) ∙ ap (λ (l : List Outcome). o ∷ l) rest

-- every state on the way is sound, and so is the last
pub ran-states : {run last : CodeRun} {cs : List Call} {rs : List State} → Ran run cs rs last → Each (λ r. Sound r) rs
ran-states uncalled = none
ran-states (called c r d more) = also d.sound (ran-states more)

pub ran-last : {run last : CodeRun} {cs : List Call} {rs : List State} → Ran run cs rs last → Sound run.state → Sound last.state
ran-last uncalled h = h
ran-last (called c r d more) h = ran-last more d.sound

-- ---- from an opening
pub code-runs-faithfully : RunsFaithfully
code-runs-faithfully shares first cs rs last real =
    let d = real.opening in
    record {
      opening = did-seen d;
      run = ap (λ (t : Table). run_of clause9 (record { table = t; steps = [] }) cs) (sym d.table) ∙ ran-run real.calls;
      outcomes = ran-outcomes real.calls ∙ ap (λ (t : Table). outcomes_of clause9 t cs) d.table;
      first-sound = d.sound;
      states-sound = ran-states real.calls;
      last-sound = ran-last real.calls d.sound;
    }
