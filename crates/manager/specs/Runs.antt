-- A run of the code: real calls one after the other, each on the state that the one before gave back, and each with a result
-- that its contract allows. A state is a value, so a caller may also go on from an old one: each such branch is a run of its own.
use Rattle.std.specs.Prelude.{ℕ, ◌≡◌, List, [], ◌∷◌, map, if◌then◌else◌}
use Rattle.rules.specs.Table.{Table}
use Rattle.rules.specs.Prices.{Prices, clause9, prices_of}
use Rattle.rules.specs.Calls.{Outcome, open_of}
use Rattle.rules.specs.Sound.{Each}
use Rattle.rules.specs.Runs.{Call, Step, Run, step, is_open, opened, run_of}
use Rattle.manager.specs.declared.State.{State}
use Rattle.manager.specs.State.{view, Sound, Did}

-- the contract of a call, whichever of the functions it is
abbrev pub DidCall : State → Call → State → Type 0
DidCall s c r = Did r (step (prices_of (view s)) (view s) c)

-- a call as the code made it: the state that it was given, the call, and the state that it gave back
pub record CodeStep : Type 0 where
  pub met : State
  pub call : Call
  pub gave : State

-- the state now, and the steps since the last opening, the latest first: as the law book's Run
pub record CodeRun : Type 0 where
  pub state : State
  pub steps : List CodeStep

abbrev pub code_opened : State → CodeRun
code_opened r = record { state = r; steps = [] }

abbrev pub code_after : CodeRun → Call → State → CodeRun
code_after run c r = record {
  state = r;
  steps = if is_open c then [] else (record { met = run.state; call = c; gave = r } ∷ run.steps);
}

-- from one run to another by these calls, which gave these states: of each, the contract holds
pub data Ran : CodeRun → List Call → List State → CodeRun → Type 0 where
  uncalled : {run : CodeRun} → Ran run [] [] run
  called :
      {run last : CodeRun} {cs : List Call} {rs : List State} (c : Call) (r : State) →
      DidCall run.state c r →
      Ran (code_after run c r) cs rs last →
      Ran run (c ∷ cs) (r ∷ rs) last

-- an opening, and then such calls
pub record RealRun (shares : List ℕ) (first : State) (cs : List Call) (rs : List State) (last : CodeRun) : Type 0 where
  pub opening : Did first (open_of shares)
  pub calls : Ran (code_opened first) cs rs last

-- ---- how the law book sees the same: through the view
abbrev pub seen : State → Outcome
seen r = record { table = view r; answer = r.said.answer; burnt = r.said.burnt }

abbrev pub seen_step : CodeStep → Step
seen_step s = record { met = view s.met; call = s.call; outcome = seen s.gave }

abbrev pub seen_run : CodeRun → Run
seen_run run = record { table = view run.state; steps = map seen_step run.steps }

-- what the law book's calls give one after the other, openings included
unfoldable pub outcomes_of : Prices → Table → List Call → List Outcome
outcomes_of p t [] = []
outcomes_of p t (c ∷ cs) = step p t c ∷ outcomes_of p (step p t c).table cs

pub record Faithful (shares : List ℕ) (first : State) (cs : List Call) (rs : List State) (last : CodeRun) : Type 0 where
  -- the opening itself
  pub opening : seen first ≡ open_of shares
  -- the law book's run, of which the promises speak
  pub run : run_of clause9 (opened shares) cs ≡ seen_run last
  -- each call's table, answer and units burnt, in order
  pub outcomes : map seen rs ≡ outcomes_of clause9 (open_of shares).table cs
  -- every state on the way
  pub first-sound : Sound first
  pub states-sound : Each (λ r. Sound r) rs
  pub last-sound : Sound last.state

-- what the promises say of the law book's runs, they say of the code's
abbrev pub RunsFaithfully : Type 0
RunsFaithfully =
    (shares : List ℕ) (first : State) (cs : List Call) (rs : List State) (last : CodeRun) →
    RealRun shares first cs rs last →
    Faithful shares first cs rs last
