-- "serials given so far (at most 65,535, never given twice)": whom a run admitted, and under which names.
use Rattle.std.specs.Prelude.{ℕ, ◌≡◌, Bool, true, false, ◌&&◌, not, List, [], ◌∷◌, ◌++◌, eqb, if◌then◌else◌}
use Rattle.rules.specs.declared.Answer.{Answer}
use Rattle.rules.specs.Lists.{some, every}
use Rattle.rules.specs.Records.{only_read}
use Rattle.rules.specs.Request.{Request, is_named}
use Rattle.rules.specs.Table.{Table}
use Rattle.rules.specs.CallTable.{is_request}
use Rattle.rules.specs.Prices.{Prices}
use Rattle.rules.specs.Said.{said}
use Rattle.rules.specs.Sound.{InOrder}
use Rattle.rules.specs.Runs.{Call, Begin, Step, Run, Lists, lists_of, role_of, is_open, run_of}
use Rattle.promises.specs.Fuel.{reached}

-- ---- whom a run admitted
-- a request as it was admitted: what its entry keeps as long as it is queued, its name and its reduced lists
pub record Claim : Type 0 where
  pub tenant : ℕ
  pub serial : ℕ
  pub reads : List ℕ
  pub writes : List ℕ

abbrev pub claim_of : Request → Claim
claim_of e = record { tenant = e.tenant; serial = e.serial; reads = e.reads; writes = e.writes }

-- a Begin that answers with a name, a tenant and a serial, has admitted its request under that name; a refusal has one value
abbrev pub answered : Lists → List ℕ → List Claim
answered l [] = []
answered l (number ∷ []) = []
answered l (tenant ∷ serial ∷ more) = record {
  tenant = tenant;
  serial = serial;
  reads = only_read l.reads l.writes;
  writes = l.writes;
} ∷ []

abbrev pub admitted_by : Call → Answer → List Claim
admitted_by c answer = if is_request (role_of c) then answered (lists_of c) (said answer).values else []

-- all that the steps admitted, the earliest first (a run's steps stand the latest first)
unfoldable pub admissions : List Step → List Claim
admissions [] = []
admissions (s ∷ earlier) = admissions earlier ++ admitted_by s.call s.outcome.answer

-- ---- "never given twice": of each two requests that a run admitted, the names differ
abbrev pub same_name : Claim → Claim → Bool
same_name a b = eqb a.tenant b.tenant && eqb a.serial b.serial

abbrev pub NamesDiffer : List Step → Type 0
NamesDiffer steps = InOrder (λ a b. same_name a b ≡ false) (admissions steps)

abbrev pub OwnNames : Prices → Type 0
OwnNames p =
    (shares : List ℕ) (calls : List Call) →
    NamesDiffer (reached p shares calls).steps

-- the step is a Begin that answered with this name: its reads are as given, those of the claim are reduced
pub record AdmittedAt (s : Step) (c : Claim) : Type 0 where
  pub awaited : ℕ
  pub reads : List ℕ
  pub reduced : c.reads ≡ only_read reads c.writes
  pub call : s.call ≡ Begin c.tenant awaited reads c.writes
  pub answer : (said s.outcome.answer).values ≡ c.tenant ∷ c.serial ∷ []

-- "admitted": some step of the run is such a Begin (the latest stands first)
pub record AdmittedIn (c : Claim) (steps : List Step) : Type 0 where
  pub step : Step
  pub later : List Step
  pub earlier : List Step
  pub is : steps ≡ later ++ step ∷ earlier
  pub at : AdmittedAt step c

-- two were admitted, a before b: a by a step that was made earlier than b's
pub record InTurn (a b : Claim) (steps : List Step) : Type 0 where
  pub second : AdmittedIn b steps
  pub first : AdmittedIn a second.earlier

-- the same told of two Begins of a run
abbrev pub TwoNames : Prices → Type 0
TwoNames p =
    (shares : List ℕ) (calls : List Call) (a b : Claim) →
    InTurn a b (reached p shares calls).steps →
    same_name a b ≡ false

-- ---- and a name that was in the queue and has left does not come back, by any further calls up to the next Open
abbrev pub is_queued : ℕ → ℕ → Table → Bool
is_queued who serial t = some (is_named who serial) t.queue

pub record HasLeft (who serial : ℕ) (r : Run) : Type 0 where
  pub was : some (λ s. is_queued who serial s.met) r.steps ≡ true
  pub gone : is_queued who serial r.table ≡ false

abbrev pub NeverBack : Prices → Type 0
NeverBack p =
    (shares : List ℕ) (calls more : List Call) (who serial : ℕ) →
    HasLeft who serial (reached p shares calls) →
    every (λ c. not (is_open c)) more ≡ true →
    is_queued who serial (run_of p (reached p shares calls) more).table ≡ false
