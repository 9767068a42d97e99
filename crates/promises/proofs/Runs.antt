-- Promise 9, and how a promise over any run is proved: it holds at an opening, and each call keeps it.
use Prim.Native.Nat.{ℕ}
use mathlib.Core.Path.{◌≡◌}
use mathlib.Core.Bool.{true, false, false≢true}
use mathlib.Core.List.{List, [], ◌∷◌}
use Rattle.rules.specs.Table.{Table}
use Rattle.rules.specs.Prices.{Prices}
use Rattle.rules.specs.Calls.{open_of}
use Rattle.rules.specs.Sound.{Each, SoundBy, SoundAny}
use Rattle.rules.specs.Runs.{Call, Step, Run, step, is_open, records_of, after, run_of}
use Rattle.rules.specs.Runs.Call.{Begin, Finish, Recheck, Scan, Open, Grant, Pick, Deliver, Evict, Cancel}
use Rattle.rules.proofs.Tests.{if-cases}
use Rattle.rules.proofs.Sound.{step-sound, step-any, open-sound}
use Rattle.promises.specs.Fuel.{reached}
use Rattle.promises.specs.Promises.{AllSound}

-- ---- 9 "The states reached are sound"
sound-on : (p : Prices) {ok : ℕ → Type 0} {calls : List Call} → Each (λ c. Each ok (records_of c)) calls → (r : Run) → SoundBy ok r.table → SoundBy ok (run_of p r calls).table
unfolding run_of after
sound-on p Each.none r s = s
sound-on p (Each.also {x = c} named more) r s = sound-on p more (after p r c) (step-sound p s c named)

pub all_sound : (p : Prices) → AllSound p
all_sound p ok shares calls named = sound-on p named _ (open-sound shares)

-- ---- any promise
-- a call as it is made on a table
abbrev pub made : Prices → Table → Call → Step
made p t c = record { met = t; call = c; outcome = step p t c }

-- what holds at an opening, and after each call on a sound table if it held before it
module _ (p : Prices) (P : Table → List Step → Type 0) (opening : (shares : List ℕ) → P (open_of shares).table []) (keeps : (t : Table) (steps : List Step) (c : Call) → SoundAny t → is_open c ≡ false → P t steps → P (step p t c).table (made p t c ∷ steps)) where
  -- "a later Open begins a new sequence of calls"
  opens : (t : Table) (c : Call) → is_open c ≡ true → P (step p t c).table []
  opens t (Begin who awaited reads writes) e = absurd (false≢true e)
  opens t (Finish who serial) e = absurd (false≢true e)
  opens t (Recheck who serial) e = absurd (false≢true e)
  opens t (Scan who) e = absurd (false≢true e)
  opens t (Open shares) e = opening shares
  opens t (Grant who amount) e = absurd (false≢true e)
  opens t Pick e = absurd (false≢true e)
  opens t (Deliver who serial) e = absurd (false≢true e)
  opens t (Evict who serial) e = absurd (false≢true e)
  opens t (Cancel who serial) e = absurd (false≢true e)

  from : (calls : List Call) (r : Run) → SoundAny r.table → P r.table r.steps → P (run_of p r calls).table (run_of p r calls).steps
  unfolding run_of after
  from [] r s h = h
  from (c ∷ calls) r s h = from calls (after p r c) (step-any p s c)
      (if-cases (P (step p r.table c).table) (is_open c) (opens r.table c) (λ e. keeps r.table r.steps c s e h))

  -- holds of every run
  pub any-run : (shares : List ℕ) (calls : List Call) → let r = reached p shares calls in P r.table r.steps
  any-run shares calls = from calls _ (open-sound shares) (opening shares)
