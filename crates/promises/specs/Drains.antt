-- Document 02, item 2: nobody waits for nothing, and whatever was admitted can come to its end. From every sound table the calls Pick,
-- Deliver and Finish alone empty the queue, and nobody needs fuel for it.
use Rattle.std.specs.Prelude.{ℕ, ◌*◌, ◌≤◌, ◌<◌, ◌≡◌, Bool, true, false, List, [], ◌∷◌, ◌++◌, length, replicate, if◌then◌else◌}
use Rattle.rules.specs.Lists.{every}
use Rattle.rules.specs.Request.{Request, is_waiting, is_blocked}
use Rattle.rules.specs.Table.{Table, with_queue}
use Rattle.rules.specs.Prices.{Prices}
use Rattle.rules.specs.Sound.{Each, SoundAny}
use Rattle.rules.specs.Runs.{Call, Step, Run, from, run_of, number}
use Rattle.rules.specs.Runs.Call.{Begin, Finish, Recheck, Scan, Open, Grant, Pick, Deliver, Evict, Cancel}
use Rattle.promises.specs.Fuel.{reached}

-- ---- 11 No request hangs: a Waiting entry has an answer due
abbrev pub NoneHangs : Table → Type 0
NoneHangs t = Each (λ e. is_waiting e.mode ≡ true → 0 < e.due) t.queue

abbrev pub NeverHangs : Prices → Type 0
NeverHangs p =
    (shares : List ℕ) (calls : List Call) →
    NoneHangs (reached p shares calls).table

-- ---- 12 Every queue can be emptied
-- the calls that empty a queue, entry by entry from the front: Pick if it is Blocked, the answers that are due, Finish
abbrev pub leaving : Request → List Call → List Call
leaving e rest =
    (if is_blocked e.mode then Pick ∷ [] else []) ++
    (replicate e.due (Deliver e.tenant e.serial) ++ Finish e.tenant e.serial ∷ rest)

unfoldable pub draining : List Request → List Call
draining [] = []
draining (e ∷ q) = leaving e (draining q)

abbrev pub is_draining : Call → Bool
is_draining (Begin who awaited reads writes) = false
is_draining (Finish who serial) = true
is_draining (Recheck who serial) = false
is_draining (Scan who) = false
is_draining (Open shares) = false
is_draining (Grant who amount) = false
is_draining Pick = true
is_draining (Deliver who serial) = true
is_draining (Evict who serial) = false
is_draining (Cancel who serial) = false

-- a call that was not refused and burnt nothing
pub record Smooth (s : Step) : Type 0 where
  pub accepted : number s.outcome ≡ 0
  pub burnt : s.outcome.burnt ≡ 0

pub record Drained (t : Table) (calls : List Call) (end : Run) : Type 0 where
  pub only : every is_draining calls ≡ true
  -- each call is a step of the run, and each goes smoothly
  pub all : length end.steps ≡ length calls
  pub smooth : Each Smooth end.steps
  -- at the end the queue is empty, and every meter is as it was
  pub empty : end.table ≡ with_queue t []
  -- for each entry at most a Pick, 15 answers and a Finish
  pub few : length calls ≤ 17 * length t.queue

-- whatever the tenants' fuel: the calls are told from the queue alone
abbrev pub Drains : Prices → Type 0
Drains p =
    (t : Table) →
    SoundAny t →
    let calls = draining t.queue in
    Drained t calls (run_of p (from t) calls)

-- so every table that a run reaches can be emptied
abbrev pub AlwaysDrains : Prices → Type 0
AlwaysDrains p =
    (shares : List ℕ) (calls : List Call) →
    let t = (reached p shares calls).table in
    let last = draining t.queue in
    Drained t last (run_of p (from t) last)
