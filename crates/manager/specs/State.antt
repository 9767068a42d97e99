-- The state as the law book's table, and what a sound state is.
use Rattle.std.specs.Prelude.{◌≡◌, map}
use Rattle.rules.specs.Table.{Table}
use Rattle.rules.specs.Calls.{Outcome}
use Rattle.rules.specs.Sound.{SoundTable}
use Rattle.meter.specs.View.{meter_view}
use Rattle.counters.specs.Counters.{Counts, Marks}
use Rattle.queue.specs.Queue.{Queue, requests, Neat}
use Rattle.manager.specs.declared.State.{State}

abbrev pub queue_of : State → Queue
queue_of s = record { count = s.count; entries = s.entries }

abbrev pub view : State → Table
view s = record { meters = map meter_view s.meters; queue = requests (queue_of s) }

-- the arrays say what the queue's list says: "Cx and Cs are the queue's", "unused entries are zero"
pub record Tied (s : State) : Type 0 where
  pub writers : Counts (λ e. e.writes) s.cx (view s).queue
  pub readers : Counts (λ e. e.reads) s.cs (view s).queue
  pub written : Marks s.maps.written s.cx
  pub read : Marks s.maps.read s.cs
  pub neat : Neat (queue_of s)

-- sound, as Open makes it and each call keeps it
pub record Sound (s : State) : Type 0 where
  pub table : SoundTable (view s)
  pub tied : Tied s

-- s is a state of the table t
pub record Becomes (t : Table) (s : State) : Type 0 where
  pub is : view s ≡ t
  pub tied : Tied s

-- a call did what the law book says: the state is sound and of its table, the answer and the units burnt are its
pub record Did (r : State) (o : Outcome) : Type 0 where
  pub sound : Sound r
  pub table : view r ≡ o.table
  pub answer : r.said.answer ≡ o.answer
  pub burnt : r.said.burnt ≡ o.burnt
