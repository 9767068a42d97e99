-- The slots of a state: what its type and its tie say of them.
use Prim.Native.Nat.{ℕ, ◌<◌}
use mathlib.Core.List.{List}
use native.Mathlib.Omega.{arith}
use lib.ListN.{length, get_or}
use mir.Val.{Val}
use denote.Array.{Array}
use denote.Laws.{Is}
use Rattle.entry.specs.declared.Entry.{Entry}
use Rattle.entry.specs.Entry.{blank}
use Rattle.entry.specs.contracts.Entry as entry
use Rattle.entry.proofs.Typed.{Lists}
use Rattle.queue.proofs.Views.{Slots, requests-length}
use Rattle.manager.specs.declared.State.{State}
use Rattle.manager.specs.State.{queue_of, view, Tied}
use Rattle.manager.specs.contracts.State as state
use Rattle.manager.proofs.Typed.{slot-lists}

-- 64 slots, neat, each with its two lists of 8 bytes
pub record Slotted (s : State) : Type 0 where
  pub slots : Slots (queue_of s)
  pub lists : (i : ℕ) → i < 64 → Lists (get_or s.entries i blank)

-- by what the type says of the slots alone, as of a state behind a reference
pub slotted-lent : (s : State) (vs : List Val) → Is (Array entry.the_row 64) s.entries vs → Tied s → Slotted s
slotted-lent s vs p t = record { slots = record { full = p.1.0.1; neat = t.neat }; lists = slot-lists s.entries vs p }

pub slotted : (s : State) (vs : List Val) → Is state.the_row s vs → Tied s → Slotted s
slotted s vs p = slotted-lent s _ p.1.1.1.1.1.1.1.0

-- a place of the queue
module _ {s : State} (h : Slotted s) {at : ℕ} (there : at < length (view s).queue) where
  pub used : at < s.count
  used = omega (arith, requests-length h.slots)

  pub below : at < 64
  below = omega (arith, used, h.slots.neat.within)

  pub own-lists : Lists (get_or s.entries at blank)
  own-lists = h.lists at below

-- the state with other slots, and nothing else changed
abbrev pub with_entries : State → List Entry → State
with_entries s es = record { cx = s.cx; cs = s.cs; maps = s.maps; meters = s.meters; count = s.count; entries = es; said = s.said }
