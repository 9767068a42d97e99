-- The event that was read at a position: which call it is.
use Prim.Native.Nat.{ℕ}
use mathlib.Core.Path.{◌≡◌, sym, subst}
use mathlib.Core.List.{List}
use Rattle.rules.specs.declared.Kind.{Kind}
use Rattle.rules.specs.declared.Event.{Event}
use Rattle.rules.specs.Runs.{Call, event_of}
use Rattle.manager.specs.declared.State.{State}
use Rattle.manager.specs.Runs.{DidCall}
use Rattle.events.specs.Events.{call_at}
use Rattle.events.proofs.Found.{with_parts, Found, found, call-of}
use Rattle.replay.specs.Replay.{ReadAt}

module _ {file : List ℕ} {at : ℕ} {e : Event} (h : ReadAt file at e) where
  was_read : Found file at e h.next
  was_read = found file at h.first h.is

  -- the call says what the event says
  pub event-read : e ≡ event_of (call_at file at e)
  event-read = was_read.event

  -- what did the call with the parts that the readers hand back did the call at the position
  pub did_read : {r : State} (s : State) (k : Kind) → e.kind ≡ k → DidCall s (with_parts file at k e) r → DidCall s (call_at file at e) r
  did_read {r} s k is d = subst (λ (call : Call). DidCall s call r) (sym (call-of was_read k is)) d
