-- The start, and the step of a call.
use Rattle.std.specs.Prelude.{Option, Some}
use Prim.Native.Nat.{ℕ}
use mathlib.Core.Path.{◌≡◌, refl}
use mathlib.Core.Bool.{Bool, true, false}
use mathlib.Core.List.{List}
use native.Mathlib.Omega.{arith}
use lib.Dec.{eqb}
use lib.ListN.{replicate}
use Rattle.rules.specs.Table.{Table}
use Rattle.rules.specs.Refusals.{first_of, open_rows}
use Rattle.rules.specs.Calls.{open_of}
use Rattle.rules.proofs.Tests.{if-either}
use Rattle.manager.specs.declared.State.{State}
use Rattle.manager.specs.State.{view}
use Rattle.manager.specs.Runs.{DidCall}
use Rattle.rules.specs.declared.Event.{Event}
use Rattle.events.specs.declared.Next.{Next}
use Rattle.events.specs.Events.{call_at, record_at}
use Rattle.listing.specs.declared.Line.{Line}
use Rattle.listing.specs.declared.Name.{Name}
use Rattle.listing.specs.Listing.{line_of}
use Rattle.listing.specs.Written.{Written}
use Rattle.replay.specs.Replay.{left_after, call_line, unopened, Steps}
use Rattle.replay.proofs.Calls.{event-read}

-- refused or not, an Open of 16 zeros makes the table before the first record
pub opened-none : (open_of (replicate 16 0)).table ≡ unopened
unfolding open_of
opened-none = if-either (λ (t : Table). t ≡ unopened) (eqb (first_of (open_rows (replicate 16 0))) 0) refl refl

module _ (s : State) (file : List ℕ) (at : ℕ) (first : Bool) (number : ℕ) where
  module _ {e : Event} {n : ℕ} (q : record_at file at first ≡ Next.Call e n) {o : State} (d : DidCall s (call_at file at e) o) where
    -- the line of a call: its name, and the fuel in the state after it
    line-of-call : {left : Option ℕ} → left ≡ left_after (view o) e.tenant → line_of number (Name.Call e.kind) o.said.answer o.said.burnt left ≡ call_line number (view s) (call_at file at e)
    unfolding call_line
    line-of-call left = cc (left, d.answer, d.burnt, d.table, event-read (record { first = first; next = n; is = q }))

    pub step-called : {left : Option ℕ} → left ≡ left_after (view o) e.tenant → {l : Line} → Written (line_of number (Name.Call e.kind) o.said.answer o.said.burnt left) l → Steps s file at first number (record { state = o; line = l; next = Some n })
    step-called left w = record {
      sound = d.sound;
      table = rw q d.table;
      line = rw q (rw (line-of-call left) at w);
      next = rw q refl;
      kept = rw q (λ (z : true ≡ false). absurd (let o : ◌≡◌ {A = ℕ} 0 1 = cc in omega arith));
    }
