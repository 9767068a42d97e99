-- What the type of a state alone says of it: the lengths of its arrays, and that its maps are words.
use Prim.Native.Nat.{ℕ, zero, suc, ◌<◌}
use mathlib.Core.Path.{◌≡◌}
use mathlib.Core.List.{List, [], ◌∷◌}
use native.Mathlib.Nat.{not-suc-le-zero, le_of_suc-le-suc}
use native.Mathlib.Omega.{arith}
use lib.ListN.{length, get_or}
use mir.Val.{Val}
use denote.Array.{Array, each}
use denote.Shadow.{shadow}
use denote.Laws.{Is}
use Rattle.maps.proofs.Typed.{words}
use Rattle.entry.specs.declared.Entry.{Entry}
use Rattle.entry.specs.Entry.{blank}
use Rattle.entry.specs.contracts.Entry as entry
use Rattle.entry.proofs.Typed.{Lists, entry-lists, bytes}
use Rattle.manager.specs.declared.State.{State}
use Rattle.manager.specs.Tight.{Sized}
use Rattle.manager.specs.contracts.State as state

pub state-slots : (s : State) (vs : List Val) → Is state.the_row s vs → length s.entries ≡ 64
state-slots s vs p = p.1.1.1.1.1.1.1.0.1.0.1

each-lists : (es : List Entry) (us : List Val) → shadow (each Entry (entry.the_row).own_val es us) → (i : ℕ) → i < length es → Lists (get_or es i blank)
each-lists [] us p i h = absurd (not-suc-le-zero h)
each-lists (e ∷ es) [] p i h = absurd p
each-lists (e ∷ es) (u ∷ us) p zero h = entry-lists e (u ∷ []) p.0
each-lists (e ∷ es) (u ∷ us) p (suc i) h = each-lists es us p.1 i (le_of_suc-le-suc h)

pub slot-lists : (es : List Entry) (vs : List Val) → Is (Array entry.the_row 64) es vs → (i : ℕ) → i < 64 → Lists (get_or es i blank)
slot-lists es vs p i h =
    let there : i < length es = omega (arith, p.1.0.1) in
    each-lists es p.0 p.1.1 i there

pub state-lists : (s : State) (vs : List Val) → Is state.the_row s vs → (i : ℕ) → i < 64 → Lists (get_or s.entries i blank)
state-lists s vs p = slot-lists s.entries _ p.1.1.1.1.1.1.1.0

-- every value of the type is so
pub state-sized : (s : State) (vs : List Val) → Is state.the_row s vs → Sized s
state-sized s vs p =
    let lists = state-lists s vs p in
    record {
      writers = (bytes 256 s.cx _ p.1.1.0).size;
      readers = (bytes 256 s.cs _ p.1.1.1.0).size;
      written = words s.maps.written _ p.1.1.1.1.0.1.1.0;
      read = words s.maps.read _ p.1.1.1.1.0.1.1.1.0;
      slots = state-slots s vs p;
      reads = λ i lt. (lists i lt).reads.size;
      writes = λ i lt. (lists i lt).writes.size;
    }
