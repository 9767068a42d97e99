-- An entry to which an answer has come: what it makes of a Deliver.
use Prim.Native.Nat.{ℕ, ◌<◌}
use native.Mathlib.Omega.{arith}
use mathlib.Core.Path.{◌≡◌, ap, subst, ◌∙◌}
use mathlib.Core.Bool.{false}
use lib.Dec.{eqb}
use lib.ListN.{length, get_or, set}
use borrow.Author.Tests.{eqb-false}
use Rattle.rules.specs.Request.{Request, nobody, delivered}
use Rattle.rules.specs.Refusals.{first_of, stands_at, is_absent, entry_of, deliver_rows}
use Rattle.rules.specs.Calls.{with_entry, named, deliver_of}
use Rattle.rules.proofs.Tests.{above_zero}
use Rattle.rules.proofs.Refusals.{deliver-passes, here}
use Rattle.rules.proofs.Sound.{delivery-sound}
use Rattle.entry.specs.declared.Entry.{Entry}
use Rattle.entry.specs.Entry.{blank, request, Stands}
use Rattle.manager.specs.declared.Said.{Said}
use Rattle.manager.specs.declared.State.{State}
use Rattle.manager.specs.State.{view, Sound, Becomes, Did}
use Rattle.manager.proofs.Done.{host-done}
use Rattle.manager.proofs.Slots.{Slotted, used}
use Rattle.manager.proofs.Entries.{delivered-lists, makes-becomes, makes-named}
use Rattle.manager.proofs.Rows.{entry-is}

module _ {s : State} (h : Sound s) (k : Slotted s) (who serial : ℕ) {at : ℕ} (place : at ≡ stands_at who serial (view s).queue) (none : first_of (deliver_rows (view s) who serial) ≡ 0) where
  passes : (is_absent who serial (view s).queue ≡ false) × (eqb (entry_of who serial (view s).queue).due 0 ≡ false)
  passes = deliver-passes (view s) who serial none

  -- the entry is there, and an answer is due
  pub there : at < length (view s).queue
  there = omega (arith, here who serial (view s).queue passes.0)

  pub is-due : 0 < (get_or s.entries at blank).due
  is-due = rw (ap (λ (e : Request). e.due) (entry-is k.slots who serial place (used k there))) (above_zero _ (eqb-false _ 0 passes.1))

  pub delivers : {p : Entry} → Stands (delivered (request (get_or s.entries at blank))) p → (said : Said) → said.answer ≡ named (request p) → said.burnt ≡ 0 → Did (record { cx = s.cx; cs = s.cs; maps = s.maps; meters = s.meters; count = s.count; entries = set s.entries at p; said = said }) (deliver_of (view s) who serial)
  unfolding deliver_of
  delivers {p} stands said says burnt =
      let t = view s in
      let next : State = record { cx = s.cx; cs = s.cs; maps = s.maps; meters = s.meters; count = s.count; entries = set s.entries at p; said = said } in
      let made = makes-becomes h.tied k delivered delivered-lists (used k there) stands said in
      host-done t _ none
      (delivery-sound h.table (stands_at who serial t.queue) (here who serial t.queue passes.0) passes.1)
      (subst (λ (i : ℕ). Becomes (with_entry t i (delivered (get_or t.queue i nobody))) next) place made)
      (says ∙ makes-named h.tied k delivered delivered-lists (used k there) stands ∙ ap (λ (i : ℕ). named (delivered (get_or t.queue i nobody))) place)
      burnt
