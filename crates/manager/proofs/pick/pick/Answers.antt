-- The front is promoted, or runs already, or there is none.
use Rattle.std.proofs.Common.{refl, sym, ◌∙◌}
use Rattle.manager.proofs.Slots.{slotted}
use Rattle.manager.proofs.Modes.{blocked-told}
use Rattle.manager.proofs.Front.{front-promoted, front-runs, front-none}
use Rattle.manager.proofs.pick.pick.Goals as goal
use Rattle.manager.proofs.pick.pick.Goals.{then-n-gt0+then-eq, else-n-gt0, else-n-gt0-via-then-n-gt0+else-eq, else-n-gt0-via-else-n-gt0}

pub returns : goal.returns
returns c =
    let k = slotted c.args.s _ c.well_formed.0 c.requires.tied in
    elim c.if-n-gt0.branch [
      | then-n-gt0+then-eq w ↦ rw (w.n-is, w.answer-is) (front-promoted c.requires k w.if-n-gt0.true (sym (blocked-told _) ∙ sym w.eq.ensures ∙ w.if-eq.true) w.promoted-p.ensures _ w.named-answer.ensures refl)
      | else-n-gt0 w ↦
          elim w.else-n-gt0.branch [
            | else-n-gt0-via-then-n-gt0+else-eq v ↦ rw (w.n-is, w.answer-is) (front-runs c.requires k v.if-n-gt0.true (sym (blocked-told _) ∙ sym v.eq.ensures ∙ v.if-eq.false))
            | else-n-gt0-via-else-n-gt0 v ↦ rw (w.n-is, w.answer-is) (front-none c.requires k v.if-n-gt0.false)
          ]
    ]
