-- A tenant pays the charge; who is none has nothing to pay.
use Rattle.std.proofs.Common.{sym, ◌∙◌}
use Rattle.rules.specs.Prices.{clause9}
use Rattle.rules.proofs.Costly.{charge-fits}
use Rattle.manager.proofs.Billing.{refused-pays, refused-free}
use Rattle.manager.proofs.refusal.refuse.Goals as goal
use Rattle.manager.proofs.refusal.refuse.Goals.{then-is_tenant, else-is_tenant}

pub charged-requires : goal.charged-requires
charged-requires c = rw c.burns-burnt.ensures (charge-fits clause9 _ _)

pub returns : goal.returns
returns c = elim c.if-is_tenant.branch [
  | then-is_tenant w ↦
      let burnt = w.burns-burnt.ensures in
      rw (w.s-is, w.burnt-is, c.number.ensures) (refused-pays c.requires.sound c.args.who _ (sym c.is_tenant.ensures ∙ w.if-is_tenant.true) _ _ burnt w.charged.ensures)
  | else-is_tenant w ↦
      rw (w.s-is, w.burnt-is, c.number.ensures) (refused-free c.requires.sound c.args.who _ (c.requires.outsider (sym c.is_tenant.ensures ∙ w.if-is_tenant.false)))
]
