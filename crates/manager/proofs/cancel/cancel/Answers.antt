use Rattle.std.proofs.Common.{sym, ap, ◌∙◌, arith}
use Rattle.rules.specs.Table.{Meter, spent}
use Rattle.rules.specs.Refusals.{cancel_rows}
use Rattle.rules.specs.Calls.{cancel_of}
use Rattle.rules.proofs.Refusals.{Cancelable, stranger, cancel-passes}
use Rattle.rules.proofs.Meters.{tenant-range}
use Rattle.manager.specs.State.{view}
use Rattle.manager.proofs.Views.{meter-view}
use Rattle.manager.proofs.Done.{tenant-refuses}
use Rattle.manager.proofs.Leaving.{inside, formed, cancel-did}
use Rattle.manager.proofs.cancel.cancel.Goals as goal
use Rattle.manager.proofs.cancel.cancel.Goals.{In-Ok}

may : (c : In-Ok) → Cancelable (view c.args.s) c.args.who c.args.serial
may c = cancel-passes (view c.args.s) c.args.who c.args.serial c.in-Ok.ensures.0

pub overflow_sub-k : goal.overflow_sub-k
overflow_sub-k c = (tenant-range c.args.who (may c).tenant).0

pub bounds-n-k : goal.bounds-n-k
bounds-n-k c = omega (arith, (tenant-range c.args.who (may c).tenant).1)

pub charged-requires : goal.charged-requires
charged-requires c =
    omega (arith, ap (λ (m : Meter). m.fuel) (meter-view c.args.s c.args.who), (may (goal.at.charged-requires c).In-Ok).fuelled)

pub bounds-n-k-in-Ok : goal.bounds-n-k-in-Ok
bounds-n-k-in-Ok c = omega (arith, (tenant-range c.args.who (may (goal.at.bounds-n-k-in-Ok c).In-Ok).tenant).1)

pub release-requires-clause-at_in_bounds : goal.release-requires-clause-at_in_bounds
release-requires-clause-at_in_bounds c =
    inside c.requires c.args.who c.args.serial c.in-Ok.ensures.1 (may (goal.at.release-requires-clause-at_in_bounds c).In-Ok).there

pub release-requires-clause-stored : goal.release-requires-clause-stored
release-requires-clause-stored c =
    formed c.requires c.args.who c.args.serial c.in-Ok.ensures.1 (may (goal.at.release-requires-clause-stored c).In-Ok).there

pub refuse-requires-clause-outsider : goal.refuse-requires-clause-outsider
unfolding cancel_rows
refuse-requires-clause-outsider c outside = sym c.in-Err.ensures ∙ stranger c.args.who _ outside

pub returns-in-Ok : goal.returns-in-Ok
returns-in-Ok c =
    let pays = c.charged.ensures ∙ ap (λ (m : Meter). spent m 1) (meter-view c.args.s c.args.who) in
    cancel-did c.requires c.args.who c.args.serial c.in-Ok.ensures.1 c.in-Ok.ensures.0 c.charged.result pays c.release.ensures

pub returns-in-Err : goal.returns-in-Err
unfolding cancel_of
returns-in-Err c = tenant-refuses (view c.args.s) c.args.who _ _ _ c.in-Err.why c.in-Err.ensures c.refuse.ensures
