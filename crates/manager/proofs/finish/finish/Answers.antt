use Rattle.std.proofs.Common.{sym, ◌∙◌}
use Rattle.rules.specs.Refusals.{finish_rows}
use Rattle.rules.specs.Calls.{finish_of}
use Rattle.rules.proofs.Refusals.{stranger, finish-passes}
use Rattle.manager.specs.State.{view}
use Rattle.manager.proofs.Done.{tenant-refuses}
use Rattle.manager.proofs.Leaving.{inside, formed, finish-did}
use Rattle.manager.proofs.finish.finish.Goals as goal

pub release-requires-clause-at_in_bounds : goal.release-requires-clause-at_in_bounds
release-requires-clause-at_in_bounds c =
    inside c.requires c.args.who c.args.serial c.in-Ok.ensures.1 (finish-passes (view c.args.s) c.args.who c.args.serial c.in-Ok.ensures.0).1

pub release-requires-clause-stored : goal.release-requires-clause-stored
release-requires-clause-stored c =
    formed c.requires c.args.who c.args.serial c.in-Ok.ensures.1 (finish-passes (view c.args.s) c.args.who c.args.serial c.in-Ok.ensures.0).1

pub refuse-requires-clause-outsider : goal.refuse-requires-clause-outsider
unfolding finish_rows
refuse-requires-clause-outsider c outside = sym c.in-Err.ensures ∙ stranger c.args.who _ outside

pub returns-in-Ok : goal.returns-in-Ok
returns-in-Ok c = finish-did c.requires c.args.who c.args.serial c.in-Ok.ensures.1 c.in-Ok.ensures.0 c.release.ensures

pub returns-in-Err : goal.returns-in-Err
unfolding finish_of
returns-in-Err c = tenant-refuses (view c.args.s) c.args.who _ _ _ c.in-Err.why c.in-Err.ensures c.refuse.ensures
