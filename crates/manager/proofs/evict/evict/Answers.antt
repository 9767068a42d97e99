use Rattle.rules.specs.Calls.{evict_of}
use Rattle.rules.proofs.Refusals.{evict-passes}
use Rattle.manager.specs.State.{view}
use Rattle.manager.proofs.Done.{host-refuses}
use Rattle.manager.proofs.Leaving.{inside, formed, evict-did}
use Rattle.manager.proofs.evict.evict.Goals as goal

pub release-requires-clause-at_in_bounds : goal.release-requires-clause-at_in_bounds
release-requires-clause-at_in_bounds c =
    inside c.requires c.args.who c.args.serial c.in-Ok.ensures.1 (evict-passes (view c.args.s) c.args.who c.args.serial c.in-Ok.ensures.0).1

pub release-requires-clause-stored : goal.release-requires-clause-stored
release-requires-clause-stored c =
    formed c.requires c.args.who c.args.serial c.in-Ok.ensures.1 (evict-passes (view c.args.s) c.args.who c.args.serial c.in-Ok.ensures.0).1

pub returns-in-Ok : goal.returns-in-Ok
returns-in-Ok c = evict-did c.requires c.args.who c.args.serial c.in-Ok.ensures.1 c.in-Ok.ensures.0 c.release.ensures

pub returns-in-Err : goal.returns-in-Err
unfolding evict_of
returns-in-Err c = host-refuses c.requires _ _ c.in-Err.why c.in-Err.ensures c.of_host-n.ensures
