-- The ones of the two maps, and of both together.
use Rattle.manager.proofs.Marking.{held-told}
use Rattle.manager.proofs.held.held.Goals as goal

pub returns : goal.returns
returns c = held-told c.requires.tied c.join.ensures c.ones.ensures c.ones-2.ensures c.ones-3.ensures
