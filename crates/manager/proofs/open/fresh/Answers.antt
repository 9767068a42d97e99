use Rattle.manager.proofs.Opening.{fresh-becomes}
use Rattle.manager.proofs.open.fresh.Goals as goal

pub returns-clause-becomes : goal.returns-clause-becomes
returns-clause-becomes c = fresh-becomes _ _ _ _ c.none.ensures.0 c.none.ensures.1 c.meters.ensures c.empty.ensures
