use Rattle.std.proofs.Common.{rules, tests}
use Rattle.std.proofs.lemmas.Iterator.{YieldsList-from_slice}
use Rattle.std.proofs.lemmas.Iterator.Search.{position_from_yields_List}
use Rattle.manager.specs.State.{queue_of}
use Rattle.manager.proofs.Judging.{found}
use Rattle.manager.proofs.places.place_of.Goals as goal

pub returns : goal.returns
returns c =
    found (queue_of c.args.s.now) c.args.who c.args.serial
    (position_from_yields_List _ _ _ _ c.position.ensures.ran (YieldsList-from_slice _ c.iter.ensures.rest) (λ x b q k. search (rules, tests)))
