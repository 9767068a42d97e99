use Rattle.std.proofs.Common.{rules}
use lib.Dec.{ltb}
use Rattle.rules.proofs.Chains.{some-told}
use Rattle.counters.specs.Counters.{at}
use Rattle.counters.proofs.some_above.Goals as goal

pub returns : goal.returns
returns c = some-told (λ k. ltb c.args.floor (at c.args.counters.now k)) c.args.list.now 0 c.any.result (search rules) (search rules)
