use Rattle.std.proofs.Common.{rules}
use lib.Dec.{eqb}
use Rattle.rules.proofs.Chains.{every-told}
use Rattle.counters.specs.Counters.{at}
use Rattle.counters.proofs.all_equal.Goals as goal

pub returns : goal.returns
returns c = every-told (λ k. eqb (at c.args.counters.now k) c.args.value) c.args.list.now 0 c.all.result (search rules) (search rules)
