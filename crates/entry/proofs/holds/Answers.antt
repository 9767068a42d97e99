-- The library's test by equality is the law book's.
use Rattle.std.proofs.Common.{rules, eqb}
use Rattle.rules.specs.Records.{member}
use Rattle.rules.proofs.Chains.{some-told}
use Rattle.entry.proofs.holds.Goals as goal

pub returns : goal.returns
unfolding member
returns c = some-told (λ x. eqb x c.args.r) c.args.list.now 0 c.contains.result (search rules) (search rules)
