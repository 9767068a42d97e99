use Rattle.std.proofs.Common.{rules}
use Rattle.rules.proofs.Chains.{some-told}
use Rattle.maps.specs.Maps.{in_map}
use Rattle.maps.proofs.hits.Goals as goal

pub returns : goal.returns
returns c = some-told (in_map c.args.map.now) c.args.list.now 0 c.any.result (search rules) (search rules)
