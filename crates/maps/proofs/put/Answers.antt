use Rattle.std.proofs.Common.{arith}
use Rattle.maps.proofs.Growth.{grown-bit}
use Rattle.maps.proofs.put.Goals as goal

pub returns : goal.returns
returns c = grown-bit c.args.map.now c.args.r (omega (arith, c.told-map, c.ranges.r))
