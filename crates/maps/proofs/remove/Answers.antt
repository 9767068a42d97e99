use Rattle.std.proofs.Common.{arith}
use Rattle.maps.proofs.Growth.{without-bit}
use Rattle.maps.proofs.remove.Goals as goal

pub returns : goal.returns
returns c = without-bit c.args.map.now c.args.r (omega (arith, c.told-map, c.ranges.r))
