use Rattle.std.proofs.Common.{arith}
use Rattle.maps.proofs.Records.{union-words}
use Rattle.maps.proofs.join.Goals as goal

pub returns : goal.returns
returns c =
    union-words c.args.map.now c.args.other.now c.loop-i.map (λ i lt. c.loop-i.invariant.0 i (omega (arith, lt)))
