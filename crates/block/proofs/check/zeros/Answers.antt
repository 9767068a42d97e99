-- After all turns the number tells of all bytes.
use Rattle.std.proofs.Common.{arith}
use Rattle.block.proofs.Passing.{nought-none, nought-more, nought-tells}
use Rattle.block.proofs.check.zeros.Goals as goal

pub loop-x-init : goal.loop-x-init
loop-x-init c = nought-none c.args.p.now

pub loop-x-preserved : goal.loop-x-preserved
loop-x-preserved c = nought-more c.args.p.now c.loop-x.x-index c.loop-x.any (omega arith) c.loop-x.invariant

pub returns : goal.returns
returns c = nought-tells c.args.p.now (omega arith) c.loop-x.invariant
