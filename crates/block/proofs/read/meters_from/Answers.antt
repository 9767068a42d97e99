-- After all turns all meters are read.
use Rattle.std.proofs.Common.{arith, refl}
use Rattle.block.specs.Block.{tab}
use Rattle.block.proofs.Places.{shown-more, shown-all}
use Rattle.block.proofs.read.meters_from.Goals as goal

pub loop-i-init : goal.loop-i-init
unfolding tab
loop-i-init c = record { whole = refl; first = refl }

pub loop-i-preserved : goal.loop-i-preserved
loop-i-preserved c = shown-more _ _ c.loop-i.invariant (omega arith) _ c.meter_at.ensures

pub returns : goal.returns
returns c = shown-all _ _ c.loop-i.invariant (omega arith)
