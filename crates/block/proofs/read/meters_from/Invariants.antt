-- The meters so far are read.
use Rattle.meter.specs.View.{meter_view}
use Rattle.block.specs.Clauses.{meter_at}
use Rattle.block.proofs.Places.{Shown}
use Rattle.block.proofs.read.meters_from.Given as goal

abbrev pub invariant-loop-i : goal.invariant-loop-i
invariant-loop-i l = Shown meter_view (meter_at l.b) 16 l.i l.a
