-- The meters so far are written.
use Rattle.std.proofs.Common.{map}
use Rattle.meter.specs.View.{meter_view}
use Rattle.block.specs.Bytes.{meter_bytes}
use Rattle.block.proofs.Writing.{Rows}
use Rattle.block.proofs.write.put_meters.Given as goal

abbrev pub invariant-loop-i : goal.invariant-loop-i
invariant-loop-i l = Rows meter_bytes 6 22 (map meter_view l.meters) l.fn.b l.i l.b
