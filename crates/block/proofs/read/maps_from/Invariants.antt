-- The maps have the records of the entries so far.
use Rattle.std.proofs.Common.{take}
use Rattle.block.specs.Clauses.{queue_in}
use Rattle.block.specs.Read.{MapsOf}
use Rattle.block.proofs.read.maps_from.Given as goal

abbrev pub invariant-loop-i : goal.invariant-loop-i
invariant-loop-i l = MapsOf (take l.i (queue_in l.b)) l.maps.written l.maps.read
