-- The map has grown by the records so far.
use Rattle.std.proofs.Common.{take}
use Rattle.maps.specs.Maps.{Grown}
use Rattle.maps.proofs.add_each.Given as goal

abbrev pub invariant-loop-r : goal.invariant-loop-r
invariant-loop-r l = Grown l.initial.map (take l.r-index l.list) l.map
