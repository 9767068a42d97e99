-- Each counter has risen by how often its record stands among those so far.
use Rattle.std.proofs.Common.{take}
use Rattle.counters.specs.Counters.{Raised}
use Rattle.counters.proofs.raise_each.Given as goal

abbrev pub invariant-loop-r : goal.invariant-loop-r
invariant-loop-r l = Raised l.initial.counters (take l.r-index l.list) l.counters
