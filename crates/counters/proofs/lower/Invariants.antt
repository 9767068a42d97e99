-- What was taken so far, added again, is the counters as they were, and the map has the records whose counter is above 0.
use Rattle.std.proofs.Common.{take}
use Rattle.counters.specs.Counters.{Raised, Marks}
use Rattle.counters.proofs.lower.Given as goal

abbrev pub invariant-loop-r : goal.invariant-loop-r
invariant-loop-r l = Raised l.counters (take l.r-index l.list) l.initial.counters × Marks l.map l.counters
