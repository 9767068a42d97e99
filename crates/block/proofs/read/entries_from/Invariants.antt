-- The entries so far stand in their slots, and the others are unused.
use Rattle.block.specs.Clauses.{queue_in}
use Rattle.block.proofs.Loading.{Slotted}
use Rattle.block.proofs.read.entries_from.Given as goal

abbrev pub invariant-loop-i : goal.invariant-loop-i
invariant-loop-i l = Slotted (queue_in l.b) l.i l.a
