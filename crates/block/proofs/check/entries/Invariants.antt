-- The pass asks of each entry what the rest asks, and remembers it for those behind.
use Rattle.block.proofs.Swept.{Swept}
use Rattle.block.proofs.check.entries.Given as goal

abbrev pub invariant-loop-i : goal.invariant-loop-i
invariant-loop-i l = Swept l.b l.i l.last l.left l.cx l.cs
