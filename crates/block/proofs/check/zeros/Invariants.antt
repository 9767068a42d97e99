-- The number is 0 exactly if the bytes so far are.
use Rattle.block.proofs.Passing.{Nought}
use Rattle.block.proofs.check.zeros.Given as goal

abbrev pub invariant-loop-x : goal.invariant-loop-x
invariant-loop-x l = Nought l.p l.x-index l.any
