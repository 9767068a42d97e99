-- The meters so far have so many places, and none has too much fuel.
use Rattle.block.proofs.Passing.{Metered}
use Rattle.block.proofs.check.tenants.Given as goal

abbrev pub invariant-loop-i : goal.invariant-loop-i
invariant-loop-i l = Metered l.b l.i l.places
