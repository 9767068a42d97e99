-- The first i meters are made.
use Rattle.manager.proofs.Opening.{Metered}
use Rattle.manager.proofs.open.meters.Given as goal

abbrev pub invariant-loop-i : goal.invariant-loop-i
invariant-loop-i l = Metered l.i l.shares l.all
