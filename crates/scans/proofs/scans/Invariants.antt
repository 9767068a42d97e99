-- The state stays sound from scan to scan.
use Rattle.manager.specs.State.{Sound}
use Rattle.scans.proofs.scans.Given as goal

abbrev pub invariant-loop : goal.invariant-loop
invariant-loop l = Sound l.s
