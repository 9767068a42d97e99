-- The first k places have what is only read of the reads so far; at the end that is all of it.
use Rattle.std.proofs.Common.{◌≤◌}
use Rattle.entry.proofs.Sieving.{Sifted}
use Rattle.entry.proofs.only_read.Given as goal

abbrev pub invariant-loop-r : goal.invariant-loop-r
invariant-loop-r l = (l.k ≤ l.r-index) × Sifted l.reads l.writes l.r-index l.k l.list
