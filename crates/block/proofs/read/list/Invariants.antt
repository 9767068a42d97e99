-- The first n places so far are filled, and the others stay zero.
use Rattle.std.proofs.Common.{◌+◌, get_or, min}
use Rattle.block.proofs.Places.{Filled}
use Rattle.block.proofs.read.list.Given as goal

abbrev pub invariant-loop-k : goal.invariant-loop-k
invariant-loop-k l = Filled (λ j. get_or l.p (l.at + j) 0) 0 8 l.n (min l.k l.n) l.out
