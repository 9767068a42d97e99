-- The lowest digits are written, from the end on.
use Rattle.listing.proofs.Ending.{Ending}
use Rattle.listing.proofs.Line.push_number.Given as goal

abbrev pub invariant-loop-high : goal.invariant-loop-high
invariant-loop-high l = Ending l.fn.n l.high l.at l.digits

abbrev pub decreases-loop-high : goal.decreases-loop-high
decreases-loop-high l = l.high
