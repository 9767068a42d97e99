-- The piece so far and what is left at the place are what was left before; each line brings the place on.
use Rattle.replay.specs.Pieces.{rest}
use Rattle.replay.proofs.Pieces.{Filling, to_read}
use Rattle.replay.proofs.piece.filled.Given as goal

abbrev pub invariant-loop-q : goal.invariant-loop-q
invariant-loop-q l = Filling l.bytes (rest l.bytes l.fn.p) l.fn.p.at l.out l.q

abbrev pub decreases-loop-q : goal.decreases-loop-q
decreases-loop-q l = to_read l.bytes l.q.at
