-- Before each piece, what is written with the piece and what is left is the listing.
use Rattle.replay.proofs.Pieces.{to_read}
use Rattle.replay.proofs.Prints.{Ahead}
use Rattle.replay.proofs.print.listing.Given as goal

abbrev pub invariant-loop-done : goal.invariant-loop-done
invariant-loop-done g l = Ahead l.bytes l.out (g.W.Write.contents l.fn.to) (g.W.Write.contents l.to) l.p l.done

abbrev pub decreases-loop-done : goal.decreases-loop-done
decreases-loop-done g l = to_read l.bytes l.p.at
