-- A piece that is written is the next of the listing; where one is not, some of its bytes may be.
use Rattle.replay.proofs.Prints.{first-ahead, part-put, next-ahead}
use Rattle.replay.proofs.print.listing.Goals as goal

pub loop-done-init : goal.loop-done-init
loop-done-init g c = first-ahead _ c.opened-p.ensures

pub returns-in-Err-clause-puts : goal.returns-in-Err-clause-puts
returns-in-Err-clause-puts g c =
    let (n, less, more) = c.in-Err.ensures.part in
    part-put c.loop-done.invariant n less more

pub loop-done-preserved : goal.loop-done-preserved
loop-done-preserved g c =
    next-ahead c.loop-done.invariant c.if-is_none.ensures c.filled-p.ensures.piece c.filled-p.ensures.onward c.in-Ok.ensures.whole
