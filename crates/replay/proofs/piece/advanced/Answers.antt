-- The line of the step stands behind the piece, and the place goes on.
use Rattle.replay.proofs.Pieces.{step-onward, step-piece}
use Rattle.replay.proofs.piece.advanced.Goals as goal

pub returns-clause-piece : goal.returns-clause-piece
returns-clause-piece c =
    rw c.put.ensures (step-piece c.args.bytes.now c.args.p c.requires.ready c.requires.here c.step-r.result c.step-r.ensures c.args.out.now c.told-out c.requires.len_bound)

pub returns-clause-onward : goal.returns-clause-onward
returns-clause-onward c =
    step-onward c.args.bytes.now c.args.p c.requires.ready c.requires.here c.step-r.result c.step-r.ensures
