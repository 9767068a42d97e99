-- The copy puts the line's bytes at their place.
use Rattle.std.proofs.Common.{arith}
use Rattle.std.proofs.lemmas.Slice.{put_mid-paste}
use Rattle.replay.proofs.piece.put.Goals as goal

pub returns : goal.returns
returns c =
    put_mid-paste c.args.at _ c.args.out.now c.copy_from_slice.new.self c.args.l.bytes 64 c.copy_from_slice.ensures.after (omega arith) (omega arith)
