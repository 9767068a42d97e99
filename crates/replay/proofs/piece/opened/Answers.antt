-- The header, with the refusal of a file that is too long behind it.
use Rattle.std.proofs.Common.{sym}
use Rattle.replay.proofs.Pieces.{headed, refused}
use Rattle.replay.proofs.piece.opened.Goals as goal

pub returns-then-too_long : goal.returns-then-too_long
returns-then-too_long c =
    let line = rw c.number.ensures at c.line_of-line.ensures in
    rw (c.put-then-too_long.ensures, c.put.ensures) (refused c.args.bytes.now c.args.out.now c.told-out c.header-header.ensures c.start.result c.start.ensures.sound c.start.ensures.result_value (sym c.if-too_long.ensures) line)

pub returns-else-too_long : goal.returns-else-too_long
returns-else-too_long c =
    rw c.put.ensures (headed c.args.bytes.now c.args.out.now c.told-out c.header-header.ensures c.start.result c.start.ensures.sound c.start.ensures.result_value (sym c.if-too_long.ensures))
