-- Two bytes, the high one first.
use Rattle.std.proofs.Common.{arith}
use Rattle.block.specs.Clauses.{request_in}
use Rattle.block.proofs.row.Row.serial.Goals as goal

pub returns : goal.returns
unfolding request_in
returns c = omega (arith, c.from_be_bytes.ensures)
