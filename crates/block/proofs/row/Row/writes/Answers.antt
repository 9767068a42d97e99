-- The writes lie behind the reads.
use Rattle.block.proofs.Passing.{writes-cut}
use Rattle.block.proofs.row.Row.writes.Goals as goal

pub returns-clause-records : goal.returns-clause-records
returns-clause-records c = rw (c.end.ensures, c.mid.ensures) (writes-cut c.args.self.bytes.now)
