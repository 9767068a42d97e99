-- The reads lie from 8 on.
use Rattle.block.proofs.Passing.{reads-cut}
use Rattle.block.proofs.row.Row.reads.Goals as goal

pub returns-clause-records : goal.returns-clause-records
returns-clause-records c = rw c.mid.ensures (reads-cut c.args.self.bytes.now)
