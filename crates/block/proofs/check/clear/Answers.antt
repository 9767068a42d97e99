-- A Blocked entry is not asked; of another the lists are lent, and the verdict looks at the lists alone.
use Rattle.std.proofs.Common.{ap, ◌∙◌, not}
use Rattle.block.specs.Clauses.{request_in}
use Rattle.block.proofs.Passing.{row-tested, figure2-lists}
use Rattle.block.proofs.check.clear.Goals as goal

pub returns-then-eq : goal.returns-then-eq
returns-then-eq c = rw (row-tested c.args.row.bytes.now c.mode.ensures c.eq.ensures c.if-eq.true)

pub returns : goal.returns
returns c =
    let p = c.args.row.bytes.now in
    rw (row-tested p c.mode.ensures c.eq.ensures c.if-eq.false) (ap not (c.clash.ensures ∙ figure2-lists _ _ (request_in p) c.reads.ensures.records c.writes.ensures.records))
