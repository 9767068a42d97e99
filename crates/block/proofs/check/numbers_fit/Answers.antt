-- The numbers are within their bounds; what the state asks for is told last.
use Rattle.std.proofs.Common.{get_or}
use Rattle.rules.proofs.Meters.{tenant-test}
use Rattle.block.proofs.Telling.{part-last}
use Rattle.block.proofs.Passing.{row-suits}
use Rattle.block.proofs.check.numbers_fit.Goals as goal

pub returns : goal.returns
returns c =
    let row = c.args.row in
    let p = row.bytes.now in
    let last = row-suits p row.whole row.few_reads row.few_writes in
    part-last
    (rw c.mode.ensures at c.suits.ensures)
    (λ a. record {
      tenant = tenant-test (get_or p 0 0) c.if-p-lt1.false c.if-p-gt16.false;
      awaited = c.if-p-gt15.false;
      due = c.if-p.false;
      state = c.if-p-gt2.false;
      suits = last.to a;
    })
    (λ f. last.from f.suits)
