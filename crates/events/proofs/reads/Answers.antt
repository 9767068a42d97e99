-- Behind the head, as many bytes as it says, where the record has lists.
use Rattle.std.proofs.Common.{sym}
use native.Mathlib.Nat.{add-sub_cancel_left}
use Rattle.events.proofs.Bodies.{has-lists}
use Rattle.events.proofs.Readers.{its_reads}
use Rattle.events.proofs.reads.Goals as goal

pub returns-in-Ok-clause-result_value : goal.returns-in-Ok-clause-result_value
returns-in-Ok-clause-result_value c =
    let told = c.in-Ok in
    simp (c.from.ensures, told.ensures.body, add-sub_cancel_left) (its_reads told.ensures.whole (sym told.ensures.refused) (has-lists c.bytes_of.ensures c.if-is_none.ensures))
