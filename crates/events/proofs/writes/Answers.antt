-- Behind the reads, to the end of the body, where the record has lists.
use Rattle.std.proofs.Common.{◌+◌, sym, ◌∙◌, arith}
use Rattle.std.proofs.lemmas.List.{take_rest}
use Rattle.events.proofs.Bodies.{has-lists}
use Rattle.events.proofs.Readers.{its_writes, writes-from}
use Rattle.events.proofs.writes.Goals as goal

pub returns-in-Ok-clause-result_value : goal.returns-in-Ok-clause-result_value
returns-in-Ok-clause-result_value c =
    let told = c.in-Ok in
    take_rest told.body.now (3 + c.from.result) ∙ simp (c.from.ensures, told.ensures.body) (its_writes told.ensures.whole (sym told.ensures.refused) (has-lists c.bytes_of.ensures c.if-is_none.ensures))

pub returns-in-Ok-clause-ref_ptr_value : goal.returns-in-Ok-clause-ref_ptr_value
returns-in-Ok-clause-ref_ptr_value c =
    let told = c.in-Ok in
    let reads = rw told.ensures.body at c.from.ensures in
    let from = writes-from told.ensures.whole (sym told.ensures.refused) (has-lists c.bytes_of.ensures c.if-is_none.ensures) in
    (told.ensures.place.0, omega (arith, told.ensures.place.1, reads, from))
