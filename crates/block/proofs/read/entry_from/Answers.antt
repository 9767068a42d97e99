-- Each number from its place; the two lists kept at the front of their arrays.
use Rattle.std.proofs.Common.{◌+◌, get_or, refl}
use Rattle.entry.specs.Entry.{Kept}
use Rattle.block.specs.Clauses.{part}
use Rattle.block.proofs.Reading.{entry-stands}
use Rattle.block.proofs.read.entry_from.Goals as goal

pub returns : goal.returns
returns c =
    let row = c.args.row in
    let p = row.bytes.now in
    let reads : Kept (part p 8 (get_or p 6 0)) c.list.result = rw c.from-nr.ensures at c.list.ensures in
    let writes : Kept (part p (8 + get_or p 6 0) (get_or p 7 0)) c.list-2.result = rw (c.from-nr.ensures, c.from-nw.ensures) at c.list-2.ensures in
    entry-stands p (row.whole, row.few_reads, row.few_writes) refl c.serial.ensures c.mode.ensures refl refl refl refl reads writes
