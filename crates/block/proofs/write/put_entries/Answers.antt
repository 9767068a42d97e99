-- After all turns all entries are written.
use Rattle.std.proofs.Common.{arith, ◌≡◌, ◌<◌, length, length-take, get_or, map, refl, ap, sym}
use Rattle.std.proofs.Math.ListN.{length-map, get_or-map}
use Rattle.rules.specs.Request.{nobody}
use Rattle.entry.specs.Entry.{request, blank}
use Rattle.block.specs.Bytes.{entry_bytes}
use Rattle.block.proofs.Reading.{entry_length}
use Rattle.block.proofs.Writing.{rows_none, rows_more, rows-all}
use Rattle.block.proofs.write.put_entries.Goals as goal

pub loop-i-init : goal.loop-i-init
loop-i-init c = rows_none _ _ _ _ _

pub loop-i-preserved : goal.loop-i-preserved
loop-i-preserved c =
    let es = c.args.entries.now in
    let i = c.loop-i.i in
    let there : i < length (map request es) = omega (arith, length-map es request) in
    let e = get_or es i blank in
    let fit = c.requires.tidy i c.loop-i-test.true in
    let size : length (entry_bytes (request e)) ≡ 24 = entry_length (request e) (omega (arith, length-take e.nr e.reads, fit.few-reads)) (omega (arith, length-take e.nw e.writes, fit.few-writes)) in
    rows_more _ _ _ _ c.loop-i.invariant _ refl nobody there (ap entry_bytes (sym (get_or-map request es i blank))) size c.put_entry.auto.b (rw size c.put_entry.ensures)

pub returns : goal.returns
returns c = rows-all _ _ _ _ c.loop-i.invariant _ (length-map c.args.entries.now request) c.loop-i-test.false c.loop-i.auto.i-end
