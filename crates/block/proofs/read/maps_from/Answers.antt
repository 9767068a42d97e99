-- After all turns the maps have the records of all entries.
use Rattle.std.proofs.Common.{arith, ◌<◌}
use Rattle.block.specs.Clauses.{count_in, queue_in}
use Rattle.block.proofs.Loading.{maps_none, maps-more, maps-all, queue-length, queue-at}
use Rattle.block.proofs.read.maps_from.Goals as goal

pub loop-i-init : goal.loop-i-init
loop-i-init c = maps_none c.none-maps.ensures.0 c.none-maps.ensures.1

pub loop-i-preserved : goal.loop-i-preserved
loop-i-preserved c =
    let b = c.args.b.now in
    let i = c.loop-i.i in
    let used : i < count_in b = omega (arith, c.requires.n_value) in
    let written = rw (c.writes.ensures.records, c.row_in-row.ensures, ← (queue-at b i used)) at c.add.ensures.written in
    let read = rw (c.reads.ensures.records, c.row_in-row.ensures, ← (queue-at b i used)) at c.add.ensures.read in
    maps-more (queue_in b) i (omega (arith, queue-length b)) c.loop-i.invariant written read

pub returns : goal.returns
returns c = maps-all (queue_in c.args.b.now) {i = c.loop-i.i} c.loop-i.invariant (omega (arith, queue-length c.args.b.now, c.requires.n_value))
