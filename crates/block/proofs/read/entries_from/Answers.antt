-- After all turns all entries stand in their slots.
use Rattle.std.proofs.Common.{arith, ◌<◌, ◌≡◌}
use Rattle.block.specs.Clauses.{count_in, queue_in}
use Rattle.block.proofs.Loading.{slotted-none, slotted-more, slotted-all, queue-length, queue-at, sound-room}
use Rattle.block.proofs.read.entries_from.Goals as goal

pub loop-i-init : goal.loop-i-init
loop-i-init c = slotted-none _ c.empty-a.ensures

pub bounds-a-i : goal.bounds-a-i
bounds-a-i c = let room = sound-room c.requires.sound_block in omega (arith, room.1, c.requires.n_value)

pub loop-i-preserved : goal.loop-i-preserved
loop-i-preserved c =
    let b = c.args.b.now in
    let i = c.loop-i.i in
    let used : i < count_in b = omega (arith, c.requires.n_value) in
    let room = sound-room c.requires.sound_block in
    slotted-more (queue_in b) c.loop-i.invariant (omega (arith, queue-length b)) (omega (arith, room.1)) (rw (c.row_in.ensures, ← (queue-at b i used)) at c.entry_from.ensures)

pub returns : goal.returns
returns c =
    let b = c.args.b.now in
    let all : c.loop-i.i ≡ c.args.n = omega arith in
    rw all at (slotted-all (queue_in b) c.loop-i.invariant (omega (arith, queue-length b, c.requires.n_value)))
