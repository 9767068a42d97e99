-- Field behind field: what stands at the end is the block of the state's table.
use Rattle.std.proofs.Common.{arith, ◌≡◌, ◌<◌, length, length-take, take, get_or-take}
use Rattle.std.proofs.Math.Seq.{length-take-le}
use Rattle.entry.specs.Entry.{blank}
use Rattle.manager.proofs.Typed.{state-sized}
use Rattle.block.proofs.Encoding.{encoded}
use Rattle.block.proofs.write.state.Goals as goal

pub put_queue-requires-clause-tidy : goal.put_queue-requires-clause-tidy
put_queue-requires-clause-tidy c i there =
    let s = c.args.s in
    let used : i < s.count = omega (arith, there, length-take s.count s.entries) in
    rw (get_or-take s.count s.entries i blank used) (c.requires.sound.tied.neat.tidy i used)

pub returns : goal.returns
returns c =
    let s = c.args.s in
    let z = state-sized s _ c.well_formed.1.0 in
    let n : length (take s.count s.entries) ≡ s.count = length-take-le s.count s.entries (omega (arith, z.slots, c.requires.sound.tied.neat.within)) in
    encoded s z c.requires.sound c.put_tenants.ensures c.put_counters.ensures c.put_counters-2.ensures (rw n at c.put_queue.ensures)
