-- A sound block has room for its entries, and each has at most 8 reads and 8 writes.
use Rattle.std.proofs.Common.{arith}
use Rattle.block.proofs.Loading.{sound-room, row_in}
use Rattle.block.proofs.read.row_in.Goals as goal

pub row_at-requires : goal.row_at-requires
row_at-requires c = let room = sound-room c.requires.sound_block in omega (arith, room.1, c.requires.used)

pub invariant_of-result : goal.invariant_of-result
invariant_of-result c = let row = row_in c.requires.sound_block c.args.i c.requires.used in record {
  whole = rw c.row_at.ensures row.size;
  few_reads = rw c.row_at.ensures row.few-reads;
  few_writes = rw c.row_at.ensures row.few-writes;
}
