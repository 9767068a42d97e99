-- The entries so far are written.
use Rattle.std.proofs.Common.{map}
use Rattle.entry.specs.Entry.{request}
use Rattle.block.specs.Bytes.{entry_bytes}
use Rattle.block.proofs.Writing.{Rows}
use Rattle.block.proofs.write.put_entries.Given as goal

abbrev pub invariant-loop-i : goal.invariant-loop-i
invariant-loop-i l = Rows entry_bytes 24 640 (map request l.entries) l.fn.b l.i l.b
