-- The state, a colon, the tenant, a point and the serial.
use Rattle.std.proofs.Common.{arith}
use Rattle.listing.proofs.Lines.{append-then}
use Rattle.listing.proofs.Texts.{named-text, named-short}
use Rattle.listing.proofs.Line.push_entry.Goals as goal

pub returns-clause-appended : goal.returns-clause-appended
returns-clause-appended c =
    let state = append-then c.push.ensures (append-then c.push-2.ensures c.push_number.ensures) in
    let whole = append-then state (append-then c.push-3.ensures c.push_number-2.ensures) in
    rw (named-text c.args.mode c.args.tenant c.args.serial) (simp (c.word_of.ensures, c.from.ensures, c.from-2.ensures) at whole)

pub returns-clause-serial_len_bound : goal.returns-clause-serial_len_bound
returns-clause-serial_len_bound c = named-short c.args.mode c.args.tenant c.args.serial (omega arith) (omega arith)
