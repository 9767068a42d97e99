-- Field by field, with a space before each but the first.
use Rattle.std.proofs.Common.{ap, length, arith}
use Rattle.listing.specs.Listing.{line_of}
use Rattle.listing.proofs.Decimal.{number_short}
use Rattle.listing.proofs.Lines.{append-then, written-first}
use Rattle.listing.proofs.Texts.{name_short}
use Rattle.listing.proofs.line_of.Goals as goal

pub returns : goal.returns
unfolding line_of
returns c =
    let called = append-then c.push_number.ensures (append-then c.push.ensures c.push-2.ensures) in
    let answered = append-then called (append-then c.push-3.ensures c.push_answer.ensures.appended) in
    let paid = append-then answered (append-then c.push-4.ensures c.push_number-2.ensures) in
    let whole = append-then paid (append-then c.push-5.ensures c.push_left.ensures.appended) in
    let line = append-then whole c.push-6.ensures in
    written-first c.new-line.ensures (simp c.name_of.ensures at line) (omega (arith, number_short c.args.number (omega arith), ap length c.name_of.ensures, name_short c.args.name, number_short c.args.burnt (omega arith)))
