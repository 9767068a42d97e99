-- The word of a refusal with its number, and an entry with an @ and the record. The other answers need none.
use Rattle.std.proofs.Common.{arith}
use Rattle.listing.proofs.Lines.{append-then}
use Rattle.listing.proofs.Texts.{refused-text, refused-short, clash-text, clash-short}
use Rattle.listing.proofs.Line.push_answer.Goals as goal

pub returns-in-Refused-clause-appended : goal.returns-in-Refused-clause-appended
returns-in-Refused-clause-appended c =
    let whole = append-then c.push-in-Refused.ensures c.push_number.ensures in
    rw (c.in-Refused.is, refused-text c.in-Refused.number) (simp c.from.ensures at whole)

pub returns-in-Refused-clause-answer_len_bound : goal.returns-in-Refused-clause-answer_len_bound
returns-in-Refused-clause-answer_len_bound c =
    rw c.in-Refused.is (omega (arith, refused-short c.in-Refused.number (omega arith)))

pub returns-in-BlockedOn-clause-appended : goal.returns-in-BlockedOn-clause-appended
returns-in-BlockedOn-clause-appended c =
    let b = c.in-BlockedOn in
    let whole = append-then c.push_entry-in-BlockedOn.ensures.appended (append-then c.push-in-BlockedOn.ensures c.push_number-in-BlockedOn.ensures) in
    rw (b.is, clash-text b.tenant b.serial b.on) (simp c.from-in-BlockedOn.ensures at whole)

pub returns-in-BlockedOn-clause-answer_len_bound : goal.returns-in-BlockedOn-clause-answer_len_bound
returns-in-BlockedOn-clause-answer_len_bound c =
    let b = c.in-BlockedOn in
    rw b.is (clash-short b.tenant b.serial b.on (omega arith) (omega arith) (omega arith))
