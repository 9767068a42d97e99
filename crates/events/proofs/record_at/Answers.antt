-- The end, what a whole record is read as, or a refusal: one law of `record_at` each.
use Rattle.std.proofs.Common.{sym, ◌∙◌, ap}
use Rattle.events.specs.declared.Next.{Next}
use Rattle.events.proofs.Answers.{at-end, at-refusal, at-whole}
use Rattle.events.proofs.record_at.Goals as goal

pub returns-then-s-at : goal.returns-then-s-at
returns-then-s-at c = sym (at-end c.args.s.now c.args.at c.args.first c.if-s-at.true)

pub returns-in-Ok : goal.returns-in-Ok
returns-in-Ok c =
    c.in-Ok.ensures.read ∙ sym (at-whole c.args.s.now c.args.at c.args.first c.if-s-at.false c.in-Ok.ensures.refused)

pub returns-in-Err : goal.returns-in-Err
returns-in-Err c =
    ap Next.Refused c.number.ensures ∙ sym (at-refusal c.args.s.now c.args.at c.args.first c.if-s-at.false c.in-Err.why c.in-Err.ensures.refused)
