-- What is wrong with the record by itself, 23, or nothing.
use Rattle.std.proofs.Common.{sym, ◌∙◌}
use Rattle.std.proofs.lemmas.Result.{err_from_is_err_and}
use Rattle.events.proofs.Answers.{broken-rows, whole-rows}
use Rattle.events.proofs.event_at.Goals as goal

pub returns-in_err-kind-clause-refused : goal.returns-in_err-kind-clause-refused
returns-in_err-kind-clause-refused c =
    let p = err_from_is_err_and c.from_residual.result c.from_residual.ensures.1 in
    rw (p.1, p.2) (broken-rows c.args.s.now c.args.at c.args.first c.in_err-kind.field-0.0 c.in_err-kind.ensures.refused)

pub returns-then-misplaced-clause-refused : goal.returns-then-misplaced-clause-refused
returns-then-misplaced-clause-refused c =
    whole-rows c.args.s.now c.args.at c.args.first c.in_ok-kind.ensures.refused c.in_ok-kind.ensures.whole (sym c.misplaced.ensures ∙ c.if-misplaced.true)

pub returns-clause-refused : goal.returns-clause-refused
returns-clause-refused c =
    whole-rows c.args.s.now c.args.at c.args.first c.in_ok-kind.ensures.refused c.in_ok-kind.ensures.whole (sym c.misplaced.ensures ∙ c.if-misplaced.false)
