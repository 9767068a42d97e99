-- No head, an unknown tag, or what is wrong with the body: one law of the rows each.
use Rattle.std.proofs.Common.{◌+◌, ◌≤◌, ◌<◌, length, sym, ◌∙◌, arith}
use Rattle.std.proofs.lemmas.Result.{err_from_is_err_and}
use Rattle.events.specs.Events.{next_at}
use Rattle.events.proofs.Rows.{no-head, no-tag, tag-known, no_body, no-fit, body-whole, suited-as}
use Rattle.events.proofs.record_of.Goals as goal

pub returns-then-left-lt3-clause-refused : goal.returns-then-left-lt3-clause-refused
returns-then-left-lt3-clause-refused c = sym (no-head c.args.s.now c.args.at (omega arith))

pub returns-in_err-kind-clause-refused : goal.returns-in_err-kind-clause-refused
returns-in_err-kind-clause-refused c =
    let p = err_from_is_err_and c.from_residual.result c.from_residual.ensures.1 in
    let head : c.args.at + 3 ≤ length c.args.s.now = omega arith in
    rw (p.1, p.2, c.in_err-kind.ensures.0) (sym (no-tag c.args.s.now c.args.at head c.in_err-kind.ensures.1))

pub returns-then-left-len-clause-refused : goal.returns-then-left-len-clause-refused
returns-then-left-len-clause-refused c =
    let a = c.args in
    let head : a.at + 3 ≤ length a.s.now = omega arith in
    let past : length a.s.now < next_at a.s.now a.at = omega arith in
    sym (tag-known a.s.now a.at head c.in_ok-kind.ensures ∙ no_body a.s.now a.at c.in_ok-kind.kind past)

pub returns-then-not-fits-clause-refused : goal.returns-then-not-fits-clause-refused
returns-then-not-fits-clause-refused c =
    let a = c.args in
    let head : a.at + 3 ≤ length a.s.now = omega arith in
    let inside : next_at a.s.now a.at ≤ length a.s.now = omega arith in
    sym (tag-known a.s.now a.at head c.in_ok-kind.ensures ∙ no-fit a.s.now a.at c.in_ok-kind.kind inside (suited-as a.s.now a.at c.in_ok-kind.kind (omega arith) inside c.fits.ensures ∙ c.if-not-fits.true))

pub returns-clause-refused : goal.returns-clause-refused
returns-clause-refused c =
    let a = c.args in
    let head : a.at + 3 ≤ length a.s.now = omega arith in
    let inside : next_at a.s.now a.at ≤ length a.s.now = omega arith in
    sym (tag-known a.s.now a.at head c.in_ok-kind.ensures ∙ body-whole a.s.now a.at c.in_ok-kind.kind inside (suited-as a.s.now a.at c.in_ok-kind.kind (omega arith) inside c.fits.ensures ∙ c.if-not-fits.false))
