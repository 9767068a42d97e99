-- By the two tests of refusal 14.
use Rattle.std.proofs.Common.{rules, ◌≡◌, length}
use borrow.Author.Tests.{eq-eqb, ne_eqb, lt-ltb, le-ltb}
use Rattle.rules.specs.Lists.{total}
use Rattle.rules.specs.Refusals.{first_of, open_rows}
use Rattle.manager.proofs.open.judged.Goals as goal

pub returns-in_default : goal.returns-in_default
unfolding first_of open_rows
returns-in_default c = simp (ne_eqb (length c.args.shares.now) 16 (search rules))

pub returns-then-sum-gt64 : goal.returns-then-sum-gt64
unfolding first_of open_rows
returns-then-sum-gt64 c =
    let same : c.in-Ok.all.now ≡ c.args.shares.now = search rules in
    let sixteen : length c.args.shares.now ≡ 16 = search rules in
    let over = lt-ltb 64 (total (λ n. n) c.args.shares.now) (rw (c.sum.ensures, same) at c.if-sum-gt64.true) in
    simp (eq-eqb (length c.args.shares.now) 16 sixteen, over)

pub returns : goal.returns
unfolding first_of open_rows
returns c =
    let same : c.in-Ok.all.now ≡ c.args.shares.now = search rules in
    let sixteen : length c.args.shares.now ≡ 16 = search rules in
    let fits = le-ltb 64 (total (λ n. n) c.args.shares.now) (rw (c.sum.ensures, same) at c.if-sum-gt64.false) in
    (simp (eq-eqb (length c.args.shares.now) 16 sixteen, fits), same)
