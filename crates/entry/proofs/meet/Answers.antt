-- A pair is the same record, and is found, or leaves the question to those behind it.
use Rattle.std.proofs.Common.{◌≡◌, sym, ◌∙◌, true, false, get_or, eqb}
use borrow.Author.Tests.{eq-eqb, ne_eqb}
use Rattle.rules.proofs.Steps.{member-step, member-end, meets-step, meets-end}
use Rattle.entry.proofs.meet.Goals as goal

pub loop-y-preserved : goal.loop-y-preserved
loop-y-preserved c =
    let x = get_or c.args.xs.now c.pairs.x-index 0 in
    let y = get_or c.args.ys.now c.loop-y.y-index 0 in
    let differ : eqb y x ≡ false = ne_eqb y x (λ e. c.if-x-y.false (sym e)) in
    (c.loop-y.invariant.0, c.loop-y.invariant.1 ∙ simp differ at (member-step x c.args.ys.now c.loop-y.y-index c.loop-y-test.true))

pub pairs-preserved : goal.pairs-preserved
pairs-preserved c =
    let miss = c.loop-y.invariant.1 ∙ member-end _ c.args.ys.now c.loop-y.y-index c.loop-y-test.false in
    (c.loop-y.invariant.0, c.pairs.invariant.1 ∙ simp miss at (meets-step c.args.xs.now c.args.ys.now c.pairs.x-index c.pairs-test.true))

pub returns-after-pairs : goal.returns-after-pairs
returns-after-pairs c = c.pairs.invariant.0 ∙ sym (c.pairs.invariant.1 ∙ meets-end c.args.xs.now c.args.ys.now c.pairs.x-index c.pairs-test.false)

pub returns-then-x-y : goal.returns-then-x-y
returns-then-x-y c =
    let x = get_or c.args.xs.now c.pairs.x-index 0 in
    let y = get_or c.args.ys.now c.loop-y.y-index 0 in
    let same : eqb y x ≡ true = eq-eqb y x (sym c.if-x-y.true) in
    let hit = c.loop-y.invariant.1 ∙ simp same at (member-step x c.args.ys.now c.loop-y.y-index c.loop-y-test.true) in
    sym (c.pairs.invariant.1 ∙ simp hit at (meets-step c.args.xs.now c.args.ys.now c.pairs.x-index c.pairs-test.true))
