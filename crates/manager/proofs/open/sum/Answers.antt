use Rattle.std.proofs.Common.{arith, rules, ◌<◌, length, get_or}
use Rattle.rules.proofs.Steps.{total-step, total-end}
use Rattle.manager.proofs.open.sum.Goals as goal

pub loop-share-preserved : goal.loop-share-preserved
loop-share-preserved c =
    let shares = c.args.shares.now in
    let i = c.loop-share.share-index in
    let there : i < length shares = omega (arith, c.loop-share-test.true) in
    let small : get_or shares i 0 < 256 = search rules in
    (omega (arith, c.loop-share.invariant.0, c.from-places.ensures, small), omega (arith, c.loop-share.invariant.1, c.from-places.ensures, total-step (λ n. n) shares i 0 there))

pub returns : goal.returns
returns c =
    let shares = c.args.shares.now in
    let i = c.loop-share.share-index in
    omega (arith, c.loop-share.invariant.1, total-end (λ n. n) shares i (omega (arith, c.loop-share-test.false)))
