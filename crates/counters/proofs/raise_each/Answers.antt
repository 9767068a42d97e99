use Rattle.std.proofs.Common.{rules, arith, ◌<◌, get_or, length-take}
use Rattle.counters.proofs.Loops.{raised-none, raised-more, raised-fits}
use Rattle.counters.proofs.raise_each.Goals as goal

pub loop-r-init : goal.loop-r-init
loop-r-init c = raised-none c.args.counters.now c.args.list.now

pub overflow_add-counters : goal.overflow_add-counters
overflow_add-counters c =
    let r = get_or c.args.list.now c.loop-r.r-index 0 in
    let small : r < 256 = search rules in
    omega (arith, raised-fits c.loop-r.invariant c.requires.under r small, length-take c.loop-r.r-index c.args.list.now, c.requires.list_len_bound)

pub loop-r-preserved : goal.loop-r-preserved
loop-r-preserved c =
    raised-more c.args.list.now c.loop-r.r-index (omega (arith, c.loop-r-test.true)) c.loop-r.invariant (search rules)
