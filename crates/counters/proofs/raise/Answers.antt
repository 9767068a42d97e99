use Rattle.std.proofs.Common.{rules, arith, ◌<◌, length, get_or, length-take, add-one}
use lib.Seq.{take-suc}
use Rattle.maps.proofs.Growth.{grown-none, grown-more}
use Rattle.counters.proofs.Loops.{raised-none, raised-more, raised-fits}
use Rattle.counters.proofs.raise.Goals as goal

pub loop-r-init : goal.loop-r-init
loop-r-init c = (raised-none c.args.counters.now c.args.list.now, grown-none c.args.map.now)

pub overflow_add-counters : goal.overflow_add-counters
overflow_add-counters c =
    let r = get_or c.args.list.now c.loop-r.r-index 0 in
    let small : r < 256 = search rules in
    omega (arith, raised-fits c.loop-r.invariant.0 c.requires.under r small, length-take c.loop-r.r-index c.args.list.now, c.requires.list_len_bound)

pub loop-r-preserved : goal.loop-r-preserved
loop-r-preserved c =
    let there : c.loop-r.r-index < length c.args.list.now = omega (arith, c.loop-r-test.true) in (
      raised-more c.args.list.now c.loop-r.r-index there c.loop-r.invariant.0 (search rules),
      rw (add-one c.loop-r.r-index, take-suc c.args.list.now c.loop-r.r-index 0 there) (grown-more c.loop-r.invariant.1 c.put.ensures),
    )
