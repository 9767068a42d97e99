-- There is one to take at the record of a turn, and the map loses it where none is left.
use Rattle.std.proofs.Common.{rules, arith, ◌<◌, length, get_or}
use Rattle.rules.proofs.Tests.{above_zero}
use Rattle.counters.proofs.Loops.{raised-none, lowered-more, lowered-some}
use Rattle.counters.proofs.Marks.{marks-out, marks-kept}
use Rattle.counters.proofs.lower.Goals as goal
use Rattle.counters.proofs.lower.Goals.{then-counters-k-eq0, else-counters-k-eq0}

pub loop-r-init : goal.loop-r-init
loop-r-init c = (raised-none c.args.counters.now c.args.list.now, c.requires.marks)

pub overflow_sub-counters : goal.overflow_sub-counters
overflow_sub-counters c =
    let i = c.loop-r.r-index in
    let there : i < length c.args.list.now = omega (arith, c.loop-r-test.true) in
    let small : get_or c.args.list.now i 0 < 256 = search rules in
    lowered-some c.args.list.now i there c.loop-r.invariant.0 c.requires.stocked small

pub loop-r-preserved : goal.loop-r-preserved
loop-r-preserved c =
    let i = c.loop-r.r-index in
    let x = get_or c.args.list.now i 0 in
    let there : i < length c.args.list.now = omega (arith, c.loop-r-test.true) in
    let small : x < 256 = search rules in
    let some = lowered-some c.args.list.now i there c.loop-r.invariant.0 c.requires.stocked small in
    let taken = lowered-more c.args.list.now i there c.loop-r.invariant.0 some in
    elim c.if-counters-k-eq0.branch [
      | then-counters-k-eq0 w ↦ (taken, rw w.map-is (marks-out c.loop-r.invariant.1 x some w.if-counters-k-eq0.true w.remove.ensures))
      | else-counters-k-eq0 w ↦ (taken, rw w.map-is (marks-kept c.loop-r.invariant.1 x some (above_zero _ w.if-counters-k-eq0.false)))
    ]
