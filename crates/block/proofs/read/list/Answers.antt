-- The first n places are filled one by one.
use Rattle.std.proofs.Common.{arith}
use Rattle.block.proofs.Places.{fill_start, fill_on, fill-past, fill_done}
use Rattle.block.proofs.Reading.{filled-kept}
use Rattle.block.proofs.read.list.Goals as goal
use Rattle.block.proofs.read.list.Goals.{then-k-n, else-k-n}

pub loop-k-init : goal.loop-k-init
loop-k-init c = fill_start _ 0 8 c.args.n

pub loop-k-preserved : goal.loop-k-preserved
loop-k-preserved c = elim c.if-k-n.branch [
  | then-k-n w ↦ fill_on _ 0 c.loop-k.invariant w.if-k-n.true (omega arith) w.out-is
  | else-k-n w ↦ fill-past _ 0 c.loop-k.invariant w.if-k-n.false w.out-is
]

pub returns : goal.returns
returns c = filled-kept c.args.p.now c.args.at c.args.n c.requires.n_bound c.requires.at_in_bounds (fill_done _ 0 c.loop-k.invariant (omega (arith, c.loop-k-test.false)))
