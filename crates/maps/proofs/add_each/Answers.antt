use Rattle.std.proofs.Common.{arith, add-one}
use lib.Seq.{take-suc}
use Rattle.maps.proofs.Growth.{grown-none, grown-more}
use Rattle.maps.proofs.add_each.Goals as goal

pub loop-r-init : goal.loop-r-init
loop-r-init c = grown-none c.args.map.now

pub loop-r-preserved : goal.loop-r-preserved
loop-r-preserved c =
    rw (add-one c.loop-r.r-index, take-suc c.args.list.now c.loop-r.r-index 0 (omega (arith, c.loop-r-test.true))) (grown-more c.loop-r.invariant c.put.ensures)
