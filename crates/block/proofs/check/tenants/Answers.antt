-- A meter with too much fuel is the way out; after all turns the sum tells.
use Rattle.std.proofs.Common.{arith, ap, ◌∙◌}
use Rattle.rules.specs.Table.{Meter}
use Rattle.block.proofs.Telling.{tells-no}
use Rattle.block.proofs.Passing.{metered-none, metered-more, metered-tells, metered-over}
use Rattle.block.proofs.check.tenants.Goals as goal

pub returns-then-m-gt1000000000 : goal.returns-then-m-gt1000000000
returns-then-m-gt1000000000 c =
    let fuel = ap (λ (m : Meter). m.fuel) c.meter_at-m.ensures in
    tells-no (metered-over c.args.b.now c.loop-i.i (omega arith) (omega (arith, c.if-m-gt1000000000.true, fuel)))

pub loop-i-init : goal.loop-i-init
loop-i-init c = metered-none _

pub loop-i-preserved : goal.loop-i-preserved
loop-i-preserved c =
    let fuel = ap (λ (m : Meter). m.fuel) c.meter_at-m.ensures in
    let share = ap (λ (m : Meter). m.share) c.meter_at-m.ensures in
    metered-more c.args.b.now c.loop-i.invariant _ (c.from-places.ensures ∙ share) (omega arith) (omega arith) (omega (arith, c.if-m-gt1000000000.false, fuel))

pub returns : goal.returns
returns c = metered-tells _ c.loop-i.invariant c.loop-i-test.false
