-- By the two rows, in order.
use Rattle.std.proofs.Common.{arith, ◌≡◌, ◌+◌, sym, ap, ◌∙◌}
use mathlib.Core.Bool.{true}
use borrow.Author.Tests.{lt-ltb, le-ltb}
use Rattle.rules.specs.Table.{Meter as LawMeter, is_tenant, meter_of, most_fuel}
use Rattle.rules.specs.Refusals.{first_of, grant_rows}
use Rattle.manager.specs.State.{view}
use Rattle.manager.proofs.Rows.{own-meter, fuel-fits}
use Rattle.manager.proofs.grant.judged.Goals as goal

pub returns-then-not-is_tenant : goal.returns-then-not-is_tenant
unfolding grant_rows first_of
returns-then-not-is_tenant c = simp (sym c.is_tenant.ensures ∙ c.if-not-is_tenant.true)

pub overflow_sub-m : goal.overflow_sub-m
overflow_sub-m c = fuel-fits c.args.s.now c.requires c.args.who c.meter_of-m.result c.meter_of-m.ensures

pub returns-then-m-amount : goal.returns-then-m-amount
unfolding grant_rows first_of
returns-then-m-amount c =
    let one : is_tenant c.args.who ≡ true = sym c.is_tenant.ensures ∙ c.if-not-is_tenant.false in
    let own = ap (λ (m : LawMeter). m.fuel) (own-meter c.args.s.now c.args.who c.meter_of-m.result c.meter_of-m.ensures one) in
    let fits = fuel-fits c.args.s.now c.requires c.args.who c.meter_of-m.result c.meter_of-m.ensures in
    simp (one, lt-ltb most_fuel ((meter_of (view c.args.s.now) c.args.who).fuel + c.args.amount) (omega (arith, own, fits, c.if-m-amount.true)))

pub returns : goal.returns
unfolding grant_rows first_of
returns c =
    let one : is_tenant c.args.who ≡ true = sym c.is_tenant.ensures ∙ c.if-not-is_tenant.false in
    let is = own-meter c.args.s.now c.args.who c.meter_of-m.result c.meter_of-m.ensures one in
    let own = ap (λ (m : LawMeter). m.fuel) is in
    let fits = fuel-fits c.args.s.now c.requires c.args.who c.meter_of-m.result c.meter_of-m.ensures in
    (simp (one, le-ltb most_fuel ((meter_of (view c.args.s.now) c.args.who).fuel + c.args.amount) (omega (arith, own, fits, c.if-m-amount.false))), is)
