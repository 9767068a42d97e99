-- By the two rows, in order.
use Rattle.std.proofs.Common.{◌≡◌, sym, ap, ◌∙◌}
use mathlib.Core.Bool.{true}
use borrow.Author.Tests.{eq-eqb, ne_eqb}
use Rattle.rules.specs.Table.{Meter as LawMeter, is_tenant}
use Rattle.rules.specs.Refusals.{first_of, scan_rows}
use Rattle.manager.proofs.Rows.{own-meter}
use Rattle.manager.proofs.meters.payer.Goals as goal

pub returns-then-not-is_tenant : goal.returns-then-not-is_tenant
unfolding scan_rows first_of
returns-then-not-is_tenant c = simp (sym c.is_tenant.ensures ∙ c.if-not-is_tenant.true)

pub returns-then-m-eq0 : goal.returns-then-m-eq0
unfolding scan_rows first_of
returns-then-m-eq0 c =
    let one : is_tenant c.args.who ≡ true = sym c.is_tenant.ensures ∙ c.if-not-is_tenant.false in
    let own = own-meter c.args.s.now c.args.who c.meter_of-m.result c.meter_of-m.ensures one in
    simp (one, ← (ap (λ (m : LawMeter). m.fuel) own), eq-eqb _ _ c.if-m-eq0.true)

pub returns : goal.returns
unfolding scan_rows first_of
returns c =
    let one : is_tenant c.args.who ≡ true = sym c.is_tenant.ensures ∙ c.if-not-is_tenant.false in
    let own = own-meter c.args.s.now c.args.who c.meter_of-m.result c.meter_of-m.ensures one in
    (simp (one, ← (ap (λ (m : LawMeter). m.fuel) own), ne_eqb _ _ c.if-m-eq0.false), own)
