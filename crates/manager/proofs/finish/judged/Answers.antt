-- Where no Free entry of that name was found, it is absent or not Free.
use Rattle.std.proofs.Common.{rules, ◌≡◌, sym, ap, ◌∙◌, subst, true, false, not, ◌||◌, eq-eqb, ne_eqb}
use Rattle.rules.specs.Request.{is_free}
use Rattle.rules.specs.Table.{Meter, meter_of}
use Rattle.rules.specs.Refusals.{first_of, is_dry, is_absent, entry_of, finish_rows}
use Rattle.rules.proofs.Refusals.{stranger}
use Rattle.rules.proofs.Tests.{and-false}
use Rattle.manager.specs.State.{view}
use Rattle.manager.specs.Deeds.{FoundAt}
use Rattle.manager.proofs.Rows.{own-meter}
use Rattle.manager.proofs.Judging.{present, named-at}
use Rattle.manager.proofs.finish.judged.Goals as goal
use Rattle.manager.proofs.finish.judged.Goals.{After-meter_of-dry, In_default, in_default-via-in-Some+else-eq, in_default-via-in-None}

fuel : (c : After-meter_of-dry) → c.meter_of-dry.result.fuel ≡ (meter_of (view c.args.s.now) c.args.who).fuel
fuel c = ap (λ (m : Meter). m.fuel) (own-meter c.args.s.now c.args.who c.meter_of-dry.result c.meter_of-dry.ensures (sym c.if-not-is_tenant.ensures))

unfree : (c : In_default) → let q = (view c.args.s.now).queue in FoundAt q c.args.who c.args.serial c.in_default.place × ((is_absent c.args.who c.args.serial q || not (is_free (entry_of c.args.who c.args.serial q).mode)) ≡ true)
unfree c = elim c.in_default.branch [
  | in_default-via-in-Some+else-eq w ↦
      let n = named-at c.requires (search rules) c.args.who c.args.serial w.in-Some.ensures in
      (rw w.place-is w.in-Some.ensures, simp (n.there, sym n.free ∙ sym w.eq.ensures ∙ w.if-eq.false))
  | in_default-via-in-None w ↦ (rw (w.place-is ∙ w.in_default.is) w.in_default.ensures, simp w.in_default.ensures)
]

pub returns-then-not-is_tenant : goal.returns-then-not-is_tenant
unfolding finish_rows
returns-then-not-is_tenant c = stranger c.args.who _ (sym c.if-not-is_tenant.ensures)

pub returns-in-Some : goal.returns-in-Some
unfolding finish_rows first_of
returns-in-Some c =
    let n = named-at c.requires (search rules) c.args.who c.args.serial c.in-Some.ensures in
    (simp (sym c.if-not-is_tenant.ensures, n.there, sym n.free ∙ sym c.eq.ensures ∙ c.if-eq.true, and-false), n.place)

pub returns-in_default : goal.returns-in_default
unfolding finish_rows first_of
returns-in_default c =
    let at = goal.at.returns-in_default c in
    let dry : is_dry (view c.args.s.now) c.args.who ≡ true = eq-eqb _ _ (sym (fuel at.After-meter_of-dry) ∙ c.if-dry.true) in
    simp (sym c.if-not-is_tenant.ensures, dry, (unfree at.In_default).1)

pub returns-in-Some-2 : goal.returns-in-Some-2
unfolding finish_rows first_of
returns-in-Some-2 c =
    let at = goal.at.returns-in-Some-2 c in
    let q = (view c.args.s.now).queue in
    let wet : is_dry (view c.args.s.now) c.args.who ≡ false = ne_eqb _ _ (λ e. c.if-dry.false (fuel at.After-meter_of-dry ∙ e)) in
    let there : is_absent c.args.who c.args.serial q ≡ false = present q c.args.who c.args.serial (subst (FoundAt q c.args.who c.args.serial) c.in-Some-2.is (unfree at.In_default).0) in
    simp (sym c.if-not-is_tenant.ensures, wet, there, simp there at (unfree at.In_default).1)

pub returns-in-None : goal.returns-in-None
unfolding finish_rows first_of
returns-in-None c =
    let at = goal.at.returns-in-None c in
    let q = (view c.args.s.now).queue in
    let wet : is_dry (view c.args.s.now) c.args.who ≡ false = ne_eqb _ _ (λ e. c.if-dry.false (fuel at.After-meter_of-dry ∙ e)) in
    let none : is_absent c.args.who c.args.serial q ≡ true = subst (FoundAt q c.args.who c.args.serial) c.in-None.is (unfree at.In_default).0 in
    simp (sym c.if-not-is_tenant.ensures, wet, none)
