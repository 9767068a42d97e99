use Rattle.std.proofs.Common.{rules, ◌≡◌, sym, ap, ◌∙◌, Err, eq-eqb, ne_eqb}
use Rattle.rules.specs.Numbers.{number_of}
use Rattle.rules.specs.Request.{Request}
use Rattle.rules.specs.Refusals.{first_of, deliver_rows}
use Rattle.rules.proofs.Refusals.{stranger}
use Rattle.manager.specs.State.{view}
use Rattle.manager.proofs.Judging.{Named, absent, named}
use Rattle.manager.proofs.deliver.judged.Goals as goal
use Rattle.manager.proofs.deliver.judged.Goals.{In_ok-at}

told : (c : In_ok-at) → Named c.args.s.now c.args.who c.args.serial c.in_ok-at.at
told c = named c.requires (search rules) c.args.who c.args.serial c.place_of.result c.place_of.ensures c.ok_or.ensures.value c.in_ok-at.was

pub returns-then-not-is_tenant : goal.returns-then-not-is_tenant
unfolding deliver_rows
returns-then-not-is_tenant c = stranger c.args.who _ (sym c.if-not-is_tenant.ensures)

pub returns-in_err-at : goal.returns-in_err-at
unfolding deliver_rows first_of
returns-in_err-at c =
    let e : c.from_residual.result ≡ Err c.in_err-at.field-0.0 = search rules in
    let a = absent (view c.args.s.now).queue c.args.who c.args.serial c.place_of.result c.place_of.ensures c.ok_or.ensures.value c.in_err-at.was in
    rw e (simp (sym c.if-not-is_tenant.ensures, a.0) (ap number_of a.1))

pub returns-then-s-at-eq0 : goal.returns-then-s-at-eq0
unfolding deliver_rows first_of
returns-then-s-at-eq0 c =
    let n = told (goal.at.returns-then-s-at-eq0 c).In_ok-at in
    simp (sym c.if-not-is_tenant.ensures, n.there, eq-eqb _ _ (ap (λ (e : Request). e.due) (sym n.entry) ∙ c.if-s-at-eq0.true))

pub returns : goal.returns
unfolding deliver_rows first_of
returns c =
    let n = told (goal.at.returns c).In_ok-at in
    (simp (sym c.if-not-is_tenant.ensures, n.there, ne_eqb _ _ (λ e. c.if-s-at-eq0.false (ap (λ (e : Request). e.due) n.entry ∙ e))), n.place)
