use Rattle.std.proofs.Common.{rules, ◌≡◌, sym, ap, ◌∙◌, not, Err}
use Rattle.rules.specs.Numbers.{number_of}
use Rattle.rules.specs.Refusals.{first_of, cancel_rows}
use Rattle.manager.specs.State.{view}
use Rattle.manager.proofs.Judging.{Named, absent, named, fuelled, unpaid}
use Rattle.manager.proofs.cancel.judged.Goals as goal
use Rattle.manager.proofs.cancel.judged.Goals.{In_ok-at}

told : (c : In_ok-at) → Named c.args.s.now c.args.who c.args.serial c.in_ok-at.at
told c = named c.requires (search rules) c.args.who c.args.serial c.place_of.result c.place_of.ensures c.ok_or.ensures.value c.in_ok-at.was

pub returns-in_err-payer : goal.returns-in_err-payer
unfolding cancel_rows
returns-in_err-payer c =
    let e : c.from_residual.result ≡ Err c.in_err-payer.field-0.0 = search rules in
    rw e (unpaid (view c.args.s.now) c.args.who _ _ c.in_err-payer.ensures)

pub returns-in_err-at : goal.returns-in_err-at
unfolding cancel_rows first_of
returns-in_err-at c =
    let e : c.from_residual-in_err-at.result ≡ Err c.in_err-at.field-0.0 = search rules in
    let f = fuelled (view c.args.s.now) c.args.who c.in_ok-payer.ensures.0 in
    let a = absent (view c.args.s.now).queue c.args.who c.args.serial c.place_of.result c.place_of.ensures c.ok_or.ensures.value c.in_err-at.was in
    rw e (simp (f.0, f.1, a.0) (ap number_of a.1))

pub returns-then-ne : goal.returns-then-ne
unfolding cancel_rows first_of
returns-then-ne c =
    let f = fuelled (view c.args.s.now) c.args.who c.in_ok-payer.ensures.0 in
    let n = told (goal.at.returns-then-ne c).In_ok-at in
    simp (f.0, f.1, n.there, sym (ap not n.blocked) ∙ sym c.ne.ensures ∙ c.if-ne.true)

pub returns : goal.returns
unfolding cancel_rows first_of
returns c =
    let f = fuelled (view c.args.s.now) c.args.who c.in_ok-payer.ensures.0 in
    let n = told (goal.at.returns c).In_ok-at in
    (simp (f.0, f.1, n.there, sym (ap not n.blocked) ∙ sym c.ne.ensures ∙ c.if-ne.false), n.place)
