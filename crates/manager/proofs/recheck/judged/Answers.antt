use Rattle.std.proofs.Common.{rules, ◌≡◌, ◌+◌, ◌≤◌, ◌<◌, ℕ, sym, ap, ◌∙◌, not, Err, arith, lt-ltb, le-ltb}
use Rattle.rules.specs.Numbers.{number_of}
use Rattle.rules.specs.Request.{size}
use Rattle.rules.specs.Table.{Meter, meter_of}
use Rattle.rules.specs.Refusals.{first_of, entry_of, recheck_rows}
use Rattle.manager.specs.State.{view}
use Rattle.manager.proofs.Judging.{Named, absent, named, fuelled, unpaid}
use Rattle.manager.proofs.recheck.judged.Goals as goal
use Rattle.manager.proofs.recheck.judged.Goals.{In_ok-at}

told : (c : In_ok-at) → Named c.args.s.now c.args.who c.args.serial c.in_ok-at.at
told c = named c.requires (search rules) c.args.who c.args.serial c.place_of.result c.place_of.ensures c.ok_or.ensures.value c.in_ok-at.was

pub returns-in_err-m : goal.returns-in_err-m
unfolding recheck_rows
returns-in_err-m c =
    let e : c.from_residual.result ≡ Err c.in_err-m.field-0.0 = search rules in
    rw e (unpaid (view c.args.s.now) c.args.who _ _ c.in_err-m.ensures)

pub returns-in_err-at : goal.returns-in_err-at
unfolding recheck_rows first_of
returns-in_err-at c =
    let e : c.from_residual-in_err-at.result ≡ Err c.in_err-at.field-0.0 = search rules in
    let f = fuelled (view c.args.s.now) c.args.who c.in_ok-m.ensures.0 in
    let a = absent (view c.args.s.now).queue c.args.who c.args.serial c.place_of.result c.place_of.ensures c.ok_or.ensures.value c.in_err-at.was in
    rw e (simp (f.0, f.1, a.0) (ap number_of a.1))

pub returns-then-ne : goal.returns-then-ne
unfolding recheck_rows first_of
returns-then-ne c =
    let f = fuelled (view c.args.s.now) c.args.who c.in_ok-m.ensures.0 in
    let n = told (goal.at.returns-then-ne c).In_ok-at in
    simp (f.0, f.1, n.there, sym (ap not n.blocked) ∙ sym c.ne.ensures ∙ c.if-ne.true)

pub returns-then-m-price : goal.returns-then-m-price
unfolding recheck_rows first_of
returns-then-m-price c =
    let t = view c.args.s.now in
    let f = fuelled t c.args.who c.in_ok-m.ensures.0 in
    let n = told (goal.at.returns-then-m-price c).In_ok-at in
    let dear : (meter_of t c.args.who).fuel < 1 + size (entry_of c.args.who c.args.serial t.queue) = omega (arith, ap (λ (m : Meter). m.fuel) c.in_ok-m.ensures.1, c.size.ensures.value ∙ ap size n.entry, c.if-m-price.true) in
    simp (f.0, f.1, n.there, sym (ap not n.blocked) ∙ sym c.ne.ensures ∙ c.if-ne.false, lt-ltb _ _ dear)

pub returns : goal.returns
unfolding recheck_rows first_of
returns c =
    let t = view c.args.s.now in
    let f = fuelled t c.args.who c.in_ok-m.ensures.0 in
    let n = told (goal.at.returns c).In_ok-at in
    let sized = c.size.ensures.value ∙ ap size n.entry in
    let paid : 1 + size (entry_of c.args.who c.args.serial t.queue) ≤ (meter_of t c.args.who).fuel = omega (arith, ap (λ (m : Meter). m.fuel) c.in_ok-m.ensures.1, sized, c.if-m-price.false) in
    (simp (f.0, f.1, n.there, sym (ap not n.blocked) ∙ sym c.ne.ensures ∙ c.if-ne.false, le-ltb _ _ paid), (n.place, ap (λ (k : ℕ). 1 + k) sized))
