-- By the rows, in order.
use Rattle.std.proofs.Common.{rules, ◌≡◌, refl, sym, ap, ◌∙◌, ℕ, ◌+◌, ◌*◌, true, false, ◌&&◌, ◌||◌, List, length, Err}
use lib.Dec.{ltb, leb}
use borrow.Author.Tests.{lt-ltb, le-ltb, le-leb, lt-leb}
use Rattle.rules.specs.Records.{rising}
use Rattle.rules.specs.Request.{Request, requested, reduced, size}
use Rattle.rules.specs.Table.{Meter as LawMeter, Table, is_tenant, meter_of, places_of}
use Rattle.rules.specs.Prices.{clause9, admission}
use Rattle.rules.specs.Refusals.{first_of, is_dry, begin_rows}
use Rattle.rules.proofs.Prices.{admission-price}
use Rattle.manager.specs.State.{view}
use Rattle.manager.proofs.Judging.{fuelled, unpaid}
use Rattle.manager.proofs.begin.judged.Goals as goal
use Rattle.manager.proofs.begin.judged.Goals.{After-made-e, After-lists_rise, After-places, After-price, then-too_many-via-then-too_many, then-too_many-via-else-too_many+then-too_many-2}

-- ---- what is passed once the entry is made
record Passed (t : Table) (who : ℕ) (reads writes : List ℕ) : Type 0 where
  tenant : is_tenant who ≡ true
  wet : is_dry t who ≡ false
  few : (ltb 8 (length reads) || ltb 8 (length writes)) ≡ false

passed : (c : After-made-e) → Passed (view c.args.s.now) c.args.who c.args.reads.now c.args.writes.now
passed c =
    let f = fuelled (view c.args.s.now) c.args.who c.in_ok-m.ensures.0 in
    record {
      tenant = f.0;
      wet = f.1;
      few = rw (sym c.too_many.ensures ∙ c.if-too_many.false, sym c.too_many-else-too_many.ensures ∙ c.if-too_many-2.false) refl;
    }

rises : (c : After-lists_rise) → c.lists_rise.result ≡ (let e = reduced (requested c.args.who 0 c.args.awaited c.args.reads.now c.args.writes.now) in rising e.reads && rising e.writes)
rises c = c.lists_rise.ensures ∙ ap (λ (e : Request). rising e.reads && rising e.writes) c.made-e.ensures.is

-- the meter that is looked at is the table's
share-is : (c : After-places) → leb (meter_of (view c.args.s.now) c.args.who).share (places_of (view c.args.s.now).queue c.args.who) ≡ leb c.in_ok-m.m.share c.places.result
share-is c = cc (ap (λ (m : LawMeter). m.share) c.in_ok-m.ensures.1, c.places.ensures)

serials-is : (c : After-places) → leb 65535 (meter_of (view c.args.s.now) c.args.who).serials ≡ leb 65535 c.in_ok-m.m.serials
serials-is c = ap (λ (m : LawMeter). leb 65535 m.serials) (sym c.in_ok-m.ensures.1)

fuel-is : (c : After-price) → ltb (meter_of (view c.args.s.now) c.args.who).fuel (admission clause9 (reduced (requested c.args.who 0 c.args.awaited c.args.reads.now c.args.writes.now))) ≡ ltb c.in_ok-m.m.fuel c.price.result
fuel-is c =
    let cost = c.price.ensures ∙ ap (λ (e : Request). 2 + 2 * size e) c.made-e.ensures.is ∙ sym (admission-price (reduced (requested c.args.who 0 c.args.awaited c.args.reads.now c.args.writes.now))) in
    cc (ap (λ (m : LawMeter). m.fuel) c.in_ok-m.ensures.1, cost)

pub returns-in_err-m : goal.returns-in_err-m
unfolding begin_rows
returns-in_err-m c =
    let e : c.from_residual.result ≡ Err c.in_err-m.field-0.0 = search rules in
    rw e (unpaid (view c.args.s.now) c.args.who _ _ c.in_err-m.ensures)

pub returns-then-too_many : goal.returns-then-too_many
unfolding begin_rows first_of
returns-then-too_many c =
    let f = fuelled (view c.args.s.now) c.args.who c.in_ok-m.ensures.0 in
    let many : (ltb 8 (length c.args.reads.now) || ltb 8 (length c.args.writes.now)) ≡ true = elim c.then-too_many.branch [
      | then-too_many-via-then-too_many w ↦ rw (sym c.too_many.ensures ∙ w.if-too_many.true) refl
      | then-too_many-via-else-too_many+then-too_many-2 w ↦ rw (sym c.too_many.ensures ∙ w.if-too_many.false, sym w.too_many-else-too_many.ensures ∙ w.if-too_many-2.true) refl
    ] in
    simp (f.0, f.1, many)

pub returns-then-not-lists_rise : goal.returns-then-not-lists_rise
unfolding begin_rows first_of
returns-then-not-lists_rise c =
    let at = goal.at.returns-then-not-lists_rise c in
    let p = passed at.After-made-e in
    simp (p.tenant, p.wet, p.few, sym (rises at.After-lists_rise) ∙ c.if-not-lists_rise.true)

pub returns-then-awaited-gt15 : goal.returns-then-awaited-gt15
unfolding begin_rows first_of
returns-then-awaited-gt15 c =
    let at = goal.at.returns-then-awaited-gt15 c in
    let p = passed at.After-made-e in
    simp (p.tenant, p.wet, p.few, sym (rises at.After-lists_rise) ∙ c.if-not-lists_rise.false, lt-ltb _ _ c.if-awaited-gt15.true)

pub returns-then-m-places : goal.returns-then-m-places
unfolding begin_rows first_of
returns-then-m-places c =
    let at = goal.at.returns-then-m-places c in
    let p = passed at.After-made-e in
    let rise = sym (rises at.After-lists_rise) ∙ c.if-not-lists_rise.false in
    simp (p.tenant, p.wet, p.few, rise, le-ltb _ _ c.if-awaited-gt15.false, share-is at.After-places ∙ le-leb _ _ c.if-m-places.true)

pub returns-then-m-ge65535 : goal.returns-then-m-ge65535
unfolding begin_rows first_of
returns-then-m-ge65535 c =
    let at = goal.at.returns-then-m-ge65535 c in
    let p = passed at.After-made-e in
    let rise = sym (rises at.After-lists_rise) ∙ c.if-not-lists_rise.false in
    simp (p.tenant, p.wet, p.few, rise, le-ltb _ _ c.if-awaited-gt15.false, share-is at.After-places ∙ lt-leb _ _ c.if-m-places.false, serials-is at.After-places ∙ le-leb _ _ c.if-m-ge65535.true)

pub returns-then-m-price : goal.returns-then-m-price
unfolding begin_rows first_of
returns-then-m-price c =
    let at = goal.at.returns-then-m-price c in
    let p = passed at.After-made-e in
    let rise = sym (rises at.After-lists_rise) ∙ c.if-not-lists_rise.false in
    simp (p.tenant, p.wet, p.few, rise, le-ltb _ _ c.if-awaited-gt15.false, share-is at.After-places ∙ lt-leb _ _ c.if-m-places.false, serials-is at.After-places ∙ lt-leb _ _ c.if-m-ge65535.false, fuel-is at.After-price ∙ lt-ltb _ _ c.if-m-price.true)

pub returns : goal.returns
unfolding begin_rows first_of
returns c =
    let at = goal.at.returns c in
    let p = passed at.After-made-e in
    let rise = sym (rises at.After-lists_rise) ∙ c.if-not-lists_rise.false in
    (simp (p.tenant, p.wet, p.few, rise, le-ltb _ _ c.if-awaited-gt15.false, share-is at.After-places ∙ lt-leb _ _ c.if-m-places.false, serials-is at.After-places ∙ lt-leb _ _ c.if-m-ge65535.false, fuel-is at.After-price ∙ le-ltb _ _ c.if-m-price.false), c.made-e.ensures)
