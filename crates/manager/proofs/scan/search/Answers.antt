-- Each way out of the loop is a way out of the law book's walk, and what it leaves is put back.
use Rattle.std.proofs.Common.{◌≡◌, get_or, arith, refl, sym, ap, subst, ◌∙◌, false, ◌<◌, ◌≤◌}
use Rattle.rules.specs.declared.Answer.TheVariants.{Refused}
use Rattle.rules.specs.Table.{Meter as LawMeter}
use Rattle.rules.proofs.Meters.{tenant-range}
use Rattle.rules.proofs.Keeps.{fuel-limit}
use Rattle.rules.proofs.Refusals.{scan-passes}
use Rattle.entry.specs.Entry.{blank, request}
use Rattle.manager.specs.State.{view, Sound}
use Rattle.manager.proofs.Views.{meter-view}
use Rattle.manager.proofs.Slots.{slotted-lent}
use Rattle.manager.specs.declared.State.{State}
use Rattle.manager.proofs.Modes.{blocked-told}
use Rattle.manager.proofs.Walking.{fits, fits-all, unclear-passed, unblocked-passed, other-passed, walking-none}
use Rattle.manager.proofs.Searching.{Over, over-moved, over_none, over-short, over-found, over-more, over-did}
use Rattle.manager.proofs.scan.search.Goals as goal
use Rattle.manager.proofs.scan.search.Goals.{else-e-who-via-then-e-who+then-eq+else-clear_by_maps, else-e-who-via-then-e-who+else-eq, else-e-who-via-else-e-who, else-loop-i-test, then-loop-i-test+then-short, then-loop-i-test+else-short+then-e-who+then-eq+then-clear_by_maps, Start, Left-loop-i}

range : (c : Start) → (1 ≤ c.args.who) × (c.args.who ≤ 16)
range c = tenant-range c.args.who (scan-passes (view c.args.n.now) c.args.who c.requires.fuelled).0

pub overflow_sub-k : goal.overflow_sub-k
overflow_sub-k c = (range c).0

pub bounds-n-k : goal.bounds-n-k
bounds-n-k c = omega (arith, (range (goal.at.bounds-n-k c).Start).1)

pub bounds-n-k-2 : goal.bounds-n-k-2
bounds-n-k-2 c = omega (arith, (range (goal.at.bounds-n-k-2 c).Start).1)

pub charged-left-requires : goal.charged-left-requires
charged-left-requires c =
    let z = scan-passes (view c.args.n.now) c.args.who c.requires.fuelled in
    omega (arith, z.1, ap (λ (m : LawMeter). m.fuel) (meter-view c.args.n.now c.args.who))

pub loop-i-init : goal.loop-i-init
loop-i-init c = record {
  walking = walking-none _ _ _ c.none-ahead.ensures.0 c.none-ahead.ensures.1;
  still = refl;
  slots = slotted-lent c.args.n.now _ c.type_inv.n.1.1.1.1.1.0 c.requires.sound.tied;
  quiet = refl;
}

pub loop-i-preserved : goal.loop-i-preserved
loop-i-preserved c =
    let v = c.loop-i.invariant in
    let e = request (get_or c.loop-i.n.entries c.loop-i.i blank) in
    let passed : fits c.args.who c.loop-i.ahead e ≡ false = elim c.else-e-who.branch [
      | else-e-who-via-then-e-who+then-eq+else-clear_by_maps w ↦ unclear-passed _ _ _ (sym w.clear_by_maps.ensures ∙ w.if-clear_by_maps.false)
      | else-e-who-via-then-e-who+else-eq w ↦ unblocked-passed _ _ _ (sym (blocked-told e.mode) ∙ sym w.eq.ensures ∙ w.if-eq.false)
      | else-e-who-via-else-e-who w ↦ other-passed _ _ _ w.if-e-who.false
    ] in
    let g = rw c.writes.ensures.value at c.add.ensures.written in
    let h = rw c.reads.ensures.value at c.add.ensures.read in
    let inside : c.loop-i.i < c.loop-i.n.count = omega (arith, ap (λ (m : State). m.count) v.still) in
    record {
      walking = over-more (subst Sound (sym v.still) c.requires.sound).tied v.slots v.walking inside _ c.size.ensures.value (omega arith) _ c.charged-left-in-loop-i.ensures passed g h;
      still = v.still;
      slots = v.slots;
      quiet = v.quiet;
    }

-- the walk at each way out of the loop
ends : (c : Left-loop-i) → Over c.args.n.now c.args.who c.charged-left.result c.loop-i-test.n c.loop-i-test.left c.loop-i-test.burnt c.loop-i-test.answer
ends c =
    let v = c.loop-i.invariant in
    let n = c.loop-i.n in
    let t = (subst Sound (sym v.still) c.requires.sound).tied in
    let same : n.count ≡ c.args.n.now.count = ap (λ (m : State). m.count) v.still in
    elim c.loop-i-test.branch [
      | else-loop-i-test w ↦ rw (w.n-is, w.left-is, w.burnt-is, w.answer-is ∙ v.quiet) (over-moved v.still (over_none t v.slots v.walking (omega (arith, w.loop-i-test.false))))
      | then-loop-i-test+then-short w ↦
          let inside : c.loop-i.i < n.count = omega (arith, w.loop-i-test.true) in
          rw (w.n-is, w.left-is, w.burnt-is, w.answer-is ∙ ap Refused w.number.ensures) (over-moved v.still (over-short t v.slots v.walking inside _ w.size.ensures.value (omega (arith, w.if-short.true))))
      | then-loop-i-test+else-short+then-e-who+then-eq+then-clear_by_maps w ↦
          let inside : c.loop-i.i < n.count = omega (arith, w.loop-i-test.true) in
          let e = request (get_or n.entries c.loop-i.i blank) in
          let stops = fits-all c.args.who c.loop-i.ahead e w.if-e-who.true (sym (blocked-told e.mode) ∙ sym w.eq.ensures ∙ w.if-eq.true) (sym w.clear_by_maps.ensures ∙ w.if-clear_by_maps.true) in
          rw (w.n-is, w.left-is, w.burnt-is, w.answer-is) (over-moved v.still (over-found t v.slots v.walking inside _ w.size.ensures.value (omega (arith, w.if-short.false)) _ w.charged-left-in-loop-i.ensures stops w.promoted-p.ensures w.named-answer.ensures))
    ]

pub overflow_add-n : goal.overflow_add-n
overflow_add-n c =
    let s = c.args.n.now in
    let passed = scan-passes (view s) c.args.who c.requires.fuelled in
    let own = ap (λ (m : LawMeter). m.fuel) (meter-view s c.args.who) in
    let begun = ap (λ (m : LawMeter). m.fuel) c.charged-left.ensures in
    omega (arith, (ends (goal.at.overflow_add-n c).Left-loop-i).within, begun, own, passed.1, fuel-limit c.requires.sound.table c.args.who passed.0)

pub returns : goal.returns
returns c = over-did c.requires.sound c.args.who c.requires.fuelled c.charged-left.ensures (ends (goal.at.returns c).Left-loop-i)
