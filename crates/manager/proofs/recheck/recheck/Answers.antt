-- Whatever the counters said, the tenant pays for the asking.
use Rattle.std.proofs.Common.{◌<◌, ◌≤◌, sym, ◌∙◌, length, arith}
use Rattle.rules.specs.Refusals.{recheck_rows}
use Rattle.rules.specs.Calls.{recheck_of}
use Rattle.rules.proofs.Refusals.{stranger}
use Rattle.rules.proofs.Meters.{tenant-range}
use Rattle.manager.specs.State.{view}
use Rattle.manager.proofs.Done.{tenant-refuses}
use Rattle.manager.proofs.Slots.{Slotted, slotted, used, below}
use Rattle.manager.proofs.Rechecking.{Turned, passes, there, turned_clear, turned-still, affords, rechecks}
use Rattle.manager.proofs.recheck.recheck.Goals as goal
use Rattle.manager.proofs.recheck.recheck.Goals.{In-Ok, Joined-alone, then-alone, else-alone}

slots : (c : In-Ok) → Slotted c.args.s
slots c = slotted c.args.s _ c.well_formed.0 c.requires.tied

inside : (c : In-Ok) → c.in-Ok.at < length (view c.args.s).queue
inside c = there c.requires (slots c) c.args.who c.args.serial c.in-Ok.ensures.1.0 c.in-Ok.ensures.0

range : (c : In-Ok) → (1 ≤ c.args.who) × (c.args.who ≤ 16)
range c = tenant-range c.args.who (passes c.requires (slots c) c.args.who c.args.serial c.in-Ok.ensures.1.0 c.in-Ok.ensures.0).0

turns : (c : Joined-alone) → Turned c.args.s c.args.who c.args.serial c.if-alone.n c.if-alone.answer
turns c =
    let k = slotted c.args.s _ c.well_formed.0 c.requires.tied in
    elim c.if-alone.branch [
      | then-alone w ↦ rw (w.n-is, w.answer-is) (turned_clear c.requires k c.args.who c.args.serial c.in-Ok.ensures.1.0 c.in-Ok.ensures.0 c.alone.result c.alone.ensures w.if-alone.true w.promoted-p.ensures w.named-answer.ensures)
      | else-alone w ↦ rw (w.n-is, w.answer-is) (turned-still c.requires k c.args.who c.args.serial c.in-Ok.ensures.1.0 c.in-Ok.ensures.0 c.alone.result c.alone.ensures w.if-alone.false)
    ]

pub offset_bounds-n-at : goal.offset_bounds-n-at
offset_bounds-n-at c = omega (arith, below (slots c) (inside c))

pub bounds-n-at : goal.bounds-n-at
bounds-n-at c = below (slots c) (inside c)

pub promoted-p-requires : goal.promoted-p-requires
promoted-p-requires c = let at = (goal.at.promoted-p-requires c).In-Ok in c.requires.tied.neat.tidy _ (used (slots at) (inside at))

pub offset_bounds-n-at-then-alone : goal.offset_bounds-n-at-then-alone
offset_bounds-n-at-then-alone c = let at = (goal.at.offset_bounds-n-at-then-alone c).In-Ok in omega (arith, below (slots at) (inside at))

pub bounds-n-at-then-alone : goal.bounds-n-at-then-alone
bounds-n-at-then-alone c = let at = (goal.at.bounds-n-at-then-alone c).In-Ok in below (slots at) (inside at)

pub overflow_sub-k : goal.overflow_sub-k
overflow_sub-k c = (range (goal.at.overflow_sub-k c).In-Ok).0

pub bounds-n-k : goal.bounds-n-k
bounds-n-k c = omega (arith, (range (goal.at.bounds-n-k c).In-Ok).1)

pub charged-requires : goal.charged-requires
charged-requires c =
    let at = goal.at.charged-requires c in
    affords c.requires (slots at.In-Ok) c.args.who c.args.serial c.in-Ok.ensures.1.0 c.in-Ok.ensures.0 (turns at.Joined-alone) c.in-Ok.ensures.1.1

pub bounds-n-k-in-Ok : goal.bounds-n-k-in-Ok
bounds-n-k-in-Ok c = omega (arith, (range (goal.at.bounds-n-k-in-Ok c).In-Ok).1)

pub refuse-requires-clause-outsider : goal.refuse-requires-clause-outsider
unfolding recheck_rows
refuse-requires-clause-outsider c outside = sym c.in-Err.ensures ∙ stranger c.args.who _ outside

pub returns-after-alone : goal.returns-after-alone
returns-after-alone c =
    let at = goal.at.returns-after-alone c in
    rechecks c.requires (slots at.In-Ok) c.args.who c.args.serial c.in-Ok.ensures.1.0 c.in-Ok.ensures.0 (turns at.Joined-alone) c.in-Ok.ensures.1.1 c.charged.result c.charged.ensures

pub returns-in-Err : goal.returns-in-Err
unfolding recheck_of
returns-in-Err c = tenant-refuses (view c.args.s) c.args.who _ _ _ c.in-Err.why c.in-Err.ensures c.refuse.ensures
