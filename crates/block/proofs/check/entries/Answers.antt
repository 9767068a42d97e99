-- Of each entry is asked what the rest asks, and it is remembered for those behind; at the end the counters are compared.
use Rattle.std.proofs.Common.{◌+◌, ◌*◌, ◌≡◌, ◌<◌, ◌≤◌, arith, length, length-take, take, ap, ◌∙◌}
use Rattle.rules.specs.Table.{Meter}
use Rattle.counters.proofs.Laws.{counts-under}
use Rattle.block.specs.Clauses.{count_in, row_at, queue_in}
use Rattle.block.specs.Check.{RowFits}
use Rattle.block.proofs.Telling.{tells-no, part-fails, part-holds, part-last}
use Rattle.block.proofs.Loading.{row-length}
use Rattle.block.proofs.Back.{Small, small-part}
use Rattle.block.proofs.Swept.{swept_none, asks-fits, asks-follows, asks-clear, follows-told, verdict, swept-more, writers-told, readers-told, swept-first, from_first}
use Rattle.block.proofs.check.entries.Goals as goal
use Rattle.block.proofs.check.entries.Goals.{In-Some}

-- ---- the row of a turn
used : (c : In-Some) → c.loop-i.i < count_in c.args.b.now
used c = omega (arith, c.loop-i-test.true, c.requires.n_value)

is : (c : In-Some) → c.in-Some.row.bytes.now ≡ row_at c.args.b.now c.loop-i.i
is c = c.in-Some.ensures.0 ∙ c.row_at.ensures

fits : (c : In-Some) → RowFits (row_at c.args.b.now c.loop-i.i)
fits c = rw c.row_at.ensures at c.in-Some.ensures.1

small : (c : In-Some) → Small (row_at c.args.b.now c.loop-i.i)
small c = small-part c.args.b.now (640 + c.loop-i.i * 24) 24 (λ k. omega (arith, c.fits-b k))

few : (c : In-Some) → length (take c.loop-i.i (queue_in c.args.b.now)) < 65
few c = simp length-take (omega (arith, c.loop-i-test.true, c.requires.n_bound))

-- ---- the goals
pub loop-i-init : goal.loop-i-init
loop-i-init c = swept_none c.args.b.now c.told-b c.part-left.ensures

pub fitting-requires : goal.fitting-requires
fitting-requires c = rw c.row_at.ensures (row-length c.args.b.now c.loop-i.i c.told-b (omega (arith, c.loop-i-test.true, c.requires.n_bound)))

pub returns-in_default : goal.returns-in_default
returns-in_default c =
    let there : c.loop-i.i < count_in c.args.b.now = omega (arith, c.loop-i-test.true, c.requires.n_value) in
    let none = rw c.row_at.ensures at c.in_default.ensures in
    tells-no (λ q. none (asks-fits c.loop-i.invariant there q))

pub returns-then-not-follows : goal.returns-then-not-follows
returns-then-not-follows c =
    let k = (goal.at.returns-then-not-follows c).In-Some in
    let s = c.loop-i.invariant in
    let given = ap (λ (m : Meter). m.serials) c.meter_at.ensures in
    part-fails (follows-told s (used k) (fits k) (is k) c.from-k.ensures c.serial-serial.ensures given c.follows.ensures) c.if-not-follows.true (asks-follows s (used k) (fits k))

pub count-requires-clause-under : goal.count-requires-clause-under
count-requires-clause-under c = let s = c.loop-i.invariant in counts-under (λ r. r.writes) 65 (few (goal.at.count-requires-clause-under c).In-Some) s.writers

pub count-requires-clause-under_2 : goal.count-requires-clause-under_2
count-requires-clause-under_2 c = let s = c.loop-i.invariant in counts-under (λ r. r.reads) 65 (few (goal.at.count-requires-clause-under_2 c).In-Some) s.readers

pub returns-then-not-clear : goal.returns-then-not-clear
returns-then-not-clear c =
    let k = (goal.at.returns-then-not-clear c).In-Some in
    let s = c.loop-i.invariant in
    let up = c.count.ensures in
    part-fails (verdict s (used k) (fits k) (is k) up.raised up.raised_2 (small k) c.clear.ensures) c.if-not-clear.true (asks-clear s (used k) (fits k))

pub loop-i-preserved : goal.loop-i-preserved
loop-i-preserved c =
    let k = (goal.at.loop-i-preserved c).In-Some in
    let s = c.loop-i.invariant in
    let up = c.count.ensures in
    let given = ap (λ (m : Meter). m.serials) c.meter_at.ensures in
    let follows = part-holds (follows-told s (used k) (fits k) (is k) c.from-k.ensures c.serial-serial.ensures given c.follows.ensures) c.if-not-follows.false in
    let clear = part-holds (verdict s (used k) (fits k) (is k) up.raised up.raised_2 (small k) c.clear.ensures) c.if-not-clear.false in
    swept-more s (used k) (fits k) (is k) up.raised up.raised_2 c.from-k.ensures c.serial-serial.ensures c.count.array_long c.count.array_long2 follows clear

pub returns-then-same : goal.returns-then-same
returns-then-same c =
    let s = c.loop-i.invariant in
    let end : count_in c.args.b.now ≤ c.loop-i.i = omega (arith, c.loop-i-test.false, c.requires.n_value) in
    let writers = part-holds (writers-told s end c.same.ensures) c.if-same.true in
    part-last (readers-told s end c.same-then-same.ensures) (λ readers. from_first _ (swept-first s end) (record { writers = writers; readers = readers })) (λ q. q.counters.readers)

pub returns-else-same : goal.returns-else-same
returns-else-same c =
    let end : count_in c.args.b.now ≤ c.loop-i.i = omega (arith, c.loop-i-test.false, c.requires.n_value) in
    rw c.if-same.false (part-fails (writers-told c.loop-i.invariant end c.same.ensures) c.if-same.false (λ q. q.counters.writers))
