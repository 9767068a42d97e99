-- What is judged is the law book's refusal; else the serial is given and the price paid, the maps tell the verdict, the counters and
-- the maps rise, and the entry joins the back.
use Rattle.std.proofs.Common.{◌≡◌, sym, ap, ◌∙◌, ◌+◌, ◌*◌, ◌≤◌, arith}
use Rattle.rules.specs.Request.{Request, requested, reduced, size}
use Rattle.rules.specs.Table.{Meter as LawMeter, spent, numbered}
use Rattle.rules.specs.Prices.{clause9, admission}
use Rattle.rules.specs.Refusals.{first_of, begin_rows}
use Rattle.rules.specs.Calls.{asked, begin_of}
use Rattle.rules.proofs.Admission.{Admissible}
use Rattle.rules.proofs.Meters.{tenant-range}
use Rattle.rules.proofs.Prices.{admission-price}
use Rattle.rules.proofs.Refusals.{stranger}
use Rattle.maps.proofs.OwnMaps.{own-map}
use Rattle.entry.specs.Entry.{request, with_serial}
use Rattle.entry.proofs.Typed.{entry-lists}
use Rattle.counters.proofs.Marks.{marks-raised}
use Rattle.manager.specs.State.{view}
use Rattle.manager.proofs.Views.{meter-view}
use Rattle.manager.proofs.Done.{tenant-refuses}
use Rattle.manager.proofs.Slots.{Slotted, slotted}
use Rattle.manager.proofs.Marking.{by-lists}
use Rattle.manager.proofs.Joining.{allowed, room, under, begin-did}
use Rattle.manager.proofs.begin.begin.Goals as goal
use Rattle.manager.proofs.begin.begin.Goals.{In-Ok, After-price-cost, After-numbered-e}

-- ---- a refusal
pub refuse-requires-clause-outsider : goal.refuse-requires-clause-outsider
unfolding begin_rows
refuse-requires-clause-outsider c outside = sym c.in-Err.ensures ∙ stranger c.args.who _ outside

pub returns-in-Err : goal.returns-in-Err
unfolding begin_of begin_rows size
returns-in-Err c = tenant-refuses _ _ _ _ _ c.in-Err.why c.in-Err.ensures c.refuse.ensures

-- ---- the request that joins
abbrev asks : In-Ok → Request
asks c = asked (view c.args.s) c.args.who c.args.awaited c.args.reads.now c.args.writes.now

-- no row looks at the serial
none : (c : In-Ok) → first_of (begin_rows clause9 (view c.args.s) (asks c)) ≡ 0
unfolding begin_rows size
none c = c.in-Ok.ensures.0

slots : (c : In-Ok) → Slotted c.args.s
slots c = slotted c.args.s _ c.well_formed.0 c.requires.tied

passed : (c : In-Ok) → Admissible clause9 (view c.args.s) (asks c)
passed c = allowed c.requires (slots c) _ _ _ _ (none c)

range : (c : In-Ok) → (1 ≤ c.args.who) × (c.args.who ≤ 16)
range c = tenant-range c.args.who (passed c).tenant

-- the price is the law's
price-is : (c : After-price-cost) → c.price-cost.result ≡ admission clause9 (reduced (asked (view c.args.s) c.args.who c.args.awaited c.args.reads.now c.args.writes.now))
unfolding size
price-is c =
    c.price-cost.ensures ∙ ap (λ (e : Request). 2 + 2 * size e) c.in-Ok.ensures.1.is ∙ sym (admission-price (reduced (asked (view c.args.s) c.args.who c.args.awaited c.args.reads.now c.args.writes.now)))

-- the entry that was judged, with its serial, holds the request
made-is : (c : After-numbered-e) → request c.numbered-e.result ≡ reduced (asked (view c.args.s) c.args.who c.args.awaited c.args.reads.now c.args.writes.now)
made-is c =
    let given = c.numbered-given.result.serials in
    let next = ap (λ (m : LawMeter). m.serials) c.numbered-given.ensures ∙ ap (λ (m : LawMeter). m.serials + 1) (meter-view c.args.s c.args.who) in
    c.numbered-e.ensures.is
    ∙ ap (λ (e : Request). with_serial e given) c.in-Ok.ensures.1.is
    ∙ ap (with_serial (reduced (requested c.args.who 0 c.args.awaited c.args.reads.now c.args.writes.now))) next

pub overflow_sub-k : goal.overflow_sub-k
overflow_sub-k c = (range c).0

pub bounds-n-k : goal.bounds-n-k
bounds-n-k c = let at = goal.at.bounds-n-k c in omega (arith, (range at.In-Ok).1)

pub bounds-n-k-2 : goal.bounds-n-k-2
bounds-n-k-2 c = let at = goal.at.bounds-n-k-2 c in omega (arith, (range at.In-Ok).1)

pub numbered-given-requires : goal.numbered-given-requires
numbered-given-requires c =
    let at = goal.at.numbered-given-requires c in
    omega (arith, (passed at.In-Ok).serial, ap (λ (m : LawMeter). m.serials) (meter-view c.args.s c.args.who))

pub charged-requires : goal.charged-requires
charged-requires c =
    let at = goal.at.charged-requires c in
    let fuel = ap (λ (m : LawMeter). m.fuel) c.numbered-given.ensures ∙ ap (λ (m : LawMeter). m.fuel) (meter-view c.args.s c.args.who) in
    omega (arith, (passed at.In-Ok).fuel, fuel, price-is at.After-price-cost)

pub raise-requires-clause-under : goal.raise-requires-clause-under
raise-requires-clause-under c =
    let at = (goal.at.raise-requires-clause-under c).In-Ok in
    under c.requires (slots at) _ _ _ _ (none at) (λ a. a.writes) c.requires.tied.writers

pub raise-requires-2-clause-under : goal.raise-requires-2-clause-under
raise-requires-2-clause-under c =
    let at = (goal.at.raise-requires-2-clause-under c).In-Ok in
    under c.requires (slots at) _ _ _ _ (none at) (λ a. a.reads) c.requires.tied.readers

pub bounds-n-n : goal.bounds-n-n
bounds-n-n c = let at = (goal.at.bounds-n-n c).In-Ok in room c.requires (slots at) _ _ _ _ (none at)

pub returns : goal.returns
returns c =
    let at = goal.at.returns c in
    let tied = c.requires.tied in
    let e = c.numbered-e.result in
    let x = rw c.writes.ensures.value at c.raise.ensures.raised in
    let y = rw c.reads.ensures.value at c.raise-2.ensures.raised in
    let own-writes = own-map c.none-own.ensures.0 c.raise.ensures.grown in
    let own-reads = own-map c.none-own.ensures.1 c.raise-2.ensures.grown in
    let written = marks-raised tied.written own-writes c.join.ensures.written c.raise.ensures.raised in
    let read = marks-raised tied.read own-reads c.join.ensures.read c.raise-2.ensures.raised in
    let low = by-lists c.args.s.maps.written c.args.s.maps.read c.lowest_clash-low.result (request e) c.reads.ensures.value c.writes.ensures.value own-reads own-writes c.lowest_clash-low.ensures in
    let given = c.numbered-given.ensures ∙ ap numbered (meter-view c.args.s c.args.who) in
    let paid = c.charged.ensures ∙ ap (λ (m : LawMeter). spent m c.price-cost.result) given in
    begin-did c.requires (slots at.In-Ok) _ _ _ _ (none at.In-Ok) c.lowest_clash-low.result c.admitted-answer.result (made-is at.After-numbered-e) (entry-lists e _ c.numbered-e.type_inv) x y written read low c.admitted-answer.ensures (price-is at.After-price-cost) paid
