-- A search: each way out of the walk, and what it makes of the state, the answer and the units burnt.
use Prim.Native.Nat.{ℕ, ◌+◌, ◌-◌, ◌≤◌, ◌<◌}
use mathlib.Core.Path.{◌≡◌, refl, sym, ap, subst, ◌∙◌}
use mathlib.Core.Bool.{true, false}
use mathlib.Core.List.{[]}
use native.Mathlib.Omega.{arith}
use lib.ListN.{length, get_or, set}
use Rattle.rules.specs.declared.Answer.{Answer}
use Rattle.rules.specs.declared.Answer.TheVariants.{Nothing, Refused}
use Rattle.rules.specs.Request.{nobody, size, promoted}
use Rattle.rules.specs.Table.{Meter as LawMeter, Table, meter_of, with_meter, spent, burn}
use Rattle.rules.specs.Prices.{clause9, prices_of, looks, searching}
use Rattle.rules.specs.Refusals.{first_of, scan_rows}
use Rattle.rules.specs.Scan.{End, found, nothing, short, scan_walk}
use Rattle.rules.specs.Calls.{named, found-table, found-answer, search, scan_of}
use Rattle.rules.proofs.Refusals.{scan-passes}
use Rattle.rules.proofs.Keeps.{sound-burn}
use Rattle.rules.proofs.Sound.{scan-sound}
use Rattle.maps.specs.declared.Maps.{Maps}
use Rattle.maps.specs.Maps.{Grown}
use Rattle.meter.specs.declared.Meter.{Meter}
use Rattle.meter.specs.View.{meter_view, no_meter}
use Rattle.entry.specs.declared.Entry.{Entry}
use Rattle.entry.specs.Entry.{blank, request, Stands}
use Rattle.queue.proofs.Views.{requests-length, request-at}
use Rattle.manager.specs.declared.Said.{Said}
use Rattle.manager.specs.declared.State.{State}
use Rattle.manager.specs.State.{view, Tied, Sound, Becomes, Did}
use Rattle.manager.proofs.Views.{meter-view, meter-becomes}
use Rattle.manager.proofs.Done.{tenant-done}
use Rattle.manager.proofs.Slots.{Slotted, with_entries}
use Rattle.manager.proofs.Entries.{promoted-lists, makes-becomes, makes-named}
use Rattle.manager.proofs.Walking.{Looked, fits, Walking, walking-end, walking-short, walking-found, walking-more}

-- ---- the walk
-- the walk is over: where it ended, and what it left
pub record Over (s : State) (who : ℕ) (begun : Meter) (r : State) (left : Meter) (burnt : ℕ) (answer : Answer) : Type 0 where
  pub end : End
  pub looked : Looked (scan_walk clause9 who begun.fuel [] (view s).queue) begun end left burnt
  pub within : burnt ≤ begun.fuel
  pub state : Becomes (found-table (view s) end) r
  pub says : answer ≡ found-answer (view s).queue end

pub over-moved : {s n r : State} {who burnt : ℕ} {begun left : Meter} {answer : Answer} → n ≡ s → Over n who begun r left burnt answer → Over s who begun r left burnt answer
over-moved {s} {n} {r} {who} {burnt} {begun} {left} {answer} same o =
    subst (λ (m : State). Over m who begun r left burnt answer) same o

module _ {s : State} (t : Tied s) (k : Slotted s) {who i burnt : ℕ} {begun left : Meter} {ahead : Maps} (w : Walking who begun (view s).queue i left burnt ahead) where
  pub over_none : s.count ≤ i → Over s who begun s left burnt Nothing
  over_none past =
      let end : length (view s).queue ≤ i = omega (arith, requests-length k.slots) in
      record { end = nothing; looked = walking-end w end; within = omega (arith, w.whole); state = record { is = refl; tied = t }; says = refl }

  -- the entry of the turn, which has n records
  module _ (inside : i < s.count) (n : ℕ) (sized : n ≡ size (request (get_or s.entries i blank))) where
    there : i < length (view s).queue
    there = omega (arith, requests-length k.slots)

    is : get_or (view s).queue i nobody ≡ request (get_or s.entries i blank)
    is = request-at k.slots inside

    pub over-short : left.fuel < 1 + n → Over s who begun s left burnt (Refused 9)
    over-short poor = record {
      end = short;
      looked = walking-short w _ there is n sized poor;
      within = omega (arith, w.whole);
      state = record { is = refl; tied = t };
      says = refl;
    }

    module _ (rich : 1 + n ≤ left.fuel) (after : Meter) (pays : meter_view after ≡ spent (meter_view left) (1 + n)) where
      pub over-found : fits who ahead (request (get_or s.entries i blank)) ≡ true → {p : Entry} {answer : Answer} → Stands (promoted (request (get_or s.entries i blank))) p → answer ≡ named (request p) → Over s who begun (with_entries s (set s.entries i p)) after (burnt + (1 + n)) answer
      over-found sure stands says = record {
        end = found i;
        looked = walking-found w _ there is n sized rich after pays sure;
        within = omega (arith, w.whole);
        state = makes-becomes t k promoted promoted-lists inside stands s.said;
        says = says ∙ makes-named t k promoted promoted-lists inside stands;
      }

      pub over-more : {next : Maps} → fits who ahead (request (get_or s.entries i blank)) ≡ false → Grown ahead.written (request (get_or s.entries i blank)).writes next.written → Grown ahead.read (request (get_or s.entries i blank)).reads next.read → Walking who begun (view s).queue (i + 1) after (burnt + (1 + n)) next
      over-more no-fit g h = walking-more w _ there is n sized rich after pays no-fit g h

-- ---- the whole search
-- the same with the search's own unit: it ends as the law book's search of the tenant does, and the tenant's meter has paid
pub record Ended (t : Table) (who : ℕ) (end : End) (left : Meter) (burnt : ℕ) : Type 0 where
  pub ends : end ≡ (search (prices_of t) t who).end
  pub burns : burnt ≡ searching (prices_of t) (search (prices_of t) t who).looked
  pub paid : meter_view left ≡ spent (meter_of t who) (searching (prices_of t) (search (prices_of t) t who).looked)

-- a promotion moves no meter
found-meters : (t : Table) (end : End) (who : ℕ) → meter_of (found-table t end) who ≡ meter_of t who
found-meters t (found at) who = refl
found-meters t nothing who = refl
found-meters t short who = refl

-- the walk with the search's own unit, paid before the first look
whole-search : {t : Table} {begun left : Meter} {end : End} {burnt : ℕ} (who : ℕ) → 1 ≤ (meter_of t who).fuel → meter_view begun ≡ spent (meter_of t who) 1 → Looked (scan_walk clause9 who begun.fuel [] t.queue) begun end left burnt → Ended t who end left (1 + burnt)
whole-search {t} {begun} {left} {end} {burnt} who wet is l =
    let fuel : begun.fuel ≡ (meter_of t who).fuel - 1 = ap (λ (a : LawMeter). a.fuel) is in
    let k : Looked (search clause9 t who) begun end left burnt = subst (λ (n : ℕ). Looked (scan_walk clause9 who n [] t.queue) begun end left burnt) fuel l in
    let c = looks clause9 (search clause9 t who).looked in
    let less : (meter_of t who).fuel - 1 - c ≡ (meter_of t who).fuel - (1 + c) = omega arith in
    record {
      ends = k.ends;
      burns = ap (λ (n : ℕ). 1 + n) k.burns;
      paid = k.paid ∙ ap (λ (a : LawMeter). spent a c) is ∙ ap (λ (n : ℕ). record { fuel = n; serials = (meter_of t who).serials; share = (meter_of t who).share }) less;
    }

-- the meter that paid is put back, and the call says how it ended
pub over-did : {s n : State} → Sound s → (who : ℕ) → first_of (scan_rows (view s) who) ≡ 0 → {begun left : Meter} {burnt : ℕ} {answer : Answer} → meter_view begun ≡ spent (meter_view (get_or s.meters (who - 1) no_meter)) 1 → Over s who begun n left burnt answer → Did (record { cx = n.cx; cs = n.cs; maps = n.maps; meters = set n.meters (who - 1) left; count = n.count; entries = n.entries; said = record { answer = answer; burnt = 1 + burnt } }) (scan_of clause9 (view s) who)
unfolding scan_of
over-did {s} {n} h who none {begun} {left} {burnt} {answer} unit o =
    let t = view s in
    let passes = scan-passes t who none in
    let paid : meter_view begun ≡ spent (meter_of t who) 1 = unit ∙ ap (λ (a : LawMeter). spent a 1) (meter-view s who) in
    let e = whole-search {t = t} who passes.1 paid o.looked in
    let end = (search clause9 t who).end in
    let price = searching clause9 (search clause9 t who).looked in
    let table = found-table t end in
    let mid : view n ≡ table = o.state.is ∙ ap (found-table t) e.ends in
    let meter : meter_view left ≡ spent (meter_of table who) price = e.paid ∙ ap (λ (m : LawMeter). spent m price) (sym (found-meters t end who)) in
    let same : with_meter (view n) who (meter_view left) ≡ burn who price table = ap (λ (u : Table). with_meter u who (meter_view left)) mid ∙ ap (with_meter table who) meter in
    let words : Said = record { answer = answer; burnt = 1 + burnt } in
    tenant-done t who _ price table (found-answer t.queue end) none
    (sound-burn (scan-sound clause9 h.table who) who price passes.0)
    (rw same at (meter-becomes o.state.tied who left words))
    (o.says ∙ ap (found-answer t.queue) e.ends)
    e.burns
