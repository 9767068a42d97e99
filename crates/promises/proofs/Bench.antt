-- The ten bench examples hold. E1 and E2 are computed; the others follow from what an admitted request does, and from
-- the order of the refusals.
use Rattle.std.specs.Prelude.{if◌then◌else◌}
use Prim.Native.Nat.{ℕ, ◌+◌, ◌*◌, ◌-◌, ◌≤◌, ◌<◌}
use mathlib.Core.Path.{◌≡◌, refl, sym, ap, ◌∙◌}
use mathlib.Core.Bool.{Bool, true, false}
use mathlib.Core.List.{List, [], ◌∷◌}
use native.Mathlib.Omega.{arith}
use lib.Dec.{eqb, ltb, leb}
use lib.ListN.{length}
use borrow.Author.Tests.{eqb-true, ne_eqb, eq-eqb, lt-ltb, lt-leb}
use Rattle.rules.specs.declared.Mode.{Mode}
use Rattle.rules.specs.declared.Mode.TheVariants.{Free, Blocked}
use Rattle.rules.specs.declared.Answer.TheVariants.{Ok, Done, Nothing, BlockedOn}
use Rattle.rules.specs.Lists.{some, every, count_if, keep_if, total, before}
use Rattle.rules.specs.Records.{member, rising, rising_past, meets, only_read, WellFormed}
use Rattle.rules.specs.Request.{Request, requested, reduced, size, conflict, with_mode, promoted, admitted}
use Rattle.rules.specs.Table.{Meter, Table, meter_of, places_of, with_meter, fresh, spent, numbered, burn}
use Rattle.rules.specs.Prices.{clause9, looks, costly, charge, admission}
use Rattle.rules.specs.Refusals.{first_of, begin_rows, finish_rows, recheck_rows, scan_rows, grant_rows, open_rows}
use Rattle.rules.specs.Counters.{cx, cs, alone}
use Rattle.rules.specs.Clash.{clash_at, lowest_from, lowest, lowest_clash}
use Rattle.rules.specs.Scan.{scan_walk}
use Rattle.rules.specs.Calls.{Outcome, named, begin_of, finish_of, recheck_of, scan_of, open_of, grant_of, asked, joined}
use Rattle.rules.specs.Runs.{Run, run_of, after, step, number}
use Rattle.rules.specs.Runs.Call.{Scan}
use Rattle.rules.proofs.Tests.{and-false, if-either, if-cases}
use Rattle.rules.proofs.Meters.{Sixteen, meter-own, meter-with, sixteen-with}
use Rattle.rules.proofs.Reduced.{reduced-same}
use Rattle.rules.proofs.Admission.{Admissible, begin-admits}
use Rattle.promises.specs.Bench.{TenExamples, Tenant, Spare, SpareTwo, own, entry, idle, twelve_lines, after_line, begins, reader, reader_then, left}

-- ---- the twelve lines, computed
line-7 : (r : Run) → let q = (after_line 7 r).queue in (cx q 10 ≡ 2) × (cx q 11 ≡ 1) × (cx q 12 ≡ 2)
unfolding twelve_lines run_of after open_of grant_of begin_of first_of open_rows grant_rows begin_rows fresh total count_if keep_if some member only_read rising rising_past meets size admitted promoted conflict charge costly
line-7 r = (refl, refl, refl)

line-8 : (r : Run) → (cx (after_line 8 r).queue 10 ≡ 1) × ((step clause9 (after_line 9 r) (Scan 2)).burnt ≡ 1 + 2 + 3)
unfolding twelve_lines run_of after open_of grant_of begin_of finish_of recheck_of scan_of first_of open_rows grant_rows begin_rows finish_rows recheck_rows scan_rows fresh total count_if keep_if some every member only_read rising rising_past meets size admitted promoted conflict charge costly before alone scan_walk looks
line-8 r = (refl, refl)

-- ---- requests at an empty queue
-- where the queue is empty, a tenant with a place, a serial and the fuel to spare is admitted
idle-admits : {meters : List Meter} {who units : ℕ} {reads writes : List ℕ} → Spare meters who 1 units → WellFormed reads writes → admission clause9 (reduced (asked (idle meters) who 0 reads writes)) ≤ units → Admissible clause9 (idle meters) (asked (idle meters) who 0 reads writes)
unfolding count_if
idle-admits s f h = record {
  tenant = s.tenant.valid;
  lists = f;
  awaited = omega arith;
  place = omega (arith, s.places);
  serial = omega (arith, s.serials);
  some-fuel = omega (arith, s.fuel, h);
  fuel = omega (arith, s.fuel, h);
}

no-lists : WellFormed [] []
unfolding rising only_read keep_if
no-lists = record { few-reads = omega arith; few-writes = omega arith; reads-rise = refl; writes-rise = refl }

one-read : (r : ℕ) → WellFormed (r ∷ []) []
unfolding rising rising_past only_read keep_if member some
one-read r = record { few-reads = omega arith; few-writes = omega arith; reads-rise = refl; writes-rise = refl }

one-write : (r : ℕ) → WellFormed [] (r ∷ [])
unfolding rising rising_past only_read keep_if
one-write r = record { few-reads = omega arith; few-writes = omega arith; reads-rise = refl; writes-rise = refl }

-- what it then comes to: Free, and alone in the queue
record Alone (meters : List Meter) (who : ℕ) (reads writes : List ℕ) (o : Outcome) : Type 0 where
  answer : o.answer ≡ named (entry meters who 1 Free reads writes)
  queue : o.table.queue ≡ entry meters who 1 Free (only_read reads writes) writes ∷ []

free-first : {meters : List Meter} {who : ℕ} {reads writes : List ℕ} → Admissible clause9 (idle meters) (asked (idle meters) who 0 reads writes) → Alone meters who reads writes (begins (idle meters) who reads writes)
unfolding admitted promoted some
free-first a = record { answer = rw (begin-admits a); queue = rw (begin-admits a) }

empty-lists : (meters : List Meter) (who : ℕ) → Spare meters who 1 2 → let e = entry meters who 1 Free [] [] in let o = begins (idle meters) who [] [] in (o.answer ≡ named e) × (o.table.queue ≡ e ∷ []) × (o.burnt ≡ 2)
unfolding size only_read keep_if
empty-lists meters who s =
    let a = idle-admits s no-lists (omega arith) in
    let o = free-first a in
    (o.answer, o.queue, rw (begin-admits a))

-- ---- a reader of 5, and then another request
-- b's meter once a's request has been admitted: as it was, or with one serial more and 4 units less, if the two are the same
record Less (m next : Meter) (own : ℕ) : Type 0 where
  fuel : next.fuel ≡ m.fuel - 4 * (own - 1)
  serials : next.serials + 1 ≡ m.serials + own
  share : next.share ≡ m.share

module _ {meters : List Meter} {a b : ℕ} (two : SpareTwo meters a b) where
  abbrev sa : Spare meters a (own a b) (4 * own a b)
  sa = two.first

  abbrev sb : Spare meters b (own a b) (4 * own a b)
  sb = two.second

  at_least_one : 1 ≤ own a b
  at_least_one = if-either (λ (n : ℕ). 1 ≤ n) (eqb a b) (omega arith) (omega arith)

  -- the first request needs no more than its tenant has
  first-spare : Spare meters a 1 4
  first-spare = record {
    tenant = sa.tenant;
    places = omega (arith, sa.places, at_least_one);
    serials = omega (arith, sa.serials, at_least_one);
    fuel = omega (arith, sa.fuel, at_least_one);
  }

  reader-admits : Admissible clause9 (idle meters) (asked (idle meters) a 0 (5 ∷ []) [])
  unfolding size only_read keep_if member some
  reader-admits = idle-admits first-spare (one-read 5) (omega arith)

  -- the table with the reader in its queue
  abbrev held : Table
  held = burn a 4 (joined (idle meters) (entry meters a 1 Free (5 ∷ []) []))

  first-table : (reader meters a).table ≡ held
  unfolding size only_read keep_if member admitted promoted some
  first-table = rw (begin-admits reader-admits)

  held-less : Less (meter_of (idle meters) b) (meter_of held b) (own a b)
  held-less =
      let m = meter_of (idle meters) a in
      let six = sa.tenant.sixteen in
      let six' : Sixteen (with_meter (idle meters) a (numbered m)) = sixteen-with (idle meters) six a (numbered m) in
      let same : meter_of (with_meter (idle meters) a (numbered m)) a ≡ numbered m = meter-own (idle meters) six a sa.tenant.valid (numbered m) in
      let outer = meter-with (with_meter (idle meters) a (numbered m)) six' a sa.tenant.valid (spent (numbered m) 4) b sb.tenant.valid in
      let inner = meter-with (idle meters) six a sa.tenant.valid (numbered m) b sb.tenant.valid in
      rw (same, outer, inner) (go (eqb a b) refl)
    where
      go : (t : Bool) → eqb a b ≡ t → Less (meter_of (idle meters) b) (if t then spent (numbered (meter_of (idle meters) a)) 4 else if t then numbered (meter_of (idle meters) a) else meter_of (idle meters) b) (if t then 2 else 1)
      go true e = let k : b ≡ a = sym (eqb-true a b e) in rw k (record { fuel = omega arith; serials = omega arith; share = refl })
      go false e = record { fuel = omega arith; serials = omega arith; share = refl }

  -- of those ahead b holds no more than its own but this one
  held-places : places_of held.queue b + 1 ≡ own a b
  unfolding count_if
  held-places = if-cases (λ (n : ℕ). n + 0 + 1 ≡ own a b) (eqb a b) (λ e. rw e refl) (λ e. rw e refl)

  second-admits : {reads writes : List ℕ} → WellFormed reads writes → admission clause9 (reduced (asked held b 0 reads writes)) ≡ 4 → Admissible clause9 held (asked held b 0 reads writes)
  second-admits f price =
      let l = held-less in
      record {
        tenant = sb.tenant.valid;
        lists = f;
        awaited = omega arith;
        place = omega (arith, l.share, sb.places, held-places);
        serial = omega (arith, l.serials, sb.serials);
        some-fuel = omega (arith, l.fuel, sb.fuel, at_least_one);
        fuel = omega (arith, l.fuel, sb.fuel, at_least_one);
      }

  -- the second request, under its name
  second_is : (mode : Mode) (reads writes : List ℕ) → with_mode (asked held b 0 reads writes) mode ≡ entry meters b (own a b) mode reads writes
  second_is mode reads writes = ap (λ (n : ℕ). with_mode (requested b n 0 reads writes) mode) held-less.serials

  two-readers : let first = entry meters a 1 Free (5 ∷ []) [] in let second = entry meters b (own a b) Free (5 ∷ []) [] in let o = reader_then meters a b (5 ∷ []) [] in ((reader meters a).answer ≡ named first) × (o.answer ≡ named second) × (o.table.queue ≡ first ∷ second ∷ []) × (cs o.table.queue 5 ≡ 2)
  unfolding size only_read keep_if admitted promoted some conflict meets member count_if
  two-readers =
      let a2 = second-admits (one-read 5) refl in
      let is = second_is Free (5 ∷ []) [] in
      ((free-first reader-admits).answer, rw (first-table, begin-admits a2) (ap named is), rw (first-table, begin-admits a2) (ap (λ (e : Request). entry meters a 1 Free (5 ∷ []) [] ∷ e ∷ []) is), rw (first-table, begin-admits a2))

  then-writer : let first = entry meters a 1 Free (5 ∷ []) [] in let second = entry meters b (own a b) Blocked [] (5 ∷ []) in let o = reader_then meters a b [] (5 ∷ []) in (o.answer ≡ BlockedOn second.tenant second.serial 5) × (o.table.queue ≡ first ∷ second ∷ [])
  unfolding size only_read keep_if admitted promoted some conflict meets member clash_at lowest_clash lowest lowest_from
  then-writer =
      let a2 = second-admits (one-write 5) refl in
      let is = second_is Blocked [] (5 ∷ []) in
      (rw (first-table, begin-admits a2) (ap (λ (e : Request). BlockedOn e.tenant e.serial 5) is), rw (first-table, begin-admits a2) (ap (λ (e : Request). entry meters a 1 Free (5 ∷ []) [] ∷ e ∷ []) is))

-- ---- refusals, and the exact fuel
wet : (units : ℕ) → 0 < units → eqb units 0 ≡ false
wet units h = ne_eqb units 0 (λ (z : units ≡ 0). omega arith)

not-rising : (meters : List Meter) (who : ℕ) → Spare meters who 1 1 → number (begins (idle meters) who [] (7 ∷ 7 ∷ [])) ≡ 4
unfolding begin_of begin_rows first_of rising rising_past only_read keep_if
not-rising meters who s = simp (s.tenant.valid, wet (meter_of (idle meters) who).fuel s.fuel)

-- a record in both lists is written only
read-and-written : (meters : List Meter) (who : ℕ) → Spare meters who 1 4 → let e = entry meters who 1 Free [] (7 ∷ []) in let o = begins (idle meters) who (7 ∷ []) (7 ∷ []) in (o.answer ≡ named e) × (o.table.queue ≡ e ∷ []) × (o.burnt ≡ 4) × (cx o.table.queue 7 ≡ 1) × (cs o.table.queue 7 ≡ 0)
unfolding size only_read keep_if member some rising rising_past count_if
read-and-written meters who s =
    let lists : WellFormed (7 ∷ []) (7 ∷ []) = record { few-reads = omega arith; few-writes = omega arith; reads-rise = refl; writes-rise = refl } in
    let a = idle-admits s lists (omega arith) in
    let o = free-first a in
    (o.answer, o.queue, rw (begin-admits a), rw o.queue, rw o.queue)

module _ (meters : List Meter) (who r : ℕ) (s : Spare meters who 1 0) where
  abbrev writer : Request
  writer = asked (idle meters) who 0 [] (r ∷ [])

  -- fuel 3, where the price is 4
  too-dear : (meter_of (idle meters) who).fuel ≡ 3 → first_of (begin_rows clause9 (idle meters) writer) ≡ 9
  unfolding begin_rows first_of rising rising_past only_read keep_if size count_if
  too-dear f =
      let m = meter_of (idle meters) who in
      let place : leb m.share 0 ≡ false = lt-leb m.share 0 s.places in
      let serial : leb 65535 m.serials ≡ false = lt-leb 65535 m.serials (omega (arith, s.serials)) in
      simp (s.tenant.valid, place, serial, f)

  three-table : (meter_of (idle meters) who).fuel ≡ 3 → (begins (idle meters) who [] (r ∷ [])).table ≡ burn who 1 (idle meters)
  unfolding begin_of charge costly member some
  three-table f =
      let one : charge clause9 (meter_of (idle meters) who).fuel 9 ≡ 1 = rw f in
      rw (too-dear f, one)

  three : (meter_of (idle meters) who).fuel ≡ 3 → let o = begins (idle meters) who [] (r ∷ []) in (number o ≡ 9) × (left o who ≡ 2)
  unfolding begin_of
  three f =
      let own = meter-own (idle meters) s.tenant.sixteen who s.tenant.valid (spent (meter_of (idle meters) who) 1) in
      (rw (too-dear f), ap (λ (t : Table). (meter_of t who).fuel) (three-table f) ∙ rw (own, f))

  four-admits : (meter_of (idle meters) who).fuel ≡ 4 → Admissible clause9 (idle meters) writer
  unfolding size only_read keep_if
  four-admits f =
      let enough : Spare meters who 1 4 = record { tenant = s.tenant; places = s.places; serials = s.serials; fuel = omega arith } in
      idle-admits enough (one-write r) (omega arith)

  -- the table with the writer in its queue
  abbrev run : Table
  run = burn who 4 (joined (idle meters) (entry meters who 1 Free [] (r ∷ [])))

  four-table : (meter_of (idle meters) who).fuel ≡ 4 → (begins (idle meters) who [] (r ∷ [])).table ≡ run
  unfolding size only_read keep_if admitted promoted some
  four-table f = rw (begin-admits (four-admits f))

  run-meter : meter_of run who ≡ spent (numbered (meter_of (idle meters) who)) 4
  run-meter =
      let m = numbered (meter_of (idle meters) who) in
      let six : Sixteen (with_meter (idle meters) who m) = sixteen-with (idle meters) s.tenant.sixteen who m in
      meter-own (with_meter (idle meters) who m) six who s.tenant.valid _ ∙ ap (λ (n : Meter). spent n 4) (meter-own (idle meters) s.tenant.sixteen who s.tenant.valid m)

  finishes : (finish_of clause9 run who ((meter_of (idle meters) who).serials + 1)).answer ≡ Done
  unfolding finish_of finish_rows first_of before
  finishes =
      let n = (meter_of (idle meters) who).serials + 1 in
      simp (s.tenant.valid, eq-eqb who who refl, eq-eqb n n refl, and-false)

  four : (meter_of (idle meters) who).fuel ≡ 4 → let o = begins (idle meters) who [] (r ∷ []) in (o.answer ≡ named (entry meters who 1 Free [] (r ∷ []))) × (left o who ≡ 0) × ((finish_of clause9 o.table who ((meter_of (idle meters) who).serials + 1)).answer ≡ Done)
  four f = ((free-first (four-admits f)).answer, rw (four-table f, run-meter, f), rw (four-table f) finishes)

-- ---- a search on fuel 1
module _ (meters : List Meter) (who : ℕ) (v : Tenant meters who) (f : (meter_of (idle meters) who).fuel ≡ 1) where
  own-spent : (units : ℕ) (q : List Request) → meter_of (burn who units (record { meters = meters; queue = q })) who ≡ spent (meter_of (idle meters) who) units
  own-spent units q = meter-own (record { meters = meters; queue = q }) v.sixteen who v.valid (spent (meter_of (idle meters) who) units)

  fuelled : eqb (meter_of (idle meters) who).fuel 0 ≡ false
  fuelled = wet (meter_of (idle meters) who).fuel (omega arith)

  empty-table : (scan_of clause9 (idle meters) who).table ≡ burn who 1 (idle meters)
  unfolding scan_of scan_rows first_of scan_walk looks total
  empty-table = simp (v.valid, fuelled)

  scans-empty : let o = scan_of clause9 (idle meters) who in (o.answer ≡ Nothing) × (left o who ≡ 0)
  unfolding scan_of scan_rows first_of scan_walk
  scans-empty =
      (simp (v.valid, fuelled), ap (λ (t : Table). (meter_of t who).fuel) empty-table ∙ rw (own-spent 1 [], f))

  module _ (e : Request) (q : List Request) where
    cut : ltb ((meter_of (idle meters) who).fuel - 1) (1 + size e) ≡ true
    cut = lt-ltb ((meter_of (idle meters) who).fuel - 1) (1 + size e) (omega arith)

    short-table : (scan_of clause9 (record { meters = meters; queue = e ∷ q }) who).table ≡ burn who 1 (record { meters = meters; queue = e ∷ q })
    unfolding scan_of scan_rows first_of scan_walk looks total
    short-table = simp (v.valid, fuelled, cut)

    scans-short : let o = scan_of clause9 (record { meters = meters; queue = e ∷ q }) who in (number o ≡ 9) × (left o who ≡ 0)
    unfolding scan_of scan_rows first_of scan_walk
    scans-short =
        (simp (v.valid, fuelled, cut), ap (λ (t : Table). (meter_of t who).fuel) short-table ∙ rw (own-spent 1 (e ∷ q), f))

-- ---- eight reads, and nine
no_writes : (reads : List ℕ) → meets reads [] ≡ false
unfolding meets member some
no_writes [] = refl
no_writes (r ∷ reads) = no_writes reads

all_read : (reads : List ℕ) → only_read reads [] ≡ reads
all_read reads = reduced-same reads [] (no_writes reads)

module _ (meters : List Meter) (who : ℕ) (reads : List ℕ) (s : Spare meters who 1 18) where
  eight : length reads ≡ 8 → rising reads ≡ true → (begins (idle meters) who reads []).answer ≡ named (entry meters who 1 Free reads [])
  unfolding size rising
  eight n rise =
      let lists : WellFormed reads [] = record { few-reads = omega arith; few-writes = omega arith; reads-rise = rw (all_read reads) rise; writes-rise = refl } in
      let count : length (only_read reads []) ≡ 8 = rw (all_read reads) n in
      (free-first (idle-admits s lists (omega arith))).answer

  nine : length reads ≡ 9 → number (begins (idle meters) who reads []) ≡ 3
  unfolding begin_of begin_rows first_of
  nine n =
      let fuelled = wet (meter_of (idle meters) who).fuel (omega (arith, s.fuel)) in
      simp (s.tenant.valid, fuelled, n)

-- ---- shares
opens : (shares : List ℕ) → length shares ≡ 16 → (total (λ n. n) shares ≡ 64 → (open_of shares).answer ≡ Ok) × (total (λ n. n) shares ≡ 65 → number (open_of shares) ≡ 14)
unfolding open_of open_rows first_of
opens shares six = (λ sum. simp (six, sum), λ sum. simp (six, sum))

-- "All share a single statement"
pub ten-examples : TenExamples
ten-examples = record {
  e1 = line-7;
  e2 = line-8;
  e3 = λ meters a b. two-readers;
  e4 = λ meters a b. then-writer;
  e5 = empty-lists;
  e6 = λ meters who. (not-rising meters who, read-and-written meters who);
  e7 = λ meters who r s. (three meters who r s, four meters who r s);
  e8 = λ meters who v f. (scans-empty meters who v f, scans-short meters who v f);
  e9 = λ meters who reads s. (eight meters who reads s, nine meters who reads s);
  e10 = opens;
}
