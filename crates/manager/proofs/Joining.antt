-- A request that joins: what the maps, before its own counts, tell of it, and the table with it at the back.
use Prim.Native.Nat.{ℕ, zero, suc, ◌+◌, ◌-◌, ◌≤◌, ◌<◌}
use mathlib.Core.Path.{◌≡◌, ap, subst, ◌∙◌}
use mathlib.Core.Bool.{true}
use mathlib.Core.List.{List, [], ◌∷◌, ◌++◌, map}
use native.Mathlib.Omega.{arith}
use lib.ListN.{length, get_or, take, set}
use lib.Seq.{set-set}
use Rattle.rules.specs.Records.{Stored}
use Rattle.rules.specs.Request.{Request, reduced, admitted}
use Rattle.rules.specs.Table.{is_tenant, meter_of, with_meter, spent, numbered, burn}
use Rattle.rules.specs.Prices.{clause9, admission}
use Rattle.rules.specs.Refusals.{first_of, begin_rows}
use Rattle.rules.specs.Clash.{clash_at}
use Rattle.rules.specs.Calls.{asked, begun, begin_of, joined}
use Rattle.rules.specs.Sound.{Each, Names}
use Rattle.rules.proofs.Requests.{admitted-as}
use Rattle.rules.proofs.Admission.{Admissible}
use Rattle.rules.proofs.Refusals.{begin-passes}
use Rattle.rules.proofs.Room.{queue-room, sound-count}
use Rattle.rules.proofs.Keeps.{sound-burn}
use Rattle.rules.proofs.Sound.{begin-sound}
use Rattle.rules.proofs.Reduced.{reduced-stored}
use Rattle.rules.proofs.Meters.{Sixteen, meter-own}
use Rattle.rules.proofs.Mapped.{map-set}
use Rattle.std.specs.Prelude.{Option}
use Rattle.rules.specs.declared.Answer.{Answer}
use Rattle.maps.specs.Maps.{in_map, IsLowest}
use Rattle.entry.specs.declared.Entry.{Entry}
use Rattle.entry.specs.Entry.{request, Stands}
use Rattle.entry.proofs.Typed.{Lists}
use Rattle.counters.specs.Counters.{Raised, Under, Counts, Marks}
use Rattle.counters.proofs.Laws.{counts-under}
use Rattle.counters.proofs.Marks.{marks-tell}
use Rattle.queue.proofs.Views.{requests-length, pushed-holds}
use Rattle.meter.specs.declared.Meter.{Meter}
use Rattle.meter.specs.View.{meter_view}
use Rattle.manager.specs.declared.State.{State}
use Rattle.manager.specs.State.{view, Sound, Did}
use Rattle.manager.specs.Deeds.{AdmittedBy}
use Rattle.manager.proofs.Done.{tenant-done}
use Rattle.manager.proofs.Slots.{Slotted}
use Rattle.manager.proofs.Marking.{joining-told}
use Rattle.manager.proofs.Entries.{joins-becomes}

-- ---- the entry that joins
-- its records are bytes
each-byte : (n : ℕ) (xs : List ℕ) → ((k : ℕ) → get_or xs k 0 < 256) → Each (λ r. r ≤ 255) (take n xs)
each-byte zero xs below = Each.none
each-byte (suc n) [] below = Each.none
each-byte (suc n) (x ∷ xs) below = let small : x ≤ 255 = omega (arith, below 0) in Each.also small (each-byte n xs (λ k. below (suc k)))

pub records-small : (e : Entry) → Lists e → Names (λ r. r ≤ 255) (request e)
records-small e b = record { reads = each-byte e.nr e.reads b.reads.below; writes = each-byte e.nw e.writes b.writes.below }

-- ---- the meter: the serial is given, then the price is paid
own-meters : (s : State) → Sixteen (view s) → (e : Request) → is_tenant e.tenant ≡ true → (cost : ℕ) (paid : Meter) → meter_view paid ≡ spent (numbered (meter_of (view s) e.tenant)) cost → burn e.tenant cost (joined (view s) e) ≡ record { meters = map meter_view (set s.meters (e.tenant - 1) paid); queue = (view s).queue ++ e ∷ [] }
own-meters s six e h cost paid is =
    let m = numbered (meter_of (view s) e.tenant) in
    let own : meter_of (with_meter (view s) e.tenant m) e.tenant ≡ m = meter-own (view s) six e.tenant h m in
    let twice : set (set (view s).meters (e.tenant - 1) m) (e.tenant - 1) (spent m cost) ≡ set (view s).meters (e.tenant - 1) (spent m cost) = set-set (view s).meters (e.tenant - 1) m (spent m cost) in
    let once : map meter_view (set s.meters (e.tenant - 1) paid) ≡ set (view s).meters (e.tenant - 1) (spent m cost) = map-set meter_view s.meters (e.tenant - 1) paid ∙ ap (set (view s).meters (e.tenant - 1)) is in
    rw (own, twice, once)

-- the same for an entry of a tenant
pub joined-meters : (s : State) → Sixteen (view s) → (e : Request) (who : ℕ) → e.tenant ≡ who → is_tenant who ≡ true → (cost : ℕ) (paid : Meter) → meter_view paid ≡ spent (numbered (meter_of (view s) who)) cost → burn who cost (joined (view s) e) ≡ record { meters = map meter_view (set s.meters (who - 1) paid); queue = (view s).queue ++ e ∷ [] }
joined-meters s six e who own =
    subst (λ (w : ℕ). is_tenant w ≡ true → (cost : ℕ) (paid : Meter) → meter_view paid ≡ spent (numbered (meter_of (view s) w)) cost → burn w cost (joined (view s) e) ≡ record { meters = map meter_view (set s.meters (w - 1) paid); queue = (view s).queue ++ e ∷ [] }) own (own-meters s six e)

-- ---- the request has joined, and its tenant has paid
module _ {s : State} (h : Sound s) (k : Slotted s) (who awaited : ℕ) (reads writes : List ℕ) (none : first_of (begin_rows clause9 (view s) (asked (view s) who awaited reads writes)) ≡ 0) where
  -- the request as it is asked for, and as it joins
  abbrev asks : Request
  asks = asked (view s) who awaited reads writes

  abbrev wanted : Request
  wanted = reduced asks

  pub allowed : Admissible clause9 (view s) asks
  allowed = begin-passes clause9 (view s) asks none

  lists : Stored wanted.reads wanted.writes
  lists = reduced-stored reads writes allowed.lists

  pub room : s.count < 64
  room = omega (arith, queue-room h.table asks allowed.tenant allowed.place, requests-length k.slots)

  -- no counter is above 64
  pub under : (of : Request → List ℕ) {c : List ℕ} → Counts of c (view s).queue → Under 65 c
  under of n =
      let few : length (view s).queue < 65 = omega (arith, sound-count h.table) in
      counts-under of 65 few n

  module _ {e : Entry} {x y v w : List ℕ} (low : Option ℕ) (j : Entry × Answer) (is : request e ≡ wanted) (l : Lists e) (up : Raised s.cx (request e).writes x) (up' : Raised s.cs (request e).reads y) (written : Marks v x) (read : Marks w y) (found : IsLowest (clash_at (in_map s.maps.written) (in_map s.maps.read) (request e)) low) (by : AdmittedBy low (request e) j) where
    small : Names (λ n. n ≤ 255) wanted
    small = subst (Names (λ n. n ≤ 255)) is (records-small e l)

    -- the entry that joins is the one that the law book admits, and the answer is its
    own : Stands (admitted (view s).queue wanted) j.0 × (j.1 ≡ begun (view s).queue wanted)
    own =
        let q = (view s).queue in
        let told = joining-told q (in_map s.maps.written) (in_map s.maps.read) (marks-tell (λ a. a.writes) h.tied.written h.tied.writers) (marks-tell (λ a. a.reads) h.tied.read h.tied.readers) e l low j (ap (λ (a : Request). a.mode) is) found by in
        subst (λ (a : Request). Stands (admitted q a) j.0 × (j.1 ≡ begun q a)) is told

    pub begin-did : {paid : Meter} {cost : ℕ} → cost ≡ admission clause9 wanted → meter_view paid ≡ spent (numbered (meter_of (view s) who)) cost → Did (record { cx = x; cs = y; maps = record { written = v; read = w }; meters = set s.meters (who - 1) paid; count = s.count + 1; entries = set s.entries s.count j.0; said = record { answer = j.1; burnt = cost } }) (begin_of clause9 (view s) who awaited reads writes)
    unfolding begin_of
    begin-did {paid} {cost} price pays =
        let t = view s in
        let a = admitted t.queue wanted in
        let same = admitted-as t.queue wanted in
        let reads-are : a.reads ≡ wanted.reads = ap (λ (b : Request). b.reads) same in
        let writes_are : a.writes ≡ writes = ap (λ (b : Request). b.writes) same in
        let formed : Stored a.reads a.writes = rw (reads-are, writes_are) lists in
        let cx-raised : Raised s.cx a.writes x = rw writes_are (rw (ap (λ (b : Request). b.writes) is) at up) in
        let cs-raised : Raised s.cs a.reads y = rw reads-are (rw (ap (λ (b : Request). b.reads) is) at up') in
        let holds = rw own.0.is at (pushed-holds k.slots j.0 room own.0.tidy) in
        let meters = joined-meters s h.table.sixteen a who (ap (λ (b : Request). b.tenant) same) allowed.tenant (admission clause9 wanted) paid (pays ∙ ap (spent _) price) in
        tenant-done t who _ (admission clause9 wanted) (joined t a) (begun t.queue wanted) none
        (sound-burn (begin-sound clause9 h.table _ _ _ _ small allowed) who (admission clause9 wanted) allowed.tenant)
        (rw meters (joins-becomes h.tied _ a formed cx-raised cs-raised written read holds))
        own.1
        price
