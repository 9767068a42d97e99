-- Every call keeps a table sound, and an opening makes one, whatever the prices.
use Rattle.std.specs.Prelude.{if◌then◌else◌}
use Prim.Native.Nat.{ℕ, ◌+◌, ◌-◌, ◌≤◌, ◌<◌}
use mathlib.Core.Path.{◌≡◌, refl, sym, ap, ◌∙◌}
use mathlib.Core.Bool.{Bool, true, false, ◌&&◌}
use mathlib.Core.List.{List, [], ◌∷◌, ◌++◌, map}
use native.Mathlib.Omega.{arith}
use lib.Dec.{eqb}
use lib.ListN.{length, get_or, take, drop, replicate, length-map}
use borrow.Author.Tests.{eqb-true, eqb-false, not-true}
use Rattle.rules.specs.declared.Mode.{Mode}
use Rattle.rules.specs.declared.Mode.TheVariants.{Free, Waiting, Blocked}
use Rattle.rules.specs.Lists.{some, total, count_if}
use Rattle.rules.specs.Records.{only_read, Stored}
use Rattle.rules.specs.Request.{Request, nobody, reduced, size, conflict, conflicts_any, is_waiting, is_blocked, with_mode, with_due, promoted, admitted, delivered}
use Rattle.rules.specs.Table.{Meter, Table, is_tenant, meter_of, with_meter, numbered, granted, places_of, burn, fresh, new_meter, most_fuel, most_serials}
use Rattle.rules.specs.Prices.{Prices, admission}
use Rattle.rules.specs.Refusals.{first_of, stands_at, is_absent, entry_of, begin_rows, finish_rows, recheck_rows, scan_rows, deliver_rows, evict_rows, cancel_rows, grant_rows, open_rows}
use Rattle.rules.specs.Counters.{cx, cs, alone}
use Rattle.rules.specs.Scan.{End, found, nothing, short}
use Rattle.rules.specs.Calls.{to_pay, without_entry, with_entry, gone, asked, joined, found-table, search, pick_end, begin_of, finish_of, recheck_of, scan_of, open_of, grant_of, pick_of, deliver_of, evict_of, cancel_of}
use Rattle.rules.specs.Runs.{Call, step, records_of}
use Rattle.rules.specs.Runs.Call.{Begin, Finish, Recheck, Scan, Open, Grant, Pick, Deliver, Evict, Cancel}
use Rattle.rules.specs.Sound.{Each, InOrder, Fit, SoundBy, SoundAny, Names, SerialsRise, ClearOf, given_by}
use Rattle.rules.proofs.Tests.{both, neither, if-cases, above_zero}
use Rattle.rules.proofs.Lists.{some-append}
use Rattle.rules.proofs.Reduced.{keep-each, reduced-stored}
use Rattle.rules.proofs.Requests.{delivered-as, conflict-size}
use Rattle.rules.proofs.Meters.{meter-own}
use Rattle.rules.proofs.Admission.{Admissible}
use Rattle.rules.proofs.Refusals.{stranger, free-of-charge, begin-passes, grant-passes, open-passes, finish-passes, recheck-passes, deliver-passes, evict-passes, cancel-passes, here}
use Rattle.rules.proofs.Order.{each_at, each-parts, each_all, each_map, each_none, order-ahead}
use Rattle.rules.proofs.Keeps.{sound-meter, sound-burn, burn-none, fuel-limit, serials-limit, promoted-fit, sound-joined, sound-removed, sound-replaced}
use Rattle.rules.proofs.Verdicts.{alone-conflicts}
use Rattle.rules.proofs.Walks.{stop-clear, walk-stops}

-- ---- a tenant's call: the deed is sound where there is no refusal, and burning keeps it so
tenant-sound : (p : Prices) {ok : ℕ → Type 0} {t : Table} → SoundBy ok t → (who number price : ℕ) (deed : Table) → (is_tenant who ≡ false → number ≡ 1) → (number ≡ 0 → SoundBy ok deed) → SoundBy ok (burn who (to_pay p t who number price) (if eqb number 0 then deed else t))
tenant-sound p {ok} {t} s who number price deed outside inside = go (is_tenant who) refl
  where
    go : (b : Bool) → is_tenant who ≡ b → SoundBy ok (burn who (to_pay p t who number price) (if eqb number 0 then deed else t))
    go true h = sound-burn (if-cases (SoundBy ok) (eqb number 0) (λ z. inside (eqb-true number 0 z)) (λ z. s)) who (to_pay p t who number price) h
    go false h = rw (outside h, free-of-charge p (meter_of t who).fuel, burn-none who t) s

-- what cannot be: false is not true
never : {A : Type 0} → false ≡ true → A
never z = let k : ◌≡◌ {A = ℕ} 0 1 = cc in absurd (omega arith)

-- ---- Begin
module _ (p : Prices) {ok : ℕ → Type 0} {t : Table} (s : SoundBy ok t) (who awaited : ℕ) (reads writes : List ℕ) (names : Names ok (reduced (asked t who awaited reads writes))) (a : Admissible p t (asked t who awaited reads writes)) where
  abbrev wanted : Request
  wanted = reduced (asked t who awaited reads writes)

  lists : Stored wanted.reads writes
  lists = reduced-stored reads writes a.lists

  -- the table once the serial is given
  abbrev given : Table
  given = with_meter t who (numbered (meter_of t who))

  given-sound : SoundBy ok given
  given-sound = sound-meter s who a.tenant (numbered (meter_of t who)) refl (omega arith) (fuel-limit s who a.tenant) (omega (arith, a.serial))

  given-own : meter_of given who ≡ numbered (meter_of t who)
  given-own = meter-own t s.sixteen who a.tenant (numbered (meter_of t who))

  last-serial : wanted.serial ≤ given_by given who
  last-serial = let k : given_by given who ≡ (meter_of t who).serials + 1 = ap (λ (m : Meter). m.serials) given-own in omega arith

  rises : Each (λ x. SerialsRise x wanted) t.queue
  rises =
      each_map (λ x (f : Fit (given_by t) x). λ (same : x.tenant ≡ who). let k : x.serial ≤ given_by t who = rw same at f.to-given in omega arith) s.entries

  place : places_of t.queue who < (meter_of given who).share
  place = let k : (meter_of given who).share ≡ (meter_of t who).share = ap (λ (m : Meter). m.share) given-own in omega (arith, a.place)

  blocked-fit : conflicts_any t.queue wanted ≡ true → Fit (given_by given) wanted
  blocked-fit clash = record {
    awaited = a.awaited;
    due = omega arith;
    tenant = a.tenant;
    from_one = omega arith;
    to-given = last-serial;
    free = never;
    waiting = never;
    blocked = λ z. conflict-size t.queue wanted clash;
    lists = lists;
  }

  pub begin-sound : SoundBy ok (joined t (admitted t.queue wanted))
  unfolding admitted promoted conflict
  begin-sound = if-cases (λ (entry : Request). SoundBy ok (joined t entry)) (conflicts_any t.queue wanted)
      (λ clash. sound-joined given-sound wanted (blocked-fit clash) names place rises (each_map (λ x f. λ runs. never (sym runs)) s.entries))
      (λ clear.
      sound-joined given-sound (promoted wanted)
      (promoted-fit (given_by given) wanted a.awaited (omega arith) a.tenant (omega arith) last-serial lists)
      (record { reads = names.reads; writes = names.writes }) place rises (each_map (λ x h. λ runs. h) (each_none (λ x. conflict x wanted) t.queue clear)))

-- the reduced lists name none but the records named
reduced-names : {ok : ℕ → Type 0} (e : Request) → Each ok (e.reads ++ e.writes) → Names ok (reduced e)
unfolding only_read
reduced-names e named = let k = each-parts e.reads named in record { reads = keep-each _ k.0; writes = k.1 }

pub begin-keeps : (p : Prices) {ok : ℕ → Type 0} {t : Table} → SoundBy ok t → (who awaited : ℕ) (reads writes : List ℕ) → Each ok (reads ++ writes) → SoundBy ok (begin_of p t who awaited reads writes).table
unfolding begin_of begin_rows
begin-keeps p {ok} {t} s who awaited reads writes named =
    let e = asked t who awaited reads writes in
    tenant-sound p s who (first_of (begin_rows p t e)) (admission p (reduced e)) (joined t (admitted t.queue (reduced e))) (stranger who _)
    (λ z. begin-sound p s who awaited reads writes (reduced-names e named) (begin-passes p t e z))

-- ---- Finish, evict, cancel: an entry that is there leaves
pub gone-sound : {ok : ℕ → Type 0} {t : Table} → SoundBy ok t → (who serial : ℕ) → is_absent who serial t.queue ≡ false → SoundBy ok (gone t who serial)
gone-sound {ok} {t} s who serial present = sound-removed s (stands_at who serial t.queue) (here who serial t.queue present)

pub finish-keeps : (p : Prices) {ok : ℕ → Type 0} {t : Table} → SoundBy ok t → (who serial : ℕ) → SoundBy ok (finish_of p t who serial).table
unfolding finish_of finish_rows
finish-keeps p {ok} {t} s who serial =
    tenant-sound p s who (first_of (finish_rows t who serial)) p.finish _ (stranger who _)
    (λ z. gone-sound s who serial (finish-passes t who serial z).1)

pub cancel-keeps : (p : Prices) {ok : ℕ → Type 0} {t : Table} → SoundBy ok t → (who serial : ℕ) → SoundBy ok (cancel_of p t who serial).table
unfolding cancel_of cancel_rows
cancel-keeps p {ok} {t} s who serial =
    tenant-sound p s who (first_of (cancel_rows t who serial)) p.cancel _ (stranger who _)
    (λ z. gone-sound s who serial (cancel-passes t who serial z).there)

pub evict-keeps : {ok : ℕ → Type 0} {t : Table} → SoundBy ok t → (who serial : ℕ) → SoundBy ok (evict_of t who serial).table
unfolding evict_of
evict-keeps {ok} {t} s who serial =
    if-cases (SoundBy ok) (eqb (first_of (evict_rows t who serial)) 0)
    (λ z. gone-sound s who serial (evict-passes t who serial (eqb-true _ 0 z)).1)
    (λ z. s)

-- ---- a delivered answer
delivered-fit : (given : ℕ → ℕ) (e : Request) → Fit given e → eqb e.due 0 ≡ false → Fit given (delivered e)
unfolding size
delivered-fit given e f some-due = rw (delivered-as e) (go (is_waiting e.mode && eqb (e.due - 1) 0) refl)
  where
    go : (b : Bool) → (is_waiting e.mode && eqb (e.due - 1) 0) ≡ b → Fit given (with_mode (with_due e (e.due - 1)) (if b then Free else e.mode))
    go true last = record {
      awaited = f.awaited;
      due = omega (arith, f.due);
      tenant = f.tenant;
      from_one = f.from_one;
      to-given = f.to-given;
      free = λ z. eqb-true (e.due - 1) 0 (both (is_waiting e.mode) (eqb (e.due - 1) 0) last).1;
      waiting = never;
      blocked = never;
      lists = f.lists;
    }
    go false more = record {
      awaited = f.awaited;
      due = omega (arith, f.due);
      tenant = f.tenant;
      from_one = f.from_one;
      to-given = f.to-given;
      free = λ z. absurd (eqb-false e.due 0 some-due (f.free z));
      waiting = λ z. let k : eqb (e.due - 1) 0 ≡ false = rw z at more in above_zero _ (eqb-false _ 0 k);
      blocked = f.blocked;
      lists = f.lists;
    }

-- an answer makes no Blocked entry run
delivered-blocked : (e : Request) → is_blocked (delivered e).mode ≡ is_blocked e.mode
unfolding delivered
delivered-blocked e = go e.mode (eqb (e.due - 1) 0)
  where
    go : (m : Mode) (b : Bool) → is_blocked (if is_waiting m && b then with_mode (with_due (with_mode e m) (e.due - 1)) Free else with_due (with_mode e m) (e.due - 1)).mode ≡ is_blocked m
    go Free b = refl
    go Waiting true = refl
    go Waiting false = refl
    go Blocked b = refl

-- ---- an entry is changed where it stands
module _ {ok : ℕ → Type 0} {t : Table} (s : SoundBy ok t) (at : ℕ) (there : at < length t.queue) where
  -- an entry that conflicts with nothing ahead may run
  pub promotion-sound : Each (λ a. conflict a (get_or t.queue at nobody) ≡ false) (take at t.queue) → SoundBy ok (with_entry t at (promoted (get_or t.queue at nobody)))
  unfolding promoted conflict
  promotion-sound clear =
      let e = get_or t.queue at nobody in
      let f : Fit (given_by t) e = each_at s.entries at nobody there in
      sound-replaced s at there (promoted e) refl refl refl refl
      (promoted-fit (given_by t) e f.awaited f.due f.tenant f.from_one f.to-given f.lists)
      (each_map (λ a h. λ runs. h) clear)

  -- an answer changes neither name nor lists, and what ran may still run
  pub delivery-sound : eqb (get_or t.queue at nobody).due 0 ≡ false → SoundBy ok (with_entry t at (delivered (get_or t.queue at nobody)))
  unfolding conflict
  delivery-sound some-due =
      let e = get_or t.queue at nobody in
      let f : Fit (given_by t) e = each_at s.entries at nobody there in
      let same = delivered-as e in
      sound-replaced s at there (delivered e) (ap (λ (r : Request). r.tenant) same) (ap (λ (r : Request). r.serial) same) (ap (λ (r : Request). r.reads) same) (ap (λ (r : Request). r.writes) same) (delivered-fit (given_by t) e f some-due)
      (each_map (λ a (h : ClearOf a e). λ runs. rw same (h (sym (delivered-blocked e) ∙ runs))) (order-ahead at nobody there s.clear))

-- ---- Recheck
pub recheck-sound : {ok : ℕ → Type 0} {t : Table} → SoundBy ok t → (who serial : ℕ) → is_absent who serial t.queue ≡ false → alone (cx t.queue) (cs t.queue) (entry_of who serial t.queue) ≡ true → SoundBy ok (with_entry t (stands_at who serial t.queue) (promoted (entry_of who serial t.queue)))
recheck-sound {ok} {t} s who serial present clear =
    let q = t.queue in
    let at = stands_at who serial q in
    let e = entry_of who serial q in
    let there = here who serial q present in
    let lists = (each_at s.entries at nobody there).lists in
    let none : conflicts_any (without_entry at q) e ≡ false = not-true _ (sym (alone-conflicts q at there lists) ∙ clear) in
    let ahead = neither (conflicts_any (take at q) e) (conflicts_any (drop (at + 1) q) e) (sym (some-append (λ x. conflict x e) (take at q) (drop (at + 1) q)) ∙ none) in
    promotion-sound s at there (each_none (λ x. conflict x e) (take at q) ahead.0)

pub recheck-keeps : (p : Prices) {ok : ℕ → Type 0} {t : Table} → SoundBy ok t → (who serial : ℕ) → SoundBy ok (recheck_of p t who serial).table
unfolding recheck_of recheck_rows
recheck-keeps p {ok} {t} s who serial =
    tenant-sound p s who (first_of (recheck_rows p t who serial)) _ _ (stranger who _)
    (λ z. if-cases (SoundBy ok) (alone (cx t.queue) (cs t.queue) (entry_of who serial t.queue)) (recheck-sound s who serial (recheck-passes p t who serial z).1) (λ still. s))

-- ---- a search, and Pick: where an entry is found, nothing ahead of it conflicts
found-sound : {ok : ℕ → Type 0} {t : Table} → SoundBy ok t → (end : End) → ((at : ℕ) → end ≡ found at → (at < length t.queue) × (conflicts_any (take at t.queue) (get_or t.queue at nobody) ≡ false)) → SoundBy ok (found-table t end)
found-sound {ok} {t} s (found at) h =
    let k = h at refl in
    promotion-sound s at k.0 (each_none (λ x. conflict x (get_or t.queue at nobody)) (take at t.queue) k.1)
found-sound s nothing h = s
found-sound s short h = s

-- what the search of a tenant finds may run
pub scan-sound : (p : Prices) {ok : ℕ → Type 0} {t : Table} → SoundBy ok t → (who : ℕ) → SoundBy ok (found-table t (search p t who).end)
scan-sound p {ok} {t} s who =
    found-sound s (search p t who).end
    (λ at e.
    let stop = walk-stops p who ((meter_of t who).fuel - p.search) [] t.queue at e in
    (stop.there, stop-clear stop))

pub scan-keeps : (p : Prices) {ok : ℕ → Type 0} {t : Table} → SoundBy ok t → (who : ℕ) → SoundBy ok (scan_of p t who).table
unfolding scan_of scan_rows
scan-keeps p {ok} {t} s who =
    tenant-sound p s who (first_of (scan_rows t who)) _ _ (stranger who _) (λ z. scan-sound p s who)

-- the front has nothing ahead
front-found : (q : List Request) (at : ℕ) → pick_end q ≡ found at → (at < length q) × (conflicts_any (take at q) (get_or q at nobody) ≡ false)
unfolding some
front-found [] at = λ (e : nothing ≡ found at). let k : ◌≡◌ {A = ℕ} 0 1 = cc in absurd (omega arith)
front-found (x ∷ q) at =
    let clear : End → Type 0 = λ end. end ≡ found at → (at < length (x ∷ q)) × (conflicts_any (take at (x ∷ q)) (get_or (x ∷ q) at nobody) ≡ false) in
    if-cases clear (is_blocked x.mode)
    (λ h. λ (e : found 0 ≡ found at). let k : 0 ≡ at = cc in rw (← k) (omega arith, refl))
    (λ h. λ (e : nothing ≡ found at). let k : ◌≡◌ {A = ℕ} 0 1 = cc in absurd (omega arith))

pub pick-keeps : {ok : ℕ → Type 0} {t : Table} → SoundBy ok t → SoundBy ok (pick_of t).table
unfolding pick_of
pick-keeps {ok} {t} s = found-sound s (pick_end t.queue) (front-found t.queue)

-- ---- Deliver
pub deliver-keeps : {ok : ℕ → Type 0} {t : Table} → SoundBy ok t → (who serial : ℕ) → SoundBy ok (deliver_of t who serial).table
unfolding deliver_of
deliver-keeps {ok} {t} s who serial =
    if-cases (SoundBy ok) (eqb (first_of (deliver_rows t who serial)) 0)
    (λ z.
    let a = deliver-passes t who serial (eqb-true _ 0 z) in
    delivery-sound s (stands_at who serial t.queue) (here who serial t.queue a.0) a.1)
    (λ z. s)

-- ---- Grant
pub grant-sound : {ok : ℕ → Type 0} {t : Table} → SoundBy ok t → (who amount : ℕ) → is_tenant who ≡ true → (meter_of t who).fuel + amount ≤ most_fuel → SoundBy ok (with_meter t who (granted (meter_of t who) amount))
grant-sound {ok} {t} s who amount h fits = sound-meter s who h (granted (meter_of t who) amount) refl (omega arith) fits (serials-limit s who h)

pub grant-keeps : {ok : ℕ → Type 0} {t : Table} → SoundBy ok t → (who amount : ℕ) → SoundBy ok (grant_of t who amount).table
unfolding grant_of
grant-keeps {ok} {t} s who amount =
    if-cases (SoundBy ok) (eqb (first_of (grant_rows t who amount)) 0)
    (λ z. let a = grant-passes t who amount (eqb-true _ 0 z) in grant-sound s who amount a.0 a.1)
    (λ z. s)

-- ---- Open
fresh-shares : (shares : List ℕ) → total (λ (m : Meter). m.share) (map new_meter shares) ≡ total (λ (n : ℕ). n) shares
unfolding total
fresh-shares [] = refl
fresh-shares (x ∷ shares) = ap (λ (n : ℕ). x + n) (fresh-shares shares)

fresh-fuel : (shares : List ℕ) → Each (λ (m : Meter). m.fuel ≤ most_fuel) (map new_meter shares)
fresh-fuel [] = Each.none
fresh-fuel (x ∷ shares) = let none : 0 ≤ most_fuel = omega arith in Each.also none (fresh-fuel shares)

fresh-given : (shares : List ℕ) → Each (λ (m : Meter). m.serials ≤ most_serials) (map new_meter shares)
fresh-given [] = Each.none
fresh-given (x ∷ shares) = let none : 0 ≤ most_serials = omega arith in Each.also none (fresh-given shares)

pub fresh-sound : {ok : ℕ → Type 0} (shares : List ℕ) → length shares ≡ 16 → total (λ n. n) shares ≤ 64 → SoundBy ok (fresh shares)
unfolding fresh count_if
fresh-sound shares six sum = record {
  sixteen = length-map shares new_meter ∙ six;
  shares = rw (fresh-shares shares) sum;
  fuel = fresh-fuel shares;
  given = fresh-given shares;
  places = λ who h. omega arith;
  entries = Each.none;
  records = Each.none;
  serials = InOrder.none;
  clear = InOrder.none;
}

no-shares : total (λ (n : ℕ). n) (replicate 16 0) ≤ 64
unfolding total
no-shares = omega arith

-- refusal 14's table
pub shut-sound : {ok : ℕ → Type 0} → SoundBy ok (fresh (replicate 16 0))
shut-sound = fresh-sound (replicate 16 0) refl no-shares

pub open-sound : {ok : ℕ → Type 0} (shares : List ℕ) → SoundBy ok (open_of shares).table
unfolding open_of
open-sound {ok} shares =
    if-cases (SoundBy ok) (eqb (first_of (open_rows shares)) 0)
    (λ z. let a = open-passes shares (eqb-true _ 0 z) in fresh-sound shares a.0 a.1)
    (λ z. shut-sound)

-- ---- any call
pub step-sound : (p : Prices) {ok : ℕ → Type 0} {t : Table} → SoundBy ok t → (c : Call) → Each ok (records_of c) → SoundBy ok (step p t c).table
step-sound p s (Begin who awaited reads writes) named = begin-keeps p s who awaited reads writes named
step-sound p s (Finish who serial) named = finish-keeps p s who serial
step-sound p s (Recheck who serial) named = recheck-keeps p s who serial
step-sound p s (Scan who) named = scan-keeps p s who
step-sound p s (Open shares) named = open-sound shares
step-sound p s (Grant who amount) named = grant-keeps s who amount
step-sound p s Pick named = pick-keeps s
step-sound p s (Deliver who serial) named = deliver-keeps s who serial
step-sound p s (Evict who serial) named = evict-keeps s who serial
step-sound p s (Cancel who serial) named = cancel-keeps p s who serial

-- ---- whatever records are named
pub step-any : (p : Prices) {t : Table} → SoundAny t → (c : Call) → SoundAny (step p t c).table
step-any p s c = step-sound p s c (each_all (records_of c) (λ r. tt))

pub sound-any : {ok : ℕ → Type 0} {t : Table} → SoundBy ok t → SoundAny t
sound-any s = record {
  sixteen = s.sixteen;
  shares = s.shares;
  fuel = s.fuel;
  given = s.given;
  places = s.places;
  entries = s.entries;
  records = each_map (λ e k. record { reads = each_all e.reads (λ r. tt); writes = each_all e.writes (λ r. tt) }) s.records;
  serials = s.serials;
  clear = s.clear;
}
