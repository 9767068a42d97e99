-- Promise 6: a refused call changes nothing but fuel, and burns the table's charge. The rows of a tenant's call let it pass,
-- or give 1 to a stranger, 2 to a dry tank, and otherwise a number that is charged, where there is fuel.
use Rattle.std.specs.Prelude.{if◌then◌else◌}
use Prim.Native.Nat.{ℕ, zero, suc, ◌-◌, ◌<◌, min}
use mathlib.Core.Path.{◌≡◌, refl, subst, ap, ◌∙◌}
use mathlib.Core.Bool.{Bool, true, false, ◌&&◌, ◌||◌, not, true≢false}
use mathlib.Core.List.{List, [], ◌∷◌}
use native.Mathlib.Omega.{arith}
use lib.Dec.{eqb, ltb}
use lib.ListN.{length, get_or, set, replicate}
use borrow.Author.Tests.{eqb-true, eqb-false, not-true, not-false}
use Rattle.rules.specs.declared.Answer.{Answer}
use Rattle.rules.specs.declared.Answer.TheVariants.{Ok, Still, Refused}
use Rattle.rules.specs.Lists.{some, every, total}
use Rattle.rules.specs.Records.{member}
use Rattle.rules.specs.Request.{Request, reduced, is_free, is_blocked, promoted}
use Rattle.rules.specs.Table.{Meter, Table, is_tenant, no_meter, meter_of, spent, burn, fresh}
use Rattle.rules.specs.Prices.{Prices, clause9, searching, costly, charge}
use Rattle.rules.specs.Refusals.{Row, ◌gives◌, first_of, is_dry, is_absent, entry_of, begin_rows, finish_rows, recheck_rows, scan_rows, deliver_rows, evict_rows, cancel_rows, grant_rows, open_rows}
use Rattle.rules.specs.Counters.{cx, cs, alone}
use Rattle.rules.specs.Scan.{End, found, nothing, short}
use Rattle.rules.specs.Calls.{Outcome, tenant_call, host_call, named, asked, found-table, found-answer, search, pick_end, begin_of, finish_of, recheck_of, scan_of, open_of, grant_of, pick_of, deliver_of, evict_of, cancel_of}
use Rattle.rules.specs.Said.{said}
use Rattle.rules.specs.Runs.{Call, step, number, caller_of, is_open}
use Rattle.rules.specs.Runs.Call.{Begin, Finish, Recheck, Scan, Open, Grant, Pick, Deliver, Evict, Cancel}
use Rattle.rules.proofs.Tests.{both, if-either, if-cases}
use Rattle.rules.proofs.Keeps.{burn-none}
use Rattle.rules.proofs.Costly.{charge-low, charge-unit, charge-one}
use Rattle.rules.proofs.Clashing.{begun-said}
use Rattle.promises.specs.Fuel.{fuel_of, column}
use Rattle.promises.specs.Refused.{SameButFuel, Refusal, Refuses, Refuses9, RefusedOpen, RefusesOpen, NeverFive}

-- ---- what the rows of a tenant's call give
pub data Verdict (who fuel : ℕ) : ℕ → Type 0 where
  passes : Verdict who fuel 0
  stranger : is_tenant who ≡ false → Verdict who fuel 1
  dry : Verdict who fuel 2
  costs : {n : ℕ} → member n costly ≡ true → 0 < fuel → Verdict who fuel n

module _ {who fuel : ℕ} where
  -- rows that all have charged numbers
  charged-rows : (rows : List Row) → every (λ row. member row.number costly) rows ≡ true → 0 < fuel → Verdict who fuel (first_of rows)
  unfolding first_of every
  charged-rows [] all h = Verdict.passes
  charged-rows (row ∷ rows) all h =
      let split = both (member row.number costly) (every (λ (row : Row). member row.number costly) rows) all in
      if-cases (Verdict who fuel) row.when (λ e. Verdict.costs split.0 h) (λ e. charged-rows rows split.1 h)

pub positive : (n : ℕ) → eqb n 0 ≡ false → 0 < n
positive n h = omega (arith, eqb-false n 0 h)

module _ (t : Table) (who : ℕ) where
  -- Begin, Recheck, Scan and cancel: 1, 2, and then charged numbers
  tenant-rows : (rows : List Row) → every (λ row. member row.number costly) rows ≡ true → Verdict who (fuel_of t who) (first_of (not (is_tenant who) gives 1 ∷ is_dry t who gives 2 ∷ rows))
  unfolding first_of
  tenant-rows rows all =
      if-cases (Verdict who (fuel_of t who)) (not (is_tenant who)) (λ s. Verdict.stranger (not-true (is_tenant who) s))
      (λ s. if-cases (Verdict who (fuel_of t who)) (is_dry t who) (λ d. Verdict.dry) (λ d. charged-rows rows all (positive (fuel_of t who) d)))

  -- Finish: 2 is given only where the entry is not there or not Free
  dry-finish : (absent free : Bool) → Verdict who (fuel_of t who) (first_of ((absent || not free) gives 2 ∷ absent gives 10 ∷ not free gives 11 ∷ []))
  unfolding first_of
  dry-finish true free = Verdict.dry
  dry-finish false true = Verdict.passes
  dry-finish false false = Verdict.dry

  pub finish-verdict : (serial : ℕ) → Verdict who (fuel_of t who) (first_of (finish_rows t who serial))
  unfolding first_of finish_rows every member some costly
  finish-verdict serial =
      if-cases (Verdict who (fuel_of t who)) (not (is_tenant who)) (λ s. Verdict.stranger (not-true (is_tenant who) s)) (λ s. go (is_dry t who) refl)
    where
      absent : Bool
      absent = is_absent who serial t.queue

      free : Bool
      free = is_free (entry_of who serial t.queue).mode

      go : (b : Bool) → is_dry t who ≡ b → Verdict who (fuel_of t who) (first_of ((b && (absent || not free)) gives 2 ∷ absent gives 10 ∷ not free gives 11 ∷ []))
      go true d = dry-finish absent free
      go false d = charged-rows (absent gives 10 ∷ not free gives 11 ∷ []) refl (positive (fuel_of t who) d)

  pub recheck-verdict : (p : Prices) (serial : ℕ) → Verdict who (fuel_of t who) (first_of (recheck_rows p t who serial))
  unfolding recheck_rows every member some costly
  recheck-verdict p serial = tenant-rows _ refl

  pub cancel-verdict : (serial : ℕ) → Verdict who (fuel_of t who) (first_of (cancel_rows t who serial))
  unfolding cancel_rows every member some costly
  cancel-verdict serial = tenant-rows _ refl

  pub scan-verdict : Verdict who (fuel_of t who) (first_of (scan_rows t who))
  unfolding scan_rows every
  scan-verdict = tenant-rows [] refl

pub begin-verdict : (p : Prices) (t : Table) (e : Request) → Verdict e.tenant (fuel_of t e.tenant) (first_of (begin_rows p t e))
unfolding begin_rows every member some costly
begin-verdict p t e = tenant-rows t e.tenant _ refl

-- Scan: "1, 2, then it walks"
pub scan-cases : (t : Table) (who : ℕ) (P : ℕ → Type 0) → P 1 → P 2 → (is_tenant who ≡ true → 0 < fuel_of t who → P 0) → P (first_of (scan_rows t who))
unfolding first_of scan_rows
scan-cases t who P one two walks =
    if-cases P (not (is_tenant who)) (λ s. one)
    (λ s. if-cases P (is_dry t who) (λ d. two) (λ d. walks (not-false (is_tenant who) s) (positive (fuel_of t who) d)))

-- ---- who burns fuel keeps all else
-- an element is put that looks the same
pub view-set : {A : Type 0} (f : A → ℕ) (l : List A) (i j : ℕ) (a d : A) → f a ≡ f (get_or l i d) → f (get_or (set l i a) j d) ≡ f (get_or l j d)
view-set f [] i j a d e = refl
view-set f (x ∷ l) zero zero a d e = e
view-set f (x ∷ l) zero (suc j) a d e = refl
view-set f (x ∷ l) (suc i) zero a d e = refl
view-set f (x ∷ l) (suc i) (suc j) a d e = view-set f l i j a d e

burn-same : (caller units : ℕ) (t : Table) → SameButFuel t (burn caller units t)
burn-same caller units t =
    let m = meter_of t caller in
    record {
      exclusive = λ r. refl;
      shared = λ r. refl;
      entries = refl;
      places = λ who. refl;
      serials = λ who. view-set (λ (n : Meter). n.serials) t.meters (caller - 1) (who - 1) (spent m units) no_meter refl;
      shares = λ who. view-set (λ (n : Meter). n.share) t.meters (caller - 1) (who - 1) (spent m units) no_meter refl;
    }

host-same : (t : Table) → SameButFuel t t
host-same t = subst (SameButFuel t) (burn-none 0 t) (burn-same 0 0 t)

-- ---- a refused call
-- it is its rows that refuse a call whose own answer is no refusal
by_rows : (z : ℕ) (answer : Answer) → (said answer).number ≡ 0 → eqb (said (if eqb z 0 then answer else Refused z)).number 0 ≡ false → eqb z 0 ≡ false
by_rows z answer none =
    if-cases (λ (a : Answer). eqb (said a).number 0 ≡ false → eqb z 0 ≡ false) (eqb z 0) (λ e. λ h. absurd (true≢false (rw none at h))) (λ e. λ h. e)

-- and a call that is not refused has passed them
pub not-refused : (z : ℕ) (answer : Answer) → (said (if eqb z 0 then answer else Refused z)).number ≡ 0 → z ≡ 0
not-refused z answer = if-cases (λ (a : Answer). (said a).number ≡ 0 → z ≡ 0) (eqb z 0) (λ e. λ h. eqb-true z 0 e) (λ e. λ h. h)

-- what a charged refusal burns of the caller's fuel
abbrev Charge : Prices → Table → ℕ → ℕ → Type 0
Charge p t who unit = (n : ℕ) → member n costly ≡ true → 0 < fuel_of t who → charge p (fuel_of t who) n ≡ unit

module _ (p : Prices) (t : Table) (who unit : ℕ) (is : Charge p t who unit) where
  -- the law book's charge is the column's
  charge-column : {n : ℕ} → Verdict who (fuel_of t who) n → eqb n 0 ≡ false → charge p (fuel_of t who) n ≡ column unit n
  unfolding member some costly
  charge-column Verdict.passes z = absurd (true≢false z)
  charge-column (Verdict.stranger h) z = charge-low p (fuel_of t who) 1 (omega arith)
  charge-column Verdict.dry z = charge-low p (fuel_of t who) 2 (omega arith)
  charge-column (Verdict.costs {n = n} range h) z = is n range h ∙ rw range

  -- the rows refuse it
  tenant-refused : (z price : ℕ) (deed : Table) (answer : Answer) → Verdict who (fuel_of t who) z → (said answer).number ≡ 0 → let o = tenant_call p t who z price deed answer in eqb (number o) 0 ≡ false → SameButFuel t o.table × (o.burnt ≡ column unit (number o))
  tenant-refused z price deed answer v none h =
      let refused : eqb z 0 ≡ false = by_rows z answer none h in
      rw refused (burn-same who (charge p (fuel_of t who) z) t, charge-column v refused)

-- a host's call, which burns nothing
host-refused : (t : Table) (z : ℕ) (deed : Table) (answer : Answer) → (said answer).number ≡ 0 → let o = host_call t z deed answer in eqb (number o) 0 ≡ false → SameButFuel t o.table
host-refused t z deed answer none h = rw (by_rows z answer none h) (host-same t)

-- Pick is never refused
pick-number : (q : List Request) → (said (found-answer q (pick_end q))).number ≡ 0
pick-number [] = refl
pick-number (e ∷ q) = if-either (λ (end : End). (said (found-answer (e ∷ q) end)).number ≡ 0) (is_blocked e.mode) refl refl

-- a Recheck that its rows let pass is not refused
recheck-number : (clear : Bool) (e : Request) → (said (if clear then named e else Still)).number ≡ 0
recheck-number true e = refl
recheck-number false e = refl

-- a search that its rows let pass is refused only where it is cut short
short-only : (p : Prices) (t : Table) (who unit : ℕ) (looked : List Request) (end : End) → let o = tenant_call p t who 0 (searching p looked) (found-table t end) (found-answer t.queue end) in eqb (number o) 0 ≡ false → Refusal unit (searching p looked) t (Scan who) o
short-only p t who unit looked (found at) h = absurd (true≢false h)
short-only p t who unit looked nothing h = absurd (true≢false h)
short-only p t who unit looked short h = record { same = burn-same who (searching p looked) t; burnt = refl }

-- Scan: its rows refuse it, or it is cut short
refused-search : (p : Prices) (t : Table) (who unit : ℕ) → Charge p t who unit → eqb (number (scan_of p t who)) 0 ≡ false → Refusal unit (searching p (search p t who).looked) t (Scan who) (scan_of p t who)
unfolding scan_of member some costly
refused-search p t who unit is =
    let w = search p t who in
    let outcome : ℕ → Outcome = λ z. tenant_call p t who z (searching p w.looked) (found-table t w.end) (found-answer t.queue w.end) in
    let refusal : ℕ → Type 0 = λ z. eqb (number (outcome z)) 0 ≡ false → Refusal unit (searching p w.looked) t (Scan who) (outcome z) in
    scan-cases t who refusal
    (λ h. record { same = burn-same who _ t; burnt = charge-low p (fuel_of t who) 1 (omega arith) })
    (λ h. record { same = burn-same who _ t; burnt = charge-low p (fuel_of t who) 2 (omega arith) })
    (λ tenant fuelled. short-only p t who unit w.looked w.end)

-- any call but Open
refused-call : (p : Prices) (t : Table) (c : Call) (unit : ℕ) → Charge p t (caller_of c) unit → is_open c ≡ false → eqb (number (step p t c)) 0 ≡ false → Refusal unit (searching p (search p t (caller_of c)).looked) t c (step p t c)
unfolding begin_of finish_of recheck_of grant_of pick_of deliver_of evict_of cancel_of
refused-call p t (Begin who awaited reads writes) unit is shut h =
    let e = asked t who awaited reads writes in
    let r = tenant-refused p t who unit is (first_of (begin_rows p t e)) _ _ _ (begin-verdict p t e) (begun-said t.queue (reduced e)).0 h in
    record { same = r.0; burnt = r.1 }
refused-call p t (Finish who serial) unit is shut h =
    let r = tenant-refused p t who unit is (first_of (finish_rows t who serial)) _ _ _ (finish-verdict t who serial) refl h in
    record { same = r.0; burnt = r.1 }
refused-call p t (Recheck who serial) unit is shut h =
    let e = entry_of who serial t.queue in
    let plain = recheck-number (alone (cx t.queue) (cs t.queue) e) (promoted e) in
    let r = tenant-refused p t who unit is (first_of (recheck_rows p t who serial)) _ _ _ (recheck-verdict t who p serial) plain h in
    record { same = r.0; burnt = r.1 }
refused-call p t (Scan who) unit is shut h = refused-search p t who unit is h
refused-call p t (Open shares) unit is shut h = absurd (true≢false shut)
refused-call p t (Grant who amount) unit is shut h =
    record { same = host-refused t (first_of (grant_rows t who amount)) _ Ok refl h; burnt = refl }
refused-call p t Pick unit is shut h = absurd (true≢false (rw (pick-number t.queue) at h))
refused-call p t (Deliver who serial) unit is shut h =
    record { same = host-refused t (first_of (deliver_rows t who serial)) _ _ refl h; burnt = refl }
refused-call p t (Evict who serial) unit is shut h =
    record { same = host-refused t (first_of (evict_rows t who serial)) _ _ refl h; burnt = refl }
refused-call p t (Cancel who serial) unit is shut h =
    let r = tenant-refused p t who unit is (first_of (cancel_rows t who serial)) _ _ _ (cancel-verdict t who serial) refl h in
    record { same = r.0; burnt = r.1 }

-- ---- 6 "A refusal changes no counter, entry, place or serial, and burns exactly the table's charge": the list's, or what
-- is left if less; and document 01's, which is 1
pub refuses : (p : Prices) → Refuses p
refuses p t c = refused-call p t c (min p.refused (fuel_of t (caller_of c))) (λ n range fuelled. charge-unit p (fuel_of t (caller_of c)) n range)

pub refuses9 : Refuses9
refuses9 t c = refused-call clause9 t c 1 (charge-one (fuel_of t (caller_of c)))

-- Open's refusal is 14, and hands out every share 0
pub refuses-open : RefusesOpen
unfolding open_of open_rows first_of
refuses-open shares = go (not (eqb (length shares) 16) || ltb 64 (total (λ n. n) shares))
  where
    go : (b : Bool) → let o = host_call (fresh (replicate 16 0)) (if b then 14 else 0) (fresh shares) Ok in eqb (number o) 0 ≡ false → RefusedOpen o
    go true h = record { refused = refl; table = refl; burnt = refl }
    go false h = absurd (true≢false h)

-- ---- 5 is no longer given
-- a number that no row has is not given
rows-without : (n : ℕ) (rows : List Row) → eqb 0 n ≡ false → every (λ row. not (eqb row.number n)) rows ≡ true → eqb (first_of rows) n ≡ false
unfolding first_of every
rows-without n [] own all = own
rows-without n (row ∷ rows) own all =
    let split = both (not (eqb row.number n)) (every (λ (row : Row). not (eqb row.number n)) rows) all in
    if-either (λ (k : ℕ). eqb k n ≡ false) row.when (not-true (eqb row.number n) split.0) (rows-without n rows own split.1)

-- a call answers with its rows' number, or with an answer of its own
abbrev No5 : Answer → Type 0
No5 answer = eqb (said answer).number 5 ≡ false

by-rows-5 : (rows : List Row) (answer : Answer) → every (λ row. not (eqb row.number 5)) rows ≡ true → No5 answer → No5 (if eqb (first_of rows) 0 then answer else Refused (first_of rows))
by-rows-5 rows answer all own = if-either No5 (eqb (first_of rows) 0) own (rows-without 5 rows refl all)

found-5 : (q : List Request) (end : End) → No5 (found-answer q end)
found-5 q (found at) = refl
found-5 q nothing = refl
found-5 q short = refl

pub never-five : (p : Prices) → NeverFive p
unfolding begin_of finish_of recheck_of scan_of open_of grant_of pick_of deliver_of evict_of cancel_of begin_rows finish_rows recheck_rows scan_rows open_rows grant_rows deliver_rows evict_rows cancel_rows every
never-five p t (Begin who awaited reads writes) =
    let e = reduced (asked t who awaited reads writes) in
    by-rows-5 _ _ refl (ap (λ (n : ℕ). eqb n 5) (begun-said t.queue e).0)
never-five p t (Finish who serial) = by-rows-5 _ _ refl refl
never-five p t (Recheck who serial) =
    let e = entry_of who serial t.queue in
    by-rows-5 _ _ refl (if-either No5 (alone (cx t.queue) (cs t.queue) e) refl refl)
never-five p t (Scan who) = by-rows-5 _ _ refl (found-5 t.queue (search p t who).end)
never-five p t (Open shares) = by-rows-5 _ _ refl refl
never-five p t (Grant who amount) = by-rows-5 _ _ refl refl
never-five p t Pick = found-5 t.queue (pick_end t.queue)
never-five p t (Deliver who serial) = by-rows-5 _ _ refl refl
never-five p t (Evict who serial) = by-rows-5 _ _ refl refl
never-five p t (Cancel who serial) = by-rows-5 _ _ refl refl
