-- Promises 1 and 2: a call burns its price; the caller's fuel falls by that, no other call changes it but Grant, and so
-- what was granted is what was burnt and what is left.
use Rattle.std.specs.Prelude.{if◌then◌else◌}
use Prim.Native.Nat.{ℕ, zero, suc, ◌+◌, ◌-◌, ◌≤◌}
use mathlib.Core.Path.{◌≡◌, refl, ap}
use mathlib.Core.Bool.{Bool, true, false, true≢false}
use mathlib.Core.List.{List, [], ◌∷◌, map}
use native.Mathlib.Omega.{arith}
use lib.Dec.{eqb}
use lib.ListN.{get_or, replicate, length-set}
use borrow.Author.Tests.{eqb-true, ltb-false}
use Rattle.rules.specs.declared.Answer.{Answer}
use Rattle.rules.specs.declared.Answer.TheVariants.{Ok, Refused}
use Rattle.rules.specs.Lists.{total}
use Rattle.rules.specs.Request.{Request, reduced, size, admitted}
use Rattle.rules.specs.Table.{Meter, Table, is_tenant, no_meter, meter_of, with_queue, with_meter, spent, granted, numbered, new_meter, fresh}
use Rattle.rules.specs.Prices.{Prices, admission, searching}
use Rattle.rules.specs.Refusals.{first_of, entry_of, begin_rows, finish_rows, recheck_rows, scan_rows, deliver_rows, evict_rows, cancel_rows, grant_rows, open_rows}
use Rattle.rules.specs.Counters.{cx, cs, alone}
use Rattle.rules.specs.Scan.{End, found, nothing, short}
use Rattle.rules.specs.Calls.{Outcome, tenant_call, host_call, asked, joined, found-table, search, pick_end, begin_of, finish_of, recheck_of, scan_of, open_of, grant_of, pick_of, deliver_of, evict_of, cancel_of}
use Rattle.rules.specs.Said.{said}
use Rattle.rules.specs.Sound.{SoundAny}
use Rattle.rules.specs.Runs.{Call, step, event_of, number, caller_of, price_of, is_open, burnt_by, prices_by, granted_to}
use Rattle.rules.specs.Runs.Call.{Begin, Finish, Recheck, Scan, Open, Grant, Pick, Deliver, Evict, Cancel}
use Rattle.rules.proofs.Tests.{if-either, if-cases}
use Rattle.rules.proofs.Meters.{Sixteen, tenant-range, meter-own, meter-other}
use Rattle.rules.proofs.Prices.{search-pays}
use Rattle.rules.proofs.Refusals.{pass, stranger, free-of-charge, begin-passes, grant-passes, cancel-passes}
use Rattle.rules.proofs.Costly.{charge-fits}
use Rattle.rules.proofs.Keeps.{burn-none}
use Rattle.promises.specs.Fuel.{Fair, fuel_of, gift, BurnsPrice, BurnsPrices, OwnCall, OtherCall, Balance}
use Rattle.promises.proofs.Refusals.{positive, view-set}
use Rattle.promises.proofs.Runs.{any-run}

-- ---- 1 "the prices of its own calls"
-- a call burns its price
pub burns-price : (p : Prices) → BurnsPrice p
unfolding price_of begin_of finish_of recheck_of scan_of open_of grant_of pick_of deliver_of evict_of cancel_of
burns-price p t (Begin who awaited reads writes) = refl
burns-price p t (Finish who serial) = refl
burns-price p t (Recheck who serial) = refl
burns-price p t (Scan who) = refl
burns-price p t (Open shares) = refl
burns-price p t (Grant who amount) = refl
burns-price p t Pick = refl
burns-price p t (Deliver who serial) = refl
burns-price p t (Evict who serial) = refl
burns-price p t (Cancel who serial) = refl

-- and so the tenant's calls of a run burn the sum of theirs
pub burns-prices : (p : Prices) → BurnsPrices p
unfolding burnt_by prices_by total
burns-prices p shares calls who =
    any-run p (λ t steps. burnt_by who steps ≡ prices_by p who steps) (λ shares. refl)
    (λ t steps c s shut so_far. rw (burns-price p t c, so_far))
    shares calls

-- ---- "fuel ... at first 0"
new-dry : (shares : List ℕ) (i : ℕ) → (get_or (map new_meter shares) i no_meter).fuel ≡ 0
new-dry [] i = refl
new-dry (x ∷ shares) zero = refl
new-dry (x ∷ shares) (suc i) = new-dry shares i

open-dry : (shares : List ℕ) (who : ℕ) → fuel_of (open_of shares).table who ≡ 0
unfolding open_of fresh
open-dry shares who =
    if-either (λ (t : Table). fuel_of t who ≡ 0) (eqb (first_of (open_rows shares)) 0) (new-dry shares (who - 1)) (new-dry (replicate 16 0) (who - 1))

-- ---- what a call does to one tenant's fuel
pub same_if : (b : Bool) (n : ℕ) → (if b then n else n) ≡ n
same_if true n = refl
same_if false n = refl

-- a deed that leaves all fuel as it is
record Kept (t deed : Table) : Type 0 where
  sixteen : Sixteen deed
  fuel : (who : ℕ) → fuel_of deed who ≡ fuel_of t who

module _ {t : Table} (s : SoundAny t) where
  queue-kept : (q : List Request) → Kept t (with_queue t q)
  queue-kept q = record { sixteen = s.sixteen; fuel = λ who. refl }

  found-kept : (end : End) → Kept t (found-table t end)
  found-kept (found at) = queue-kept _
  found-kept nothing = queue-kept _
  found-kept short = queue-kept _

  joined-kept : (e : Request) → Kept t (joined t e)
  joined-kept e = record {
    sixteen = simp length-set s.sixteen;
    fuel = λ who. view-set (λ (m : Meter). m.fuel) t.meters (e.tenant - 1) (who - 1) (numbered (meter_of t e.tenant)) no_meter refl;
  }

  module _ (p : Prices) (caller z price : ℕ) {deed : Table} (answer : Answer) (kept : Kept t deed) (outside : is_tenant caller ≡ false → z ≡ 1) (fits : z ≡ 0 → price ≤ fuel_of t caller) where
    abbrev outcome : Outcome
    outcome = tenant_call p t caller z price deed answer

    -- what it burns is in the tank
    units-fit : outcome.burnt ≤ fuel_of t caller
    units-fit = if-cases (λ (n : ℕ). n ≤ fuel_of t caller) (eqb z 0) (λ e. fits (eqb-true z 0 e)) (λ e. charge-fits p (fuel_of t caller) z)

    -- before the fuel is burnt
    start : Kept t (if eqb z 0 then deed else t)
    start = if-either (Kept t) (eqb z 0) kept (queue-kept t.queue)

    -- a stranger burns nothing
    stranger-table : is_tenant caller ≡ false → outcome.table ≡ t
    stranger-table k = rw (outside k, free-of-charge p (fuel_of t caller)) (burn-none caller t)

    stranger-burnt : is_tenant caller ≡ false → outcome.burnt ≡ 0
    stranger-burnt k = rw (outside k) (free-of-charge p (fuel_of t caller))

    -- it takes from the caller's fuel what it burns, and nothing from another's
    tenant-fuel : (who : ℕ) → is_tenant who ≡ true → fuel_of t who ≡ fuel_of outcome.table who + (if eqb caller who then outcome.burnt else 0)
    tenant-fuel who h = go (is_tenant caller) refl
      where
        begun : Table
        begun = if eqb z 0 then deed else t

        left : Meter
        left = spent (meter_of begun caller) outcome.burnt

        own : is_tenant caller ≡ true → (b : Bool) → eqb caller who ≡ b → fuel_of t who ≡ fuel_of outcome.table who + (if b then outcome.burnt else 0)
        own k true e =
            let same : caller ≡ who = eqb-true caller who e in
            let after = meter-own begun start.sixteen caller k left in
            omega (arith, ap (λ (m : Meter). m.fuel) after, ap (fuel_of outcome.table) same, ap (fuel_of t) same, start.fuel caller, units-fit)
        own k false e =
            let after = meter-other begun start.sixteen caller k left who h e in
            omega (arith, ap (λ (m : Meter). m.fuel) after, start.fuel who)

        go : (b : Bool) → is_tenant caller ≡ b → fuel_of t who ≡ fuel_of outcome.table who + (if eqb caller who then outcome.burnt else 0)
        go true k = own k (eqb caller who) refl
        go false k =
            let none : (if eqb caller who then outcome.burnt else 0) ≡ 0 = rw (stranger-burnt k) (same_if (eqb caller who) 0) in
            let same : fuel_of outcome.table who ≡ fuel_of t who = ap (λ (u : Table). fuel_of u who) (stranger-table k) in
            omega arith

    -- a tenant's call gives no fuel
    tenant-moves : (who given : ℕ) → is_tenant who ≡ true → given ≡ 0 → fuel_of t who + given ≡ fuel_of outcome.table who + (if eqb caller who then outcome.burnt else 0)
    tenant-moves who given h none = omega (arith, tenant-fuel who h)

-- ---- any call
-- a call's price is in the tank
recheck-fits : (p : Prices) (t : Table) (who serial : ℕ) → first_of (recheck_rows p t who serial) ≡ 0 → p.recheck (size (entry_of who serial t.queue)) ≤ fuel_of t who
unfolding recheck_rows
recheck-fits p t who serial z =
    let a = pass _ 1 _ refl z in
    let b = pass _ 2 _ refl a.1 in
    let c = pass _ 10 _ refl b.1 in
    let d = pass _ 11 _ refl c.1 in
    let e = pass _ 9 _ refl d.1 in
    ltb-false (fuel_of t who) (p.recheck (size (entry_of who serial t.queue))) e.0

search-fits : {p : Prices} → Fair p → (t : Table) (who : ℕ) → first_of (scan_rows t who) ≡ 0 → searching p (search p t who).looked ≤ fuel_of t who
unfolding scan_rows
search-fits {p} f t who z =
    let a = pass _ 1 _ refl z in
    let b = pass _ 2 _ refl a.1 in
    omega (arith, search-pays p t who, positive (fuel_of t who) b.0, f.search)

-- the tenant's fuel, and what the call gives it, is what it then has and what it burnt
abbrev Moves : Prices → Table → ℕ → Call → Type 0
Moves p t who c = let o = step p t c in fuel_of t who + gift who c o ≡ fuel_of o.table who + (if eqb (caller_of c) who then o.burnt else 0)

module _ {p : Prices} (f : Fair p) {t : Table} (s : SoundAny t) (who : ℕ) (h : is_tenant who ≡ true) where
  -- a host's call that gives no fuel
  host-moves : (z : ℕ) {deed : Table} (answer : Answer) (given : ℕ) → Kept t deed → given ≡ 0 → let o = host_call t z deed answer in fuel_of t who + given ≡ fuel_of o.table who + (if eqb 0 who then 0 else 0)
  host-moves z {deed} answer given kept none =
      let start : Kept t (if eqb z 0 then deed else t) = if-either (Kept t) (eqb z 0) kept (queue-kept s t.queue) in
      omega (arith, start.fuel who, same_if (eqb 0 who) 0)

  -- a Grant gives its amount to the tenant that it names
  grant-moves : (w amount : ℕ) → Moves p t who (Grant w amount)
  unfolding grant_of
  grant-moves w amount = go (eqb z 0) refl
    where
      z : ℕ
      z = first_of (grant_rows t w amount)

      more : Table
      more = with_meter t w (granted (meter_of t w) amount)

      added : is_tenant w ≡ true → (b : Bool) → eqb w who ≡ b → fuel_of more who ≡ fuel_of t who + (if b then amount else 0)
      added k true e =
          let same : w ≡ who = eqb-true w who e in
          let own = meter-own t s.sixteen w k (granted (meter_of t w) amount) in
          omega (arith, ap (λ (m : Meter). m.fuel) own, ap (fuel_of more) same, ap (fuel_of t) same)
      added k false e =
          let after = meter-other t s.sixteen w k (granted (meter_of t w) amount) who h e in
          omega (arith, ap (λ (m : Meter). m.fuel) after)

      go : (b : Bool) → eqb z 0 ≡ b → fuel_of t who + (if eqb (said (if b then Ok else Refused z)).number 0 then (if eqb w who then amount else 0) else 0) ≡ fuel_of (if b then more else t) who + (if eqb 0 who then 0 else 0)
      go true e =
          let passes = grant-passes t w amount (eqb-true z 0 e) in
          omega (arith, added passes.0 (eqb w who) refl, same_if (eqb 0 who) 0)
      go false e = rw (e, same_if (eqb 0 who) 0)

  -- what a call without an amount gives
  none-given : (c : Call) → (event_of c).amount ≡ 0 → gift who c (step p t c) ≡ 0
  none-given c none = rw (none, same_if (eqb (event_of c).tenant who) 0) (same_if (eqb (number (step p t c)) 0) 0)

  -- any call but Open; the fuel does not depend on what it answers
  moves : (c : Call) → is_open c ≡ false → Moves p t who c
  unfolding begin_of finish_of recheck_of scan_of pick_of deliver_of evict_of cancel_of begin_rows finish_rows recheck_rows scan_rows cancel_rows
  moves (Begin w awaited reads writes) shut =
      let e = asked t w awaited reads writes in
      tenant-moves s p w (first_of (begin_rows p t e)) (admission p (reduced e)) Ok (joined-kept s (admitted t.queue (reduced e))) (stranger w _) (λ z. (begin-passes p t e z).fuel) who _ h (none-given (Begin w awaited reads writes) refl)
  moves (Finish w serial) shut =
      tenant-moves s p w (first_of (finish_rows t w serial)) p.finish Ok (queue-kept s _) (stranger w _) (λ z. omega (arith, f.finish)) who _ h (none-given (Finish w serial) refl)
  moves (Recheck w serial) shut =
      let e = entry_of w serial t.queue in
      tenant-moves s p w (first_of (recheck_rows p t w serial)) (p.recheck (size e)) Ok (if-either (Kept t) (alone (cx t.queue) (cs t.queue) e) (queue-kept s _) (queue-kept s _)) (stranger w _) (recheck-fits p t w serial) who _ h (none-given (Recheck w serial) refl)
  moves (Scan w) shut =
      tenant-moves s p w (first_of (scan_rows t w)) (searching p (search p t w).looked) Ok (found-kept s (search p t w).end) (stranger w _) (search-fits f t w) who _ h (none-given (Scan w) refl)
  moves (Open shares) shut = absurd (true≢false shut)
  moves (Grant w amount) shut = grant-moves w amount
  moves Pick shut =
      host-moves 0 Ok _ (found-kept s (pick_end t.queue)) (none-given Pick refl)
  moves (Deliver w serial) shut = host-moves (first_of (deliver_rows t w serial)) Ok _ (queue-kept s _) (none-given (Deliver w serial) refl)
  moves (Evict w serial) shut = host-moves (first_of (evict_rows t w serial)) Ok _ (queue-kept s _) (none-given (Evict w serial) refl)
  moves (Cancel w serial) shut =
      tenant-moves s p w (first_of (cancel_rows t w serial)) p.cancel Ok (queue-kept s _) (stranger w _) (λ z. omega (arith, f.cancel, (cancel-passes t w serial z).fuelled)) who _ h (none-given (Cancel w serial) refl)

-- a host's call is no tenant's own
no-host : (who : ℕ) → is_tenant who ≡ true → eqb 0 who ≡ true → ⊥
no-host who h e = let r = tenant-range who h in omega (arith, r.0, eqb-true 0 who e)

-- a call that is a tenant's own is no opening, and has no amount
own-call-is : (c : Call) (who : ℕ) → is_tenant who ≡ true → eqb (caller_of c) who ≡ true → (is_open c ≡ false) × ((event_of c).amount ≡ 0)
own-call-is (Begin w awaited reads writes) who h e = (refl, refl)
own-call-is (Finish w serial) who h e = (refl, refl)
own-call-is (Recheck w serial) who h e = (refl, refl)
own-call-is (Scan w) who h e = (refl, refl)
own-call-is (Open shares) who h e = absurd (no-host who h e)
own-call-is (Grant w amount) who h e = absurd (no-host who h e)
own-call-is Pick who h e = absurd (no-host who h e)
own-call-is (Deliver w serial) who h e = absurd (no-host who h e)
own-call-is (Evict w serial) who h e = absurd (no-host who h e)
own-call-is (Cancel w serial) who h e = (refl, refl)

module _ {p : Prices} (f : Fair p) where
  -- 1 the tenant's own call lowers its fuel by what it burns
  pub own-call : OwnCall p
  own-call t c who s h e =
      let is = own-call-is c who h e in
      let all : Moves p t who c = moves f s who h c is.0 in
      let burns : (if eqb (caller_of c) who then (step p t c).burnt else 0) ≡ (step p t c).burnt = rw e in
      omega (arith, none-given f s who h c is.1)

  -- "and no other call changes it but Grant"
  pub other-call : OtherCall p
  other-call t c who s h shut e =
      let all : Moves p t who c = moves f s who h c shut in
      let none : (if eqb (caller_of c) who then (step p t c).burnt else 0) ≡ 0 = rw e in
      omega arith

  -- ---- 2 "Fuel granted = fuel burnt + fuel left"
  pub balance : Balance p
  unfolding granted_to burnt_by total
  balance shares calls who h =
      any-run p (λ t steps. granted_to who steps ≡ burnt_by who steps + fuel_of t who)
      (λ shares. omega (arith, open-dry shares who))
      (λ t steps c s shut so_far. omega (arith, moves f s who h c shut))
      shares calls
