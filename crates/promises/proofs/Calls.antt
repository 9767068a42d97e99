-- Promise 4: a tenant's calls that are not answered dry number at most the fuel granted to it. Each of them burns a unit,
-- but for a Finish that succeeds: its unit was burnt by its request, and it gives back the place that the request took. So
-- over any run those calls and the places held number at most what was burnt.
use Rattle.std.specs.Prelude.{if◌then◌else◌}
use Prim.Native.Nat.{ℕ, ◌+◌, ◌≤◌}
use mathlib.Core.Path.{◌≡◌, refl, sym, ap, ◌∙◌}
use mathlib.Core.Bool.{Bool, true, false, ◌&&◌, not, true≢false, false≢true}
use mathlib.Core.List.{List, []}
use native.Mathlib.Omega.{arith}
use lib.Dec.{eqb}
use borrow.Author.Tests.{eqb-true, ne_eqb}
use Rattle.rules.specs.declared.Answer.{Answer}
use Rattle.rules.specs.Lists.{count_if, total}
use Rattle.rules.specs.Request.{Request, reduced, size, admitted}
use Rattle.rules.specs.Table.{Table, is_tenant, places_of, fresh}
use Rattle.rules.specs.Prices.{Prices, admission, searching, charge}
use Rattle.rules.specs.Refusals.{first_of, is_absent, entry_of, begin_rows, finish_rows, recheck_rows, scan_rows, deliver_rows, evict_rows, cancel_rows, grant_rows, open_rows}
use Rattle.rules.specs.Calls.{Outcome, tenant_call, host_call, asked, joined, gone, found-table, found-answer, search, pick_end, begin_of, finish_of, recheck_of, scan_of, open_of, grant_of, pick_of, deliver_of, evict_of, cancel_of}
use Rattle.rules.specs.Said.{said}
use Rattle.rules.specs.Runs.{Call, step, caller_of, is_open, is_dry_answer, burnt_by, not_dry}
use Rattle.rules.specs.Runs.Call.{Begin, Finish, Recheck, Scan, Open, Grant, Pick, Deliver, Evict, Cancel}
use Rattle.rules.proofs.Tests.{and-false, one, if-either, if-cases}
use Rattle.rules.proofs.Refusals.{finish-passes, evict-passes, cancel-passes}
use Rattle.rules.proofs.Costly.{costly-low, charge-unit}
use Rattle.promises.specs.Fuel.{Fair, reached, fuel_of, NotDry}
use Rattle.promises.proofs.Refusals.{Verdict, begin-verdict, finish-verdict, recheck-verdict, scan-verdict, cancel-verdict}
use Rattle.promises.proofs.Runs.{any-run}
use Rattle.promises.proofs.Held.{rechecked, held-joined, held-gone, held_found, held-rechecked, held-delivered}
use Rattle.promises.proofs.Fuel.{balance}

-- an own call pays for itself, a request for its Finish too
own-units : (b : Bool) (units : ℕ) → 1 ≤ units → one b ≤ (if b then units else 0)
own-units true units k = k
own-units false units k = omega arith

both-units : (b : Bool) (units : ℕ) → 2 ≤ units → one b + one b ≤ (if b then units else 0)
both-units true units k = k
both-units false units k = omega arith

at_most : (a b : Bool) → one (a && b) ≤ one a
at_most true true = omega arith
at_most true false = omega arith
at_most false b = omega arith

-- ---- a tenant's call
module _ {p : Prices} (f : Fair p) (t : Table) (who : ℕ) (h : is_tenant who ≡ true) where
  -- a call counts if it is the tenant's own and not dry; the call and the places after it are paid by those before and by
  -- what it burns
  abbrev Paid : ℕ → Outcome → Type 0
  Paid caller o = one (eqb caller who && not (is_dry_answer o)) + places_of o.table.queue who ≤ places_of t.queue who + (if eqb caller who then o.burnt else 0)

  -- a number that is no tenant is not this tenant
  outsider : (caller : ℕ) → is_tenant caller ≡ false → eqb caller who ≡ false
  outsider caller k = ne_eqb caller who (λ (e : caller ≡ who). false≢true (sym k ∙ ap is_tenant e ∙ h))

  module _ (caller price : ℕ) (deed : Table) (answer : Answer) where
    -- refused with 2 it does not count, and refused with a charged number it burns a unit
    tenant-paid : (z : ℕ) → Verdict caller (fuel_of t caller) z → (z ≡ 0 → one (eqb caller who) + places_of deed.queue who ≤ places_of t.queue who + (if eqb caller who then price else 0)) → Paid caller (tenant_call p t caller z price deed answer)
    tenant-paid z Verdict.passes does = omega (arith, does refl, at_most (eqb caller who) (not (eqb (said answer).number 2)))
    tenant-paid z (Verdict.stranger k) does = rw (outsider caller k) (omega arith)
    tenant-paid z Verdict.dry does = rw (and-false (eqb caller who)) (omega arith)
    tenant-paid z (Verdict.costs {n = n} costs fuelled) does =
        let low : 3 ≤ n = costly-low n costs in
        let refused : eqb n 0 ≡ false = ne_eqb n 0 (λ (e : n ≡ 0). omega arith) in
        let units : 1 ≤ charge p (fuel_of t caller) n = omega (arith, charge-unit p (fuel_of t caller) n costs, f.refused) in
        rw refused (omega (arith, at_most (eqb caller who) (not (eqb n 2)), own-units (eqb caller who) (charge p (fuel_of t caller) n) units))

  -- ---- the places
  abbrev held : List Request → ℕ
  held q = places_of q who

  -- a request that joins has paid for two calls
  begin-does : (e : Request) → let entry = admitted t.queue e in one (eqb e.tenant who) + held (joined t entry).queue ≤ held t.queue + (if eqb e.tenant who then admission p e else 0)
  begin-does e =
      omega (arith, held-joined t who e, both-units (eqb e.tenant who) (admission p e) (f.request (size e)))

  -- an entry that leaves gives its place back, and so has paid for the call, whatever that burns
  leaves-does : (caller serial units : ℕ) → is_absent caller serial t.queue ≡ false → one (eqb caller who) + held (gone t caller serial).queue ≤ held t.queue + (if eqb caller who then units else 0)
  leaves-does caller serial units present = omega (arith, held-gone t who caller serial present)

  -- a Recheck or a search burns a unit and changes no place
  recheck-does : (caller serial : ℕ) → let e = entry_of caller serial t.queue in one (eqb caller who) + held (rechecked t caller serial).queue ≤ held t.queue + (if eqb caller who then p.recheck (size e) else 0)
  recheck-does caller serial =
      let e = entry_of caller serial t.queue in
      omega (arith, held-rechecked t who caller serial, own-units (eqb caller who) (p.recheck (size e)) (f.recheck (size e)))

  scan-does : (caller : ℕ) → let w = search p t caller in one (eqb caller who) + held (found-table t w.end).queue ≤ held t.queue + (if eqb caller who then searching p w.looked else 0)
  scan-does caller =
      let w = search p t caller in
      omega (arith, held_found t who w.end, own-units (eqb caller who) (searching p w.looked) (omega (arith, f.search)))

  -- a host's call is nobody's own, and leaves the places as they are or takes one
  host-paid : (z : ℕ) (deed : Table) (answer : Answer) (taken : ℕ) → (z ≡ 0 → held t.queue ≡ held deed.queue + taken) → Paid 0 (host_call t z deed answer)
  host-paid z deed answer taken fewer = rw (outsider 0 refl) (if-cases (λ (u : Table). 0 + held u.queue ≤ held t.queue + 0) (eqb z 0) (λ e. omega (arith, fewer (eqb-true z 0 e))) (λ e. omega arith))

  host-same : (z : ℕ) (deed : Table) (answer : Answer) → held deed.queue ≡ held t.queue → Paid 0 (host_call t z deed answer)
  host-same z deed answer same = host-paid z deed answer 0 (λ e. omega (arith, same))

  -- any call but Open
  paid : (c : Call) → is_open c ≡ false → Paid (caller_of c) (step p t c)
  unfolding begin_of finish_of recheck_of scan_of grant_of pick_of deliver_of evict_of cancel_of
  paid (Begin w awaited reads writes) shut =
      let e = asked t w awaited reads writes in
      tenant-paid w _ _ _ (first_of (begin_rows p t e)) (begin-verdict p t e) (λ z. begin-does (reduced e))
  paid (Finish w serial) shut =
      tenant-paid w _ _ _ (first_of (finish_rows t w serial)) (finish-verdict t w serial) (λ z. leaves-does w serial p.finish (finish-passes t w serial z).1)
  paid (Recheck w serial) shut =
      tenant-paid w _ _ _ (first_of (recheck_rows p t w serial)) (recheck-verdict t w p serial) (λ z. recheck-does w serial)
  paid (Scan w) shut =
      tenant-paid w _ _ _ (first_of (scan_rows t w)) (scan-verdict t w) (λ z. scan-does w)
  paid (Open shares) shut = absurd (true≢false shut)
  paid (Grant w amount) shut = host-same (first_of (grant_rows t w amount)) _ _ refl
  paid Pick shut = let end = pick_end t.queue in host-same 0 (found-table t end) (found-answer t.queue end) (held_found t who end)
  paid (Deliver w serial) shut = host-same (first_of (deliver_rows t w serial)) _ _ (held-delivered t who w serial)
  paid (Evict w serial) shut =
      host-paid (first_of (evict_rows t w serial)) _ _ _ (λ z. held-gone t who w serial (evict-passes t w serial z).1)
  paid (Cancel w serial) shut =
      tenant-paid w _ _ _ (first_of (cancel_rows t w serial)) (cancel-verdict t w serial) (λ z. leaves-does w serial p.cancel (cancel-passes t w serial z).there)

-- ---- over a run
pub open-empty : (shares : List ℕ) → (open_of shares).table.queue ≡ []
unfolding open_of fresh
open-empty shares = if-either (λ (t : Table). t.queue ≡ []) (eqb (first_of (open_rows shares)) 0) refl refl

module _ {p : Prices} (f : Fair p) where
  -- the calls that count, and the places held, number at most what was burnt
  calls-paid : (shares : List ℕ) (calls : List Call) (who : ℕ) → is_tenant who ≡ true → let r = reached p shares calls in not_dry who r.steps + places_of r.table.queue who ≤ burnt_by who r.steps
  unfolding not_dry burnt_by count_if total
  calls-paid shares calls who h =
      any-run p (λ t steps. not_dry who steps + places_of t.queue who ≤ burnt_by who steps)
      (λ shares. rw (open-empty shares) (omega arith))
      (λ t steps c s shut so_far. omega (arith, paid f t who h c shut))
      shares calls

  -- 4 "at most the fuel granted to it"
  pub not-dry : NotDry p
  not-dry shares calls who h = omega (arith, calls-paid shares calls who h, balance f shares calls who h)
