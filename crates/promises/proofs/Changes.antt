-- What any call but Open does to the queue: nothing, or one entry joins, leaves, or is changed in place and keeps its claim.
use Rattle.std.specs.Prelude.{if◌then◌else◌}
use Prim.Native.Nat.{ℕ, zero, suc, ◌+◌, ◌-◌, ◌≤◌}
use mathlib.Core.Path.{◌≡◌, refl, ap}
use mathlib.Core.Bool.{Bool, true, false, true≢false}
use mathlib.Core.List.{List, [], ◌∷◌, ◌++◌}
use native.Mathlib.Omega.{arith}
use lib.Dec.{eqb}
use lib.ListN.{get_or, set}
use Rattle.rules.specs.declared.Answer.TheVariants.{Refused}
use Rattle.rules.specs.Request.{Request, nobody, reduced, conflicts_any, promoted, admitted, delivered}
use Rattle.rules.specs.Table.{Meter, Table, no_meter, meter_of, with_meter, with_queue, numbered, granted, spent, burn}
use Rattle.rules.specs.Prices.{Prices}
use Rattle.rules.specs.Refusals.{first_of, stands_at, entry_of, begin_rows, finish_rows, recheck_rows, scan_rows, deliver_rows, evict_rows, cancel_rows, grant_rows}
use Rattle.rules.specs.Counters.{cx, cs, alone}
use Rattle.rules.specs.Scan.{End, found, nothing, short}
use Rattle.rules.specs.Calls.{asked, begun, joined, without_entry, found-table, search, pick_end, begin_of, finish_of, recheck_of, scan_of, grant_of, pick_of, deliver_of, evict_of, cancel_of}
use Rattle.rules.specs.Sound.{given_by}
use Rattle.rules.specs.Said.{said}
use Rattle.rules.specs.Runs.{Call, step, is_open}
use Rattle.rules.specs.Runs.Call.{Begin, Finish, Recheck, Scan, Open, Grant, Pick, Deliver, Evict, Cancel}
use Rattle.rules.proofs.Tests.{if-either}
use Rattle.rules.proofs.Requests.{delivered-as}
use Rattle.rules.proofs.Clashing.{begun-said}
use Rattle.promises.specs.Names.{Claim, claim_of, answered, admitted_by}

pub data Change (t : Table) : List Claim → List Request → Type 0 where
  same : Change t [] t.queue
  joins : (e : Request) → e.serial ≡ given_by t e.tenant + 1 → Change t (claim_of e ∷ []) (t.queue ++ e ∷ [])
  leaves : (at : ℕ) → Change t [] (without_entry at t.queue)
  changes : (at : ℕ) (e : Request) → claim_of e ≡ claim_of (get_or t.queue at nobody) → Change t [] (set t.queue at e)

module _ (p : Prices) (t : Table) where
  begin-change : (who awaited : ℕ) (reads writes : List ℕ) → let o = begin_of p t who awaited reads writes in Change t (answered (record { reads = reads; writes = writes }) (said o.answer).values) o.table.queue
  unfolding begin_of admitted promoted
  begin-change who awaited reads writes = go (eqb (first_of (begin_rows p t e)) 0)
    where
      e : Request
      e = asked t who awaited reads writes

      entry : Request
      entry = admitted t.queue (reduced e)

      go : (b : Bool) → Change t (answered (record { reads = reads; writes = writes }) (said (if b then begun t.queue (reduced e) else Refused (first_of (begin_rows p t e)))).values) (if b then joined t entry else t).queue
      go true = rw (begun-said t.queue (reduced e)).1 (if-either (λ (x : Request). Change t (claim_of (reduced e) ∷ []) (t.queue ++ x ∷ [])) (conflicts_any t.queue (reduced e)) (Change.joins (reduced e) refl) (Change.joins (promoted (reduced e)) refl))
      go false = Change.same

  found-change : (end : End) → Change t [] (found-table t end).queue
  unfolding promoted
  found-change (found at) = Change.changes at (promoted (get_or t.queue at nobody)) refl
  found-change nothing = Change.same
  found-change short = Change.same

  -- a deed that is done or not
  maybe : (b : Bool) (deed : Table) → Change t [] deed.queue → Change t [] (if b then deed else t).queue
  maybe b deed h = if-either (λ (u : Table). Change t [] u.queue) b {x = deed} {y = t} h Change.same

  pub changed : (c : Call) → is_open c ≡ false → let o = step p t c in Change t (admitted_by c o.answer) o.table.queue
  unfolding finish_of recheck_of scan_of grant_of pick_of deliver_of evict_of cancel_of promoted
  changed (Begin who awaited reads writes) shut = begin-change who awaited reads writes
  changed (Finish who serial) shut = maybe (eqb (first_of (finish_rows t who serial)) 0) _ (Change.leaves (stands_at who serial t.queue))
  changed (Recheck who serial) shut =
      let e = entry_of who serial t.queue in
      maybe (eqb (first_of (recheck_rows p t who serial)) 0) _ (maybe (alone (cx t.queue) (cs t.queue) e) _ (Change.changes (stands_at who serial t.queue) (promoted e) refl))
  changed (Scan who) shut = maybe (eqb (first_of (scan_rows t who)) 0) _ (found-change (search p t who).end)
  changed (Open shares) shut = absurd (true≢false shut)
  changed (Grant who amount) shut = maybe (eqb (first_of (grant_rows t who amount)) 0) _ Change.same
  changed Pick shut = found-change (pick_end t.queue)
  changed (Deliver who serial) shut =
      let e = entry_of who serial t.queue in
      maybe (eqb (first_of (deliver_rows t who serial)) 0) _ (Change.changes (stands_at who serial t.queue) (delivered e) (ap claim_of (delivered-as e)))
  changed (Evict who serial) shut = maybe (eqb (first_of (evict_rows t who serial)) 0) _ (Change.leaves (stands_at who serial t.queue))
  changed (Cancel who serial) shut = maybe (eqb (first_of (cancel_rows t who serial)) 0) _ (Change.leaves (stands_at who serial t.queue))

-- ---- no serial is taken back
view-grows : {A : Type 0} (f : A → ℕ) (l : List A) (i j : ℕ) (a d : A) → f (get_or l i d) ≤ f a → f (get_or l j d) ≤ f (get_or (set l i a) j d)
view-grows f [] i j a d e = omega arith
view-grows f (x ∷ l) zero zero a d e = e
view-grows f (x ∷ l) zero (suc j) a d e = omega arith
view-grows f (x ∷ l) (suc i) zero a d e = omega arith
view-grows f (x ∷ l) (suc i) (suc j) a d e = view-grows f l i j a d e

meter-grows : (x : Table) (w : ℕ) (m : Meter) → given_by x w ≤ m.serials → (who : ℕ) → given_by x who ≤ given_by (with_meter x w m) who
meter-grows x w m h who = view-grows (λ (n : Meter). n.serials) x.meters (w - 1) (who - 1) m no_meter h

-- no fewer serials are given
pub record Grown (t u : Table) : Type 0 where
  pub more : (who : ℕ) → given_by t who ≤ given_by u who

module _ (p : Prices) (t : Table) where
  grown-burnt : (w units : ℕ) {u : Table} → Grown t u → Grown t (burn w units u)
  grown-burnt w units {u} h = record { more = λ who. omega (arith, h.more who, meter-grows u w (spent (meter_of u w) units) (omega arith) who) }

  grown-queue : (q : List Request) → Grown t (with_queue t q)
  grown-queue q = record { more = λ who. omega arith }

  grown-same : Grown t t
  grown-same = record { more = λ who. omega arith }

  maybe-grown : (b : Bool) {u : Table} → Grown t u → Grown t (if b then u else t)
  maybe-grown b {u} h = if-either (Grown t) b {x = u} {y = t} h grown-same

  found-grown : (end : End) → Grown t (found-table t end)
  found-grown (found at) = grown-queue (set t.queue at (promoted (get_or t.queue at nobody)))
  found-grown nothing = grown-same
  found-grown short = grown-same

  joined-grown : (e : Request) → Grown t (joined t e)
  joined-grown e = record { more = meter-grows t e.tenant (numbered (meter_of t e.tenant)) (omega arith) }

  pub grown : (c : Call) → is_open c ≡ false → Grown t (step p t c).table
  unfolding begin_of finish_of recheck_of scan_of grant_of pick_of deliver_of evict_of cancel_of
  grown (Begin w awaited reads writes) shut =
      let e = asked t w awaited reads writes in
      grown-burnt w _ (maybe-grown (eqb (first_of (begin_rows p t e)) 0) (joined-grown (admitted t.queue (reduced e))))
  grown (Finish w serial) shut = grown-burnt w _ (maybe-grown (eqb (first_of (finish_rows t w serial)) 0) (grown-queue _))
  grown (Recheck w serial) shut =
      let e = entry_of w serial t.queue in
      grown-burnt w _ (maybe-grown (eqb (first_of (recheck_rows p t w serial)) 0) (maybe-grown (alone (cx t.queue) (cs t.queue) e) (grown-queue _)))
  grown (Scan w) shut = grown-burnt w _ (maybe-grown (eqb (first_of (scan_rows t w)) 0) (found-grown (search p t w).end))
  grown (Open shares) shut = absurd (true≢false shut)
  grown (Grant w amount) shut =
      maybe-grown (eqb (first_of (grant_rows t w amount)) 0) (record { more = meter-grows t w (granted (meter_of t w) amount) (omega arith) })
  grown Pick shut = found-grown (pick_end t.queue)
  grown (Deliver w serial) shut = maybe-grown (eqb (first_of (deliver_rows t w serial)) 0) (grown-queue _)
  grown (Evict w serial) shut = maybe-grown (eqb (first_of (evict_rows t w serial)) 0) (grown-queue _)
  grown (Cancel w serial) shut = grown-burnt w _ (maybe-grown (eqb (first_of (cancel_rows t w serial)) 0) (grown-queue _))

pub grown-twice : {t u w : Table} → Grown t u → Grown u w → Grown t w
grown-twice g h = record { more = λ who. omega (arith, g.more who, h.more who) }
