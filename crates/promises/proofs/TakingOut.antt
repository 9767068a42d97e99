-- Promises 18 and 19: an entry that leaves takes its counts and its place with it and nothing else, and no other call of a neighbour
-- or of the host takes a place. A name is one entry's, so the one that is named is the one that leaves.
use Rattle.std.specs.Prelude.{if◌then◌else◌}
use Prim.Native.Nat.{ℕ, suc, ◌+◌, ◌<◌}
use mathlib.Core.Path.{◌≡◌, refl, sym, ap, ◌∙◌}
use mathlib.Core.Bool.{Bool, true, false, not, true≢false}
use mathlib.Core.List.{List, [], ◌∷◌, ◌++◌}
use native.Mathlib.Omega.{arith}
use lib.Dec.{eqb}
use lib.ListN.{length, length-append}
use lib.Seq.{take-append_seam, drop-append-add, get_or-append_seam}
use borrow.Author.Tests.{eqb-true, ne_eqb, lt-leb}
use Rattle.rules.specs.declared.Answer.TheVariants.{Done}
use Rattle.rules.specs.Lists.{before, count_if}
use Rattle.rules.specs.Records.{member}
use Rattle.rules.specs.Request.{Request, nobody, reduced, is_named, is_blocked}
use Rattle.rules.specs.Table.{Table, places_of, with_queue, burn}
use Rattle.rules.specs.Prices.{Prices}
use Rattle.rules.specs.Refusals.{first_of, stands_at, is_absent, entry_of, begin_rows, finish_rows, recheck_rows, scan_rows, deliver_rows, evict_rows, cancel_rows, grant_rows}
use Rattle.rules.specs.Calls.{Outcome, without_entry, gone, asked, search, pick_end, begin_of, finish_of, recheck_of, scan_of, grant_of, pick_of, deliver_of, evict_of, cancel_of}
use Rattle.rules.specs.Sound.{Each, InOrder, Fit, SoundAny, SerialsRise, given_by}
use Rattle.rules.specs.Runs.{Call, Run, step, caller_of, is_open, from, after, run_of}
use Rattle.rules.specs.Runs.Call.{Begin, Finish, Recheck, Scan, Open, Grant, Pick, Deliver, Evict, Cancel}
use Rattle.rules.proofs.Tests.{one, if-cases}
use Rattle.rules.proofs.Lists.{count-append}
use Rattle.rules.proofs.Order.{each_first, each-parts}
use Rattle.rules.proofs.Refusals.{finish-passes, evict-passes, cancel-passes}
use Rattle.rules.proofs.Keeps.{burn-none}
use Rattle.rules.proofs.Sound.{step-any}
use Rattle.promises.specs.Fuel.{Fair, fuel_of}
use Rattle.promises.specs.Names.{claim_of}
use Rattle.promises.specs.TakingOut.{Takes, EvictionTakes, evicts_from, OthersLowerNeither, TakenOut, Evicts, Cancels, CancelsNoOther, TakesNone, evictions, HostEmpties}
use Rattle.promises.proofs.Held.{held-joined, held-gone, held_found, held-rechecked, held-delivered}
use Rattle.promises.proofs.Fuel.{other-call}
use Rattle.promises.proofs.Names.{differ}
use Rattle.promises.proofs.Admissions.{own_name}

-- ---- 18 An eviction takes a place
pub eviction-takes : EvictionTakes
unfolding evict_of
eviction-takes t whose serial who = go (eqb z 0) refl
  where
    z : ℕ
    z = first_of (evict_rows t whose serial)

    go : (b : Bool) → eqb z 0 ≡ b → Takes t whose who (evict_of t whose serial)
    go true h = record {
      fuel = rw h;
      places = rw h (held-gone t who whose serial (evict-passes t whose serial (eqb-true z 0 h)).1);
    }
    go false h = record { fuel = rw h; places = rw (h, h) (omega arith) }

-- ---- the places after a call that is not the tenant's own
module _ (p : Prices) (t : Table) (who : ℕ) where
  abbrev Same : Table → Type 0
  Same u = places_of u.queue who ≡ places_of t.queue who

  -- a call that is refused or not
  maybe : (z : ℕ) (deed : Table) → (z ≡ 0 → Same deed) → Same (if eqb z 0 then deed else t)
  maybe z deed done = if-cases Same (eqb z 0) (λ e. done (eqb-true z 0 e)) (λ e. refl)

  -- another's entry leaves
  not_own : (w serial : ℕ) → eqb w who ≡ false → is_absent w serial t.queue ≡ false → Same (gone t w serial)
  not_own w serial other present = omega (arith, held-gone t who w serial present, ap one other)

  places-kept : (c : Call) → is_open c ≡ false → eqb (caller_of c) who ≡ false → evicts_from who c ≡ false → Same (step p t c).table
  unfolding begin_of finish_of recheck_of scan_of grant_of pick_of deliver_of evict_of cancel_of
  places-kept (Begin w awaited reads writes) shut other kept =
      let e = asked t w awaited reads writes in
      maybe (first_of (begin_rows p t e)) _ (λ z. omega (arith, held-joined t who (reduced e), ap one other))
  places-kept (Finish w serial) shut other kept =
      maybe (first_of (finish_rows t w serial)) _ (λ z. not_own w serial other (finish-passes t w serial z).1)
  places-kept (Recheck w serial) shut other kept = maybe (first_of (recheck_rows p t w serial)) _ (λ z. held-rechecked t who w serial)
  places-kept (Scan w) shut other kept = maybe (first_of (scan_rows t w)) _ (λ z. held_found t who (search p t w).end)
  places-kept (Open shares) shut other kept = absurd (true≢false shut)
  places-kept (Grant w amount) shut other kept = maybe (first_of (grant_rows t w amount)) _ (λ z. refl)
  places-kept Pick shut other kept = held_found t who (pick_end t.queue)
  places-kept (Deliver w serial) shut other kept = maybe (first_of (deliver_rows t w serial)) _ (λ z. held-delivered t who w serial)
  places-kept (Evict w serial) shut other kept =
      maybe (first_of (evict_rows t w serial)) _ (λ z. not_own w serial kept (evict-passes t w serial z).1)
  places-kept (Cancel w serial) shut other kept =
      maybe (first_of (cancel_rows t w serial)) _ (λ z. not_own w serial other (cancel-passes t w serial z).there)

-- no other call lowers the fuel either: it gives what it grants
pub others-lower-neither : {p : Prices} → Fair p → OthersLowerNeither p
others-lower-neither {p} f t c who s h shut other kept =
    record { fuel = omega (arith, other-call f t c who s h shut other); places = places-kept p t who c shut other kept }

-- ---- the entry of a name
-- the names of those ahead are others
stands-own : (ahead : List Request) (e : Request) (behind : List Request) → InOrder SerialsRise (ahead ++ e ∷ behind) → stands_at e.tenant e.serial (ahead ++ e ∷ behind) ≡ length ahead
unfolding before
stands-own [] e behind o = rw (own_name (claim_of e))
stands-own (x ∷ ahead) e behind (InOrder.also k o) =
    let other : is_named e.tenant e.serial x ≡ false = differ (claim_of x) (claim_of e) (each_first (each-parts ahead k).1) in
    rw other (ap suc (stands-own ahead e behind o))

without-own : (ahead : List Request) (e : Request) (behind : List Request) → without_entry (length ahead) (ahead ++ e ∷ behind) ≡ ahead ++ behind
without-own ahead e behind = rw (take-append_seam ahead (e ∷ behind), drop-append-add ahead (e ∷ behind) 1) refl

-- ---- 19 What is left of the queue
module _ {t : Table} (s : SoundAny t) (ahead : List Request) (e : Request) (behind : List Request) (is : t.queue ≡ ahead ++ e ∷ behind) where
  fit-own : Fit (given_by t) e
  fit-own = let k : Each (Fit (given_by t)) (ahead ++ e ∷ behind) = rw is at s.entries in each_first (each-parts ahead k).1

  place-own : stands_at e.tenant e.serial t.queue ≡ length ahead
  place-own = rw is (stands-own ahead e behind (rw is at s.serials))

  there-own : is_absent e.tenant e.serial t.queue ≡ false
  there-own = rw (place-own, is, length-append ahead (e ∷ behind)) (lt-leb (length ahead + length (e ∷ behind)) (length ahead) (omega arith))

  entry-own : entry_of e.tenant e.serial t.queue ≡ e
  entry-own = rw (place-own, is) (get_or-append_seam ahead e behind nobody)

  pub gone-own : gone t e.tenant e.serial ≡ with_queue t (ahead ++ behind)
  gone-own = ap (with_queue t) (rw (place-own, is) (without-own ahead e behind))

  -- what is counted over the queue is counted without it
  fewer : (f : Request → Bool) → count_if f t.queue ≡ count_if f (ahead ++ behind) + one (f e)
  unfolding count_if
  fewer f =
      let all : count_if f t.queue ≡ count_if f (ahead ++ e ∷ behind) = ap (count_if f) is in
      omega (arith, all, count-append f ahead (e ∷ behind), count-append f ahead behind)

  taken : (o : Outcome) (units : ℕ) → o.answer ≡ Done → o.burnt ≡ units → o.table ≡ burn e.tenant units (with_queue t (ahead ++ behind)) → TakenOut t ahead e behind units o
  taken o units says costs left =
      let queue : o.table.queue ≡ ahead ++ behind = ap (λ (u : Table). u.queue) left in
      record {
        answer = says;
        burnt = costs;
        table = left;
        exclusive = λ r. rw queue (fewer (λ (a : Request). member r a.writes));
        shared = λ r. rw queue (fewer (λ (a : Request). member r a.reads));
        place = λ who. rw queue (fewer (λ (a : Request). eqb a.tenant who));
      }

-- "for an entry in any state"
pub evicts : Evicts
unfolding evict_of evict_rows first_of
evicts t ahead e behind s is =
    let z : first_of (evict_rows t e.tenant e.serial) ≡ 0 = simp ((fit-own s ahead e behind is).tenant, there-own s ahead e behind is) in
    let left = gone-own s ahead e behind is ∙ sym (burn-none e.tenant (with_queue t (ahead ++ behind))) in
    taken s ahead e behind is (evict_of t e.tenant e.serial) 0 (rw z) refl (rw z left)

-- entry by entry from the front; whatever the steps before
empties : (p : Prices) (q : List Request) (r : Run) → SoundAny r.table → r.table.queue ≡ q → (run_of p r (evictions q)).table ≡ with_queue r.table []
unfolding run_of after
empties p [] r s is = ap (with_queue r.table) is
empties p (e ∷ q) r s is =
    let c = Evict e.tenant e.serial in
    let next : (step p r.table c).table ≡ with_queue r.table q = (evicts r.table [] e q s is).table ∙ burn-none e.tenant (with_queue r.table q) in
    empties p q (after p r c) (step-any p s c) (ap (λ (u : Table). u.queue) next) ∙ ap (λ (u : Table). with_queue u []) next

pub host-empties : (p : Prices) → HostEmpties p
host-empties p t s = empties p t.queue (from t) s refl

-- a cancel's rows, once its tenant is not dry and the entry is there
cancel-row : {t : Table} (s : SoundAny t) (ahead : List Request) (e : Request) (behind : List Request) → t.queue ≡ ahead ++ e ∷ behind → 0 < fuel_of t e.tenant → first_of (cancel_rows t e.tenant e.serial) ≡ (if is_blocked e.mode then 0 else 11)
unfolding cancel_rows first_of
cancel-row {t} s ahead e behind is fuelled =
    simp ((fit-own s ahead e behind is).tenant, ne_eqb (fuel_of t e.tenant) 0 (λ n. omega arith), there-own s ahead e behind is, entry-own s ahead e behind is) (go (is_blocked e.mode))
  where
    go : (b : Bool) → ◌≡◌ {A = ℕ} (if not b then 11 else 0) (if b then 0 else 11)
    go true = refl
    go false = refl

pub takes_none : (p : Prices) → TakesNone p
unfolding evict_of cancel_of evict_rows cancel_rows first_of
takes_none p t who serial = record {
  stranger = λ outside. (rw outside, rw outside);
  dry = λ tenant none. rw (tenant, none);
  unevicted = λ tenant absent. rw (tenant, absent);
  uncancelled = λ tenant fuelled absent. rw (tenant, ne_eqb (fuel_of t who) 0 (λ n. omega arith), absent);
}

module _ (p : Prices) where
  pub cancels : Cancels p
  unfolding cancel_of
  cancels t ahead e behind s is fuelled blocked =
      let z : first_of (cancel_rows t e.tenant e.serial) ≡ 0 = cancel-row s ahead e behind is fuelled ∙ rw blocked in
      taken s ahead e behind is (cancel_of p t e.tenant e.serial) p.cancel (rw z) (rw z) (rw z (ap (burn e.tenant p.cancel) (gone-own s ahead e behind is)))

  pub cancels-no-other : CancelsNoOther p
  unfolding cancel_of
  cancels-no-other t ahead e behind s is fuelled runs = rw (cancel-row s ahead e behind is fuelled, runs) refl
