-- Promise 20. Who conflicts with nothing ahead goes on to do so: whoever joins stands behind it, whoever leaves is one fewer ahead,
-- and nobody changes name or lists. So it is ready as long as it is Blocked, and a search that has the fuel comes to it, or stops at
-- one of the same tenant before.
use Prim.Native.Nat.{ℕ, zero, suc, ◌+◌, ◌-◌, ◌≤◌, ◌<◌}
use mathlib.Core.Path.{◌≡◌, refl, sym, ap, subst, ◌∙◌}
use mathlib.Core.Bool.{Bool, true, false, ◌&&◌, false≢true}
use mathlib.Core.List.{List, [], ◌∷◌, ◌++◌, append_assoc}
use mathlib.Core.Logic.{⊎_elim}
use native.Mathlib.Nat.{not-suc-le-zero, le_of_suc-le-suc}
use native.Mathlib.Omega.{arith}
use lib.Dec.{eqb}
use lib.ListN.{get_or, set, take, drop}
use lib.Seq.{take-add}
use Rattle.rules.specs.Lists.{some}
use Rattle.rules.specs.Request.{Request, nobody, is_named, conflict, conflicts_any}
use Rattle.rules.specs.Table.{Table, is_tenant}
use Rattle.rules.specs.Prices.{Prices, looks, searching}
use Rattle.rules.specs.Refusals.{first_of, finish_rows, evict_rows, cancel_rows}
use Rattle.rules.specs.Calls.{gone, finish_of, evict_of, cancel_of}
use Rattle.rules.specs.Sound.{Each, InOrder, Fit, SoundAny, SerialsRise, given_by}
use Rattle.rules.specs.Runs.{Call, step, number, from, run_of}
use Rattle.rules.proofs.Tests.{both, neither, eqb-sym, lt-or-ge}
use Rattle.rules.proofs.Prices.{looks-append}
use Rattle.rules.proofs.Order.{each_first, each_map, each-parts, each_all, order-both, order-last, order-without, order-ahead}
use Rattle.rules.proofs.Sound.{step-any}
use Rattle.promises.specs.Fuel.{Fair}
use Rattle.promises.specs.Names.{Claim, claim_of}
use Rattle.promises.specs.Order.{claims_conflict}
use Rattle.promises.specs.Searches.{ready}
use Rattle.promises.specs.TakingOut.{TakesOut, WaitsAt, NextScan}
use Rattle.promises.proofs.Refusals.{not-refused}
use Rattle.promises.proofs.Changes.{Change}
use Rattle.promises.proofs.Names.{differ, fresh-name, each-changed, none-some, kept_on}
use Rattle.promises.proofs.Search.{search-promotes}
use Rattle.promises.proofs.TakingOut.{gone-own}

-- whoever bears the name conflicts with nothing ahead
abbrev ClearAs : ℕ → ℕ → Request → Request → Type 0
ClearAs who serial a x = is_named who serial x ≡ true → conflict a x ≡ false

-- ---- it stays so
-- an element is put that stands to all others as the old one did
order-changed : {R : Request → Request → Type 0} {q : List Request} → InOrder R q → (at : ℕ) (e : Request) → ((a : Request) → R a (get_or q at nobody) → R a e) → ((x : Request) → R (get_or q at nobody) x → R e x) → InOrder R (set q at e)
order-changed InOrder.none at e f g = InOrder.none
order-changed (InOrder.also k o) zero e f g = InOrder.also (each_map g k) o
order-changed (InOrder.also {x = x} k o) (suc at) e f g = InOrder.also (each-changed k at e (f x)) (order-changed o at e f g)

module _ (who serial : ℕ) where
  -- nobody of that name comes in
  unnamed : (a x : Request) → is_named who serial x ≡ false → ClearAs who serial a x
  unnamed a x other named = absurd (false≢true (sym other ∙ named))

  same-clash : (a b x y : Request) → claim_of a ≡ claim_of b → claim_of x ≡ claim_of y → ClearAs who serial b y → ClearAs who serial a x
  unfolding conflict
  same-clash a b x y is also h named =
      let bears = sym (ap (λ (c : Claim). eqb c.tenant who && eqb c.serial serial) also) ∙ named in
      ap (λ (c : Claim). claims_conflict c (claim_of x)) is ∙ ap (claims_conflict (claim_of b)) also ∙ h bears

  stays-clear : (t : Table) (added : List Claim) (q : List Request) → Change t added q → serial ≤ given_by t who → InOrder (ClearAs who serial) t.queue → InOrder (ClearAs who serial) q
  stays-clear t _ _ Change.same le h = h
  stays-clear t _ _ (Change.joins e k) le h = order-last h (each_all t.queue (λ a. unnamed a e (fresh-name t who serial e k le)))
  stays-clear t _ _ (Change.leaves at) le h = order-without at h
  stays-clear t _ _ (Change.changes at e k) le h =
      let old = get_or t.queue at nobody in
      order-changed h at e (λ a r. same-clash a a e old refl k r) (λ x r. same-clash e old x x k refl r)

-- ---- it is so where nothing ahead of it conflicts
module _ (f : Request) where
  abbrev Own : Request → Bool
  Own x = is_named f.tenant f.serial x

  -- who stands ahead of it or behind it has another name
  ahead-other : (x : Request) → SerialsRise x f → Own x ≡ false
  ahead-other x rise = differ (claim_of x) (claim_of f) rise

  behind-other : (x : Request) → SerialsRise f x → Own x ≡ false
  behind-other x rise = rw (eqb-sym x.tenant f.tenant, eqb-sym x.serial f.serial) (differ (claim_of f) (claim_of x) rise)

  -- what holds of it and of all other names holds of each
  each-but : {P : Request → Type 0} (front behind : List Request) → InOrder SerialsRise (front ++ f ∷ behind) → ((x : Request) → Own x ≡ false → P x) → P f → Each P (front ++ f ∷ behind)
  each-but [] behind (InOrder.also k o) other own = Each.also own (each_map (λ x r. other x (behind-other x r)) k)
  each-but (x ∷ front) behind (InOrder.also k o) other own = Each.also (other x (ahead-other x (each_first (each-parts front k).1))) (each-but front behind o other own)

  begins-clear : (front behind : List Request) → InOrder SerialsRise (front ++ f ∷ behind) → conflicts_any front f ≡ false → InOrder (ClearAs f.tenant f.serial) (front ++ f ∷ behind)
  unfolding some
  begins-clear [] behind (InOrder.also k o) clear =
      let others = each_map (λ (x : Request) (r : SerialsRise f x). behind-other x r) k in
      InOrder.also (each_map (λ x other. unnamed f.tenant f.serial f x other) others) (order-both others o (λ a x p q r. unnamed f.tenant f.serial a x q))
  begins-clear (a ∷ front) behind (InOrder.also k o) clear =
      let none = neither (conflict a f) (conflicts_any front f) clear in
      InOrder.also (each-but front behind o (λ x other. unnamed f.tenant f.serial a x other) (λ named. none.0)) (begins-clear front behind o none.1)

-- ---- the one at a place is ready, and so some first one is
abbrev Least : (ℕ → Bool) → ℕ → Type 0
Least g k = (at : ℕ) × (at ≤ k) × (g at ≡ true) × ((i : ℕ) → i < at → g i ≡ false)

later : (g : ℕ → Bool) (k : ℕ) → g 0 ≡ false → Least (λ i. g (suc i)) k → Least g (suc k)
later g k none w = (suc w.0, omega (arith, w.1), w.2, first)
  where
    first : (i : ℕ) → i < suc w.0 → g i ≡ false
    first zero lt = none
    first (suc i) lt = w.3 i (le_of_suc-le-suc lt)

least : (g : ℕ → Bool) (k : ℕ) → g k ≡ true → Least g k
least g zero h = (0, omega arith, h, λ i lt. absurd (not-suc-le-zero lt))
least g (suc k) h = go (g 0) refl (least (λ (i : ℕ). g (suc i)) k h)
  where
    go : (b : Bool) → g 0 ≡ b → Least (λ (i : ℕ). g (suc i)) k → Least g (suc k)
    go true at_once w = (0, omega arith, at_once, λ i lt. absurd (not-suc-le-zero lt))
    go false none w = later g k none w

is-ready : (f : Request) (k : ℕ) (v : Table) → WaitsAt f k v → InOrder (ClearAs f.tenant f.serial) v.queue → ready f.tenant v.queue k ≡ true
is-ready f k v w o =
    let x = get_or v.queue k nobody in
    let clear : conflicts_any (take k v.queue) x ≡ false = none-some (λ a. conflict a x) (each_map (λ a h. h w.named) (order-ahead k nobody w.there o)) in
    rw ((both (eqb x.tenant f.tenant) (eqb x.serial f.serial) w.named).0, w.blocked, clear)

-- a search pays less to come less far
fewer-looks : (p : Prices) (q : List Request) (m n : ℕ) → m ≤ n → searching p (take m q) ≤ searching p (take n q)
fewer-looks p q m n le =
    let sum : m + (n - m) ≡ n = omega arith in
    let parts : looks p (take n q) ≡ looks p (take m q) + looks p (take (n - m) (drop m q)) = ap (λ (i : ℕ). looks p (take i q)) (sym sum) ∙ ap (looks p) (take-add m (n - m) q) ∙ looks-append p (take m q) (take (n - m) (drop m q)) in
    omega (arith, parts)

-- ---- by any of the calls that take one out
-- a call that is not refused does its deed
out-queue : (p : Prices) (t : Table) (e : Request) (c : Call) → TakesOut e c → number (step p t c) ≡ 0 → (step p t c).table.queue ≡ (gone t e.tenant e.serial).queue
unfolding finish_of evict_of cancel_of
out-queue p t e _ TakesOut.evicted h = rw (not-refused (first_of (evict_rows t e.tenant e.serial)) _ h)
out-queue p t e _ TakesOut.cancelled h = rw (not-refused (first_of (cancel_rows t e.tenant e.serial)) _ h)
out-queue p t e _ TakesOut.finished h = rw (not-refused (first_of (finish_rows t e.tenant e.serial)) _ h)

module _ {p : Prices} (pays : Fair p) where
  pub next-scan : NextScan p
  next-scan t e f c more k s only out done shut waits enough = record {
    at = first.0;
    up_to = first.1;
    promotes = search-promotes pays v f.tenant first.0 tenant (record { there = omega (arith, first.1, waits.there); fits = first.2; first = first.3 })
        (omega (arith, enough, fewer-looks p v.queue (first.0 + 1) (k + 1) (omega (arith, first.1))));
    itself = λ none. ⊎_elim (λ (lt : first.0 < k). absurd (false≢true (sym (none first.0 lt) ∙ first.2))) (λ (ge : k ≤ first.0). omega (arith, first.1)) (lt-or-ge first.0 k);
  }
    where
      u : Table
      u = (step p t c).table

      v : Table
      v = (run_of p (from u) more).table

      front : List Request
      front = only.ahead ++ only.between

      left : u.queue ≡ front ++ f ∷ only.behind
      left = out-queue p t e c out done ∙ ap (λ (x : Table). x.queue) (gone-own s only.ahead e (only.between ++ f ∷ only.behind) only.queue) ∙ sym (append_assoc only.ahead only.between (f ∷ only.behind))

      sound : SoundAny u
      sound = step-any p s c

      own : Fit (given_by u) f
      own = each_first (each-parts front (subst (Each (Fit (given_by u))) left sound.entries)).1

      tenant : is_tenant f.tenant ≡ true
      tenant = own.tenant

      clear : InOrder (ClearAs f.tenant f.serial) u.queue
      clear = subst (InOrder (ClearAs f.tenant f.serial)) (sym left) (begins-clear f front only.behind (subst (InOrder SerialsRise) left sound.serials) only.clear)

      first : Least (ready f.tenant v.queue) k
      first = least (ready f.tenant v.queue) k (is-ready f k v waits (kept_on p f.tenant f.serial (InOrder (ClearAs f.tenant f.serial)) (stays-clear f.tenant f.serial) more (from u) shut own.to-given clear))
