-- "There is no queue full": the places of the tenants add up to the queue, and the shares to at most 64.
use Rattle.std.specs.Prelude.{if◌then◌else◌}
use Prim.Native.Nat.{ℕ, suc, ◌+◌, ◌-◌, ◌≤◌, ◌<◌}
use mathlib.Core.Path.{◌≡◌, refl, sym, ◌∙◌}
use mathlib.Core.Bool.{Bool, true, false}
use mathlib.Core.List.{List, [], ◌∷◌, ◌++◌}
use native.Mathlib.Omega.{arith}
use lib.Dec.{eqb}
use lib.ListN.{length, get_or, length-append}
use borrow.Author.Tests.{eqb-true, eqb-false, ne_eqb}
use Rattle.rules.specs.Lists.{count_if, total}
use Rattle.rules.specs.Request.{Request}
use Rattle.rules.specs.Table.{Meter, Table, is_tenant, no_meter, meter_of, places_of}
use Rattle.rules.specs.Sound.{Each, SoundBy}
use Rattle.rules.proofs.Tests.{one, one-le}
use Rattle.rules.proofs.Meters.{tenant-range, tenant-test}
use Rattle.rules.proofs.Order.{each_map, each_last}
use Rattle.rules.proofs.Lists.{count-last}

-- the entries of the other tenants
others : ℕ → List Request → List Request
others who [] = []
others who (e ∷ q) = if eqb e.tenant who then others who q else (e ∷ others who q)

others-length : (who : ℕ) (q : List Request) → length q ≡ places_of q who + length (others who q)
unfolding others count_if
others-length who [] = refl
others-length who (e ∷ q) = go (eqb e.tenant who) (others-length who q)
  where
    go : (t : Bool) → length q ≡ places_of q who + length (others who q) → suc (length q) ≡ one t + places_of q who + length (if t then others who q else (e ∷ others who q))
    go true ih = omega arith
    go false ih = omega arith

others-places : (who other : ℕ) (q : List Request) → (who ≡ other → ⊥) → places_of (others who q) other ≡ places_of q other
unfolding others count_if
others-places who other [] ne = refl
others-places who other (e ∷ q) ne = go (eqb e.tenant who) refl (others-places who other q ne)
  where
    go : (t : Bool) → eqb e.tenant who ≡ t → places_of (others who q) other ≡ places_of q other → places_of (if t then others who q else (e ∷ others who q)) other ≡ one (eqb e.tenant other) + places_of q other
    go true same ih =
        let no-match : eqb e.tenant other ≡ false = ne_eqb e.tenant other (λ (k : e.tenant ≡ other). ne (sym (eqb-true e.tenant who same) ∙ k)) in
        simp no-match (omega arith)
    go false differ ih = omega arith

-- a tenant past k is one of the next, or is the first of them
others-above : (k n : ℕ) {q : List Request} → Each (λ e. (k < e.tenant) × (e.tenant ≤ k + suc n)) q → Each (λ e. (k + 1 < e.tenant) × (e.tenant ≤ k + 1 + n)) (others (k + 1) q)
unfolding others
others-above k n Each.none = Each.none
others-above k n (Each.also {x = e} {xs = q} p h) = go (eqb e.tenant (k + 1)) refl (others-above k n h)
  where
    go : (t : Bool) → eqb e.tenant (k + 1) ≡ t → Each (λ (a : Request). (k + 1 < a.tenant) × (a.tenant ≤ k + 1 + n)) (others (k + 1) q) → Each (λ (a : Request). (k + 1 < a.tenant) × (a.tenant ≤ k + 1 + n)) (if t then others (k + 1) q else (e ∷ others (k + 1) q))
    go true same ih = ih
    go false differ ih =
        let above : k + 1 < e.tenant = omega (arith, p.0, eqb-false e.tenant (k + 1) differ) in
        let within : e.tenant ≤ k + 1 + n = omega (arith, p.1) in
        Each.also (above, within) ih

-- the meters of the tenants past k: their entries are no more than their shares
shares-hold : (k : ℕ) (ms : List Meter) (q : List Request) → Each (λ e. (k < e.tenant) × (e.tenant ≤ k + length ms)) q → ((i : ℕ) → i < length ms → places_of q (k + i + 1) ≤ (get_or ms i no_meter).share) → length q ≤ total (λ m. m.share) ms
unfolding total
shares-hold k [] [] h room = omega arith
shares-hold k [] (e ∷ q) (Each.also p h) room = absurd (omega (arith, p.0, p.1))
shares-hold k (m ∷ ms) q h room =
    let first : k + 0 + 1 ≡ k + 1 = omega arith in
    let own : places_of q (k + 1) ≤ m.share = rw first at (room 0 (omega arith)) in
    let next : (i : ℕ) → i < length ms → places_of (others (k + 1) q) (k + 1 + i + 1) ≤ (get_or ms i no_meter).share = λ i lt.
    let place : k + suc i + 1 ≡ k + 1 + i + 1 = omega arith in
    let differ : k + 1 ≡ k + 1 + i + 1 → ⊥ = λ (e : k + 1 ≡ k + 1 + i + 1). omega arith in
    rw (others-places (k + 1) (k + 1 + i + 1) q differ, ← place) (room (suc i) (omega arith)) in
    omega (arith, others-length (k + 1) q, own, shares-hold (k + 1) ms (others (k + 1) q) (others-above k (length ms) h) next)

-- every entry of a sound table is of a tenant, and none holds more than its share
pub queue-bound : (t : Table) → length t.meters ≡ 16 → total (λ m. m.share) t.meters ≤ 64 → {q : List Request} → Each (λ e. is_tenant e.tenant ≡ true) q → ((who : ℕ) → is_tenant who ≡ true → places_of q who ≤ (meter_of t who).share) → length q ≤ 64
queue-bound t six sum {q} tenants room =
    let ranged : Each (λ e. (0 < e.tenant) × (e.tenant ≤ 0 + length t.meters)) q = each_map (λ e h. let r = tenant-range e.tenant h in (r.0, omega (arith, r.1))) tenants in
    let shares : (i : ℕ) → i < length t.meters → places_of q (0 + i + 1) ≤ (get_or t.meters i no_meter).share = λ i lt.
    let who : 0 + i + 1 ≡ i + 1 = omega arith in
    let back : i + 1 - 1 ≡ i = omega arith in
    rw who (rw back at (room (i + 1) (tenant-test (i + 1) (omega arith) (omega arith)))) in
    omega (arith, shares-hold 0 t.meters q ranged shares)

-- one place more of a tenant below its share
pub place-taken : {ok : ℕ → Type 0} {t : Table} → SoundBy ok t → (e : Request) → places_of t.queue e.tenant < (meter_of t e.tenant).share → (who : ℕ) → is_tenant who ≡ true → places_of (t.queue ++ e ∷ []) who ≤ (meter_of t who).share
place-taken {ok} {t} s e below who h = go (eqb e.tenant who) refl
  where
    go : (b : Bool) → eqb e.tenant who ≡ b → places_of (t.queue ++ e ∷ []) who ≤ (meter_of t who).share
    go true same =
        let is : e.tenant ≡ who = eqb-true e.tenant who same in
        let least : places_of t.queue who < (meter_of t who).share = rw is at below in
        omega (arith, count-last (λ (a : Request). eqb a.tenant who) t.queue e, one-le (eqb e.tenant who))
    go false differ =
        let none : one (eqb e.tenant who) ≡ 0 = rw differ in
        omega (arith, count-last (λ (a : Request). eqb a.tenant who) t.queue e, s.places who h)

-- "a tenant below its share finds a slot"
pub queue-room : {ok : ℕ → Type 0} {t : Table} → SoundBy ok t → (e : Request) → is_tenant e.tenant ≡ true → places_of t.queue e.tenant < (meter_of t e.tenant).share → length t.queue < 64
queue-room {ok} {t} s e tenant below =
    let all : Each (λ a. is_tenant a.tenant ≡ true) (t.queue ++ e ∷ []) = each_last (each_map (λ a f. f.tenant) s.entries) tenant in
    let bound : length (t.queue ++ e ∷ []) ≤ 64 = queue-bound t s.sixteen s.shares all (place-taken s e below) in
    omega (arith, bound, length-append t.queue (e ∷ []))

-- the queue of a sound table has at most 64 entries
pub sound-count : {ok : ℕ → Type 0} {t : Table} → SoundBy ok t → length t.queue ≤ 64
sound-count {ok} {t} s = queue-bound t s.sixteen s.shares (each_map (λ a f. f.tenant) s.entries) s.places
