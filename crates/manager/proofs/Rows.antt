-- What the code has at hand of a tenant and of a place is the law book's.
use Rattle.std.specs.Prelude.{if◌then◌else◌}
use Prim.Native.Nat.{ℕ, ◌-◌, ◌≤◌, ◌<◌}
use mathlib.Core.Path.{◌≡◌, refl, sym, ap, ◌∙◌}
use mathlib.Core.Bool.{Bool, true, false}
use mathlib.Core.List.{List, [], ◌∷◌, ◌++◌}
use native.Mathlib.Omega.{arith}
use lib.Dec.{leb}
use lib.ListN.{get_or}
use Rattle.rules.specs.Request.{nobody}
use Rattle.rules.specs.Table.{Meter as LawMeter, new_meter, is_tenant, meter_of, most_fuel}
use Rattle.rules.specs.Refusals.{Row, first_of, stands_at, is_absent, entry_of}
use Rattle.rules.proofs.Keeps.{fuel-limit}
use Rattle.meter.specs.declared.Meter.{Meter}
use Rattle.meter.specs.View.{meter_view, no_meter}
use Rattle.entry.specs.Entry.{blank, request}
use Rattle.queue.specs.Queue.{Queue, requests}
use Rattle.queue.proofs.Views.{Slots, requests-length, request-at}
use Rattle.manager.specs.declared.State.{State}
use Rattle.manager.specs.State.{view, Sound}
use Rattle.manager.proofs.Views.{meter-view}

-- ---- what the numbers are
-- the meter that was read is the table's, if there is one
pub own-meter : (s : State) (who : ℕ) (m : Meter) → meter_view m ≡ (if is_tenant who then meter_view (get_or s.meters (who - 1) no_meter) else new_meter 0) → is_tenant who ≡ true → meter_view m ≡ meter_of (view s) who
own-meter s who m is one = rw one at is ∙ meter-view s who

-- its fuel, whoever asks
pub own-fuel : (s : State) (who : ℕ) (m : Meter) → meter_view m ≡ (if is_tenant who then meter_view (get_or s.meters (who - 1) no_meter) else new_meter 0) → m.fuel ≡ (if is_tenant who then (meter_of (view s) who).fuel else 0)
own-fuel s who m is = go (is_tenant who) refl
  where
    go : (t : Bool) → is_tenant who ≡ t → m.fuel ≡ (if is_tenant who then (meter_of (view s) who).fuel else 0)
    go true one = rw one (ap (λ (a : LawMeter). a.fuel) (own-meter s who m is one))
    go false none = rw none (ap (λ (a : LawMeter). a.fuel) (rw none at is))

pub fuel-fits : (s : State) → Sound s → (who : ℕ) (m : Meter) → meter_view m ≡ (if is_tenant who then meter_view (get_or s.meters (who - 1) no_meter) else new_meter 0) → m.fuel ≤ most_fuel
fuel-fits s h who m is = go (is_tenant who) refl
  where
    go : (t : Bool) → is_tenant who ≡ t → m.fuel ≤ most_fuel
    go true one = omega (arith, ap (λ (a : LawMeter). a.fuel) (own-meter s who m is one), fuel-limit h.table who one)
    go false none = omega (arith, ap (λ (a : LawMeter). a.fuel) (rw none at is))

-- the entry at the place of a name is the law book's
pub entry-is : {q : Queue} → Slots q → (who serial : ℕ) {at : ℕ} → at ≡ stands_at who serial (requests q) → at < q.count → request (get_or q.entries at blank) ≡ entry_of who serial (requests q)
entry-is {q} s who serial e lt = sym (request-at s lt) ∙ ap (λ (i : ℕ). get_or (requests q) i nobody) e

-- a place that is past the count is past the list
pub absent-is : {q : Queue} → Slots q → (who serial at : ℕ) → at ≡ stands_at who serial (requests q) → leb q.count at ≡ is_absent who serial (requests q)
absent-is {q} s who serial at e =
    ap (leb q.count) e ∙ ap (λ (n : ℕ). leb n (stands_at who serial (requests q))) (sym (requests-length s))

-- ---- rows one after the other
step-some : (t : Bool) (k : ℕ) (a b : List Row) → ((if t then k else first_of a) ≡ 0 → ⊥) → ((first_of a ≡ 0 → ⊥) → first_of (a ++ b) ≡ first_of a) → (if t then k else first_of (a ++ b)) ≡ (if t then k else first_of a)
step-some true k a b n ih = refl
step-some false k a b n ih = ih n

first_some : (a b : List Row) → (first_of a ≡ 0 → ⊥) → first_of (a ++ b) ≡ first_of a
unfolding first_of
first_some [] b n = absurd (n refl)
first_some (row ∷ a) b n = step-some row.when row.number a b n (first_some a b)
