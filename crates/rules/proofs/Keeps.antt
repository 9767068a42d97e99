-- What keeps a table sound: a meter changed, an entry added, taken out or put in another's place.
use Rattle.std.specs.Prelude.{if◌then◌else◌}
use Prim.Native.Nat.{ℕ, ◌-◌, ◌≤◌, ◌<◌}
use mathlib.Core.Path.{◌≡◌, refl, sym, ap, ◌∙◌}
use mathlib.Core.Bool.{Bool, true, false}
use mathlib.Core.List.{List, [], ◌∷◌, ◌++◌}
use native.Mathlib.Omega.{arith}
use lib.Dec.{eqb, ltb}
use lib.ListN.{length, get_or, take, set, length-set}
use lib.Seq.{set-get_or}
use borrow.Author.Tests.{ltb-true, ltb-false, eqb-true}
use Rattle.rules.specs.declared.Mode.TheVariants.{Free, Waiting}
use Rattle.rules.specs.Records.{Stored}
use Rattle.rules.specs.Request.{Request, nobody, conflict, with_mode, promoted}
use Rattle.rules.specs.Table.{Meter, Table, is_tenant, no_meter, meter_of, with_meter, with_queue, places_of, spent, burn, most_fuel, most_serials}
use Rattle.rules.specs.Calls.{without_entry, with_entry}
use Rattle.rules.specs.Sound.{Each, Fit, SoundBy, Names, SerialsRise, ClearOf, given_by}
use Rattle.rules.proofs.Tests.{if-cases}
use Rattle.rules.proofs.Lists.{total-set, count_set, count-without}
use Rattle.rules.proofs.Meters.{tenant-range, meter-with}
use Rattle.rules.proofs.Order.{each_at, each_map, each_last, each-without, each_set, order-last, order-without, order-set, order-ahead}
use Rattle.rules.proofs.Room.{place-taken}

-- ---- the meters
-- a tenant's meter changes, its share the same and no serial taken back
module _ {ok : ℕ → Type 0} {t : Table} (s : SoundBy ok t) (who : ℕ) (h : is_tenant who ≡ true) (m : Meter) (share : m.share ≡ (meter_of t who).share) (serials : (meter_of t who).serials ≤ m.serials) where
  kept-share : (other : ℕ) → is_tenant other ≡ true → (meter_of (with_meter t who m) other).share ≡ (meter_of t other).share
  kept-share other k =
      rw (meter-with t s.sixteen who h m other k)
      (if-cases (λ (n : Meter). n.share ≡ (meter_of t other).share) (eqb who other) (λ e. rw (← (eqb-true who other e)) share) (λ e. refl))

  more-serials : (other : ℕ) → is_tenant other ≡ true → (meter_of t other).serials ≤ (meter_of (with_meter t who m) other).serials
  more-serials other k =
      rw (meter-with t s.sixteen who h m other k)
      (if-cases (λ (n : Meter). (meter_of t other).serials ≤ n.serials) (eqb who other) (λ e. rw (← (eqb-true who other e)) serials) (λ e. omega arith))

  fit-still : (e : Request) → Fit (given_by t) e → Fit (given_by (with_meter t who m)) e
  fit-still e f = record {
    awaited = f.awaited;
    due = f.due;
    tenant = f.tenant;
    from_one = f.from_one;
    to-given = omega (arith, f.to-given, more-serials e.tenant f.tenant);
    free = f.free;
    waiting = f.waiting;
    blocked = f.blocked;
    lists = f.lists;
  }

  pub sound-meter : m.fuel ≤ most_fuel → m.serials ≤ most_serials → SoundBy ok (with_meter t who m)
  sound-meter full named = record {
    sixteen = simp length-set s.sixteen;
    shares = rw (total-set (λ (n : Meter). n.share) t.meters (who - 1) m no_meter share) s.shares;
    fuel = each_set (who - 1) s.fuel full;
    given = each_set (who - 1) s.given named;
    places = λ other k. rw (kept-share other k) (s.places other k);
    entries = each_map fit-still s.entries;
    records = s.records;
    serials = s.serials;
    clear = s.clear;
  }

module _ {ok : ℕ → Type 0} {t : Table} (s : SoundBy ok t) where
  -- a tenant has a meter, and its fuel and its serials keep their limits
  has-meter : (who : ℕ) → is_tenant who ≡ true → who - 1 < length t.meters
  has-meter who h = let r = tenant-range who h in omega (arith, s.sixteen, r.0, r.1)

  pub fuel-limit : (who : ℕ) → is_tenant who ≡ true → (meter_of t who).fuel ≤ most_fuel
  fuel-limit who h = each_at s.fuel (who - 1) no_meter (has-meter who h)

  pub serials-limit : (who : ℕ) → is_tenant who ≡ true → (meter_of t who).serials ≤ most_serials
  serials-limit who h = each_at s.given (who - 1) no_meter (has-meter who h)

  pub sound-burn : (who units : ℕ) → is_tenant who ≡ true → SoundBy ok (burn who units t)
  sound-burn who units h =
      sound-meter s who h (spent (meter_of t who) units) refl (omega arith) (omega (arith, fuel-limit who h)) (serials-limit who h)

-- who burns nothing leaves the table as it is
pub burn-none : (who : ℕ) (t : Table) → burn who 0 t ≡ t
burn-none who t =
    let same : (meter_of t who).fuel - 0 ≡ (meter_of t who).fuel = omega arith in
    let m : spent (meter_of t who) 0 ≡ meter_of t who = ap (λ (n : ℕ). record { fuel = n; serials = (meter_of t who).serials; share = (meter_of t who).share }) same in
    ap (λ (ms : List Meter). record { meters = ms; queue = t.queue }) (ap (set t.meters (who - 1)) m ∙ set-get_or t.meters (who - 1) no_meter)

-- ---- one entry
-- a running entry is fit, whatever its state was: Waiting with an answer due, Free with none
pub promoted-fit : (given : ℕ → ℕ) (e : Request) → e.awaited ≤ 15 → e.due ≤ e.awaited → is_tenant e.tenant ≡ true → 1 ≤ e.serial → e.serial ≤ given e.tenant → Stored e.reads e.writes → Fit given (promoted e)
unfolding promoted
promoted-fit given e awaited due tenant from_one to-given lists = go (ltb 0 e.due) refl
  where
    go : (b : Bool) → ltb 0 e.due ≡ b → Fit given (with_mode e (if b then Waiting else Free))
    go true above = record {
      awaited = awaited;
      due = due;
      tenant = tenant;
      from_one = from_one;
      to-given = to-given;
      free = λ (z : false ≡ true). cc;
      waiting = λ z. ltb-true 0 e.due above;
      blocked = λ (z : false ≡ true). let k : ◌≡◌ {A = ℕ} 0 1 = cc in absurd (omega arith);
      lists = lists;
    }
    go false none = record {
      awaited = awaited;
      due = due;
      tenant = tenant;
      from_one = from_one;
      to-given = to-given;
      free = λ z. omega (arith, ltb-false 0 e.due none);
      waiting = λ (z : false ≡ true). let k : ◌≡◌ {A = ℕ} 0 1 = cc in absurd (omega arith);
      blocked = λ (z : false ≡ true). let k : ◌≡◌ {A = ℕ} 0 1 = cc in absurd (omega arith);
      lists = lists;
    }

-- ---- the queue
module _ {ok : ℕ → Type 0} {t : Table} (s : SoundBy ok t) where
  -- an entry joins the back
  pub sound-joined : (e : Request) → Fit (given_by t) e → Names ok e → places_of t.queue e.tenant < (meter_of t e.tenant).share → Each (λ a. SerialsRise a e) t.queue → Each (λ a. ClearOf a e) t.queue → SoundBy ok (with_queue t (t.queue ++ e ∷ []))
  sound-joined e f named place rise clear = record {
    sixteen = s.sixteen;
    shares = s.shares;
    fuel = s.fuel;
    given = s.given;
    places = place-taken s e place;
    entries = each_last s.entries f;
    records = each_last s.records named;
    serials = order-last s.serials rise;
    clear = order-last s.clear clear;
  }

  -- an entry leaves
  pub sound-removed : (at : ℕ) → at < length t.queue → SoundBy ok (with_queue t (without_entry at t.queue))
  sound-removed at lt = record {
    sixteen = s.sixteen;
    shares = s.shares;
    fuel = s.fuel;
    given = s.given;
    places = λ who h. omega (arith, s.places who h, count-without (λ (a : Request). eqb a.tenant who) t.queue at nobody lt);
    entries = each-without at s.entries;
    records = each-without at s.records;
    serials = order-without at s.serials;
    clear = order-without at s.clear;
  }

  -- an entry takes the place of another of the same name and lists
  pub sound-replaced : (at : ℕ) → at < length t.queue → (e : Request) → let old = get_or t.queue at nobody in e.tenant ≡ old.tenant → e.serial ≡ old.serial → e.reads ≡ old.reads → e.writes ≡ old.writes → Fit (given_by t) e → Each (λ a. ClearOf a e) (take at t.queue) → SoundBy ok (with_entry t at e)
  unfolding conflict
  sound-replaced at lt e tenant serial reads writes f clear =
      let old = get_or t.queue at nobody in
      let ahead : Each (λ a. SerialsRise a e) (take at t.queue) = each_map (λ a (r : SerialsRise a old). λ same. rw serial (r (same ∙ tenant))) (order-ahead at nobody lt s.serials) in
      let behind : (y : Request) → SerialsRise old y → SerialsRise e y = λ y (r : SerialsRise old y). λ same. rw serial (r (sym tenant ∙ same)) in
      let was : Names ok old = each_at s.records at nobody lt in
      let named : Names ok e = record { reads = rw reads was.reads; writes = rw writes was.writes } in
      let after : (y : Request) → ClearOf old y → ClearOf e y = λ y (r : ClearOf old y). λ runs. rw (reads, writes) (r runs) in
      record {
        sixteen = s.sixteen;
        shares = s.shares;
        fuel = s.fuel;
        given = s.given;
        places = λ who h. rw (count_set (λ (a : Request). eqb a.tenant who) t.queue at e nobody (ap (λ (n : ℕ). eqb n who) tenant)) (s.places who h);
        entries = each_set at s.entries f;
        records = each_set at s.records named;
        serials = order-set at nobody lt s.serials ahead behind;
        clear = order-set at nobody lt s.clear clear after;
      }
