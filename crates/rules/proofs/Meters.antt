-- One tenant's meter after another's was changed.
use Rattle.std.specs.Prelude.{if◌then◌else◌}
use Prim.Native.Nat.{ℕ, ◌-◌, ◌≤◌, ◌<◌}
use mathlib.Core.Path.{◌≡◌, refl, sym, ap, ◌∙◌}
use mathlib.Core.Bool.{Bool, true, false}
use native.Mathlib.Omega.{arith}
use lib.Dec.{eqb, leb}
use lib.ListN.{length, length-set}
use lib.Seq.{get_or-set_same, get_or-set_other}
use borrow.Author.Tests.{eqb-true, eqb-false, leb-true, le-leb}
use Rattle.rules.specs.Table.{Meter, Table, is_tenant, no_meter, meter_of, with_meter}
use Rattle.rules.proofs.Tests.{both}

-- "Tenants are 1 to 16"
pub tenant-range : (who : ℕ) → is_tenant who ≡ true → (1 ≤ who) × (who ≤ 16)
tenant-range who h =
    let p = both (leb 1 who) (leb who 16) h in
    (leb-true 1 who p.0, leb-true who 16 p.1)

pub tenant-test : (who : ℕ) → 1 ≤ who → who ≤ 16 → is_tenant who ≡ true
tenant-test who a b = simp (le-leb 1 who a, le-leb who 16 b)

-- a table has a meter for each of the tenants
abbrev pub Sixteen : Table → Type 0
Sixteen t = length t.meters ≡ 16

pub sixteen-with : (t : Table) → Sixteen t → (who : ℕ) (m : Meter) → Sixteen (with_meter t who m)
sixteen-with t h who m = simp length-set h

module _ (t : Table) (six : Sixteen t) (who : ℕ) (h : is_tenant who ≡ true) where
  pub meter-own : (m : Meter) → meter_of (with_meter t who m) who ≡ m
  meter-own m =
      let r = tenant-range who h in
      let lt : who - 1 < length t.meters = omega arith in
      get_or-set_same t.meters (who - 1) m no_meter lt

  pub meter-other : (m : Meter) (other : ℕ) → is_tenant other ≡ true → eqb who other ≡ false → meter_of (with_meter t who m) other ≡ meter_of t other
  meter-other m other k ne =
      let r = tenant-range who h in
      let s = tenant-range other k in
      get_or-set_other t.meters (who - 1) (other - 1) m no_meter (λ (e : other - 1 ≡ who - 1). eqb-false who other ne (omega arith))

  pub meter-with : (m : Meter) (other : ℕ) → is_tenant other ≡ true → meter_of (with_meter t who m) other ≡ (if eqb who other then m else meter_of t other)
  meter-with m other k = go (eqb who other) refl
    where
      go : (b : Bool) → eqb who other ≡ b → meter_of (with_meter t who m) other ≡ (if b then m else meter_of t other)
      go true e = ap (λ (o : ℕ). meter_of (with_meter t who m) o) (sym (eqb-true who other e)) ∙ meter-own m
      go false e = meter-other m other k e
