-- Promises 5 and 8: who may join does, a Free entry may leave on a dry tank, and a Blocked one at the front may run.
use Prim.Native.Nat.{ℕ}
use mathlib.Core.Path.{◌≡◌, refl}
use mathlib.Core.Bool.{false}
use native.Mathlib.Omega.{arith}
use lib.Dec.{ltb}
use Rattle.rules.specs.declared.Mode.{Mode}
use Rattle.rules.specs.Request.{reduced, size, is_blocked, promoted}
use Rattle.rules.specs.Table.{Table}
use Rattle.rules.specs.Prices.{Prices}
use Rattle.rules.specs.Refusals.{first_of, finish_rows}
use Rattle.rules.specs.Calls.{asked, finish_of, pick_of}
use Rattle.rules.proofs.Tests.{and-false, if-either}
use Rattle.rules.proofs.Admission.{Admissible, begin-admits}
use Rattle.rules.proofs.Keeps.{burn-none}
use Rattle.promises.specs.Fuel.{Fair}
use Rattle.promises.specs.Places.{MayLeave, Admits, Finishes, Picks}

-- Finish: the row of 2 lets a Free entry pass, whatever the fuel
free-passes : {t : Table} {who serial : ℕ} → MayLeave t who serial → first_of (finish_rows t who serial) ≡ 0
unfolding first_of finish_rows
free-passes l = simp (l.tenant, l.there, l.free, and-false)

module _ {p : Prices} (f : Fair p) where
  -- 5 "is admitted"
  pub admits : Admits p
  admits t who awaited reads writes j =
      let e = asked t who awaited reads writes in
      let a : Admissible p t e = record { tenant = j.tenant; lists = j.lists; awaited = j.awaited; place = j.place; serial = j.serial; some-fuel = omega (arith, j.fuel, f.request (size (reduced e))); fuel = j.fuel } in
      record { answer = rw (begin-admits a); queue = rw (begin-admits a); burnt = rw (begin-admits a) }

  -- "and a Finish of a Free entry succeeds on a dry tank"
  pub finishes : Finishes p
  unfolding finish_of
  finishes t who serial l =
      let z = free-passes l in
      record { answer = rw z; table = rw (z, f.finish) (burn-none who _); burnt = rw z f.finish }

-- 8 "Pick promotes it whatever the counters are": it looks at the front alone, and a promoted entry is not Blocked
pub picks : Picks
unfolding pick_of promoted
picks t e q b = record {
  answer = simp (b.front, b.blocked);
  queue = simp (b.front, b.blocked);
  runs = if-either (λ (m : Mode). is_blocked m ≡ false) (ltb 0 e.due) refl refl;
}
