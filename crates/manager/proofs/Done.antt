-- The ways out of a call: refused or done, once for the host's calls and once for a tenant's.
use Prim.Native.Nat.{ℕ}
use mathlib.Core.Path.{◌≡◌}
use borrow.Author.Tests.{eq-eqb, ne_eqb}
use Rattle.rules.specs.declared.Answer.{Answer}
use Rattle.rules.specs.declared.Answer.TheVariants.{Refused}
use Rattle.rules.specs.declared.Refusal.{Refusal}
use Rattle.rules.specs.declared.Refusal.TheVariants.{NoTenant, Dry, TooMany, NotRising, TooManyAwaited, NoPlace, NoSerial, TooDear, Absent, WrongState, NothingDue, TooMuchFuel, WrongShares, UnsoundBlock, UnknownTag, PastTheEnd, UnsuitedLength, Misplaced, TooLong}
use Rattle.rules.specs.Numbers.{number_of}
use Rattle.rules.specs.Table.{Table, burn}
use Rattle.rules.specs.Prices.{clause9}
use Rattle.rules.specs.Calls.{host_call, tenant_call}
use Rattle.rules.specs.Sound.{SoundTable}
use Rattle.manager.specs.declared.State.{State}
use Rattle.manager.specs.declared.Said.{Said}
use Rattle.manager.specs.State.{view, Sound, Becomes, Did}
use Rattle.manager.specs.Deeds.{refused_with}
use Rattle.manager.proofs.Views.{saying, still-becomes, did}

-- a refusal's number is none that says that nothing refuses
pub some-number : (why : Refusal) → number_of why ≡ 0 → ⊥
some-number NoTenant e = cc
some-number Dry e = cc
some-number TooMany e = cc
some-number NotRising e = cc
some-number TooManyAwaited e = cc
some-number NoPlace e = cc
some-number NoSerial e = cc
some-number TooDear e = cc
some-number Absent e = cc
some-number WrongState e = cc
some-number NothingDue e = cc
some-number TooMuchFuel e = cc
some-number WrongShares e = cc
some-number UnsoundBlock e = cc
some-number UnknownTag e = cc
some-number PastTheEnd e = cc
some-number UnsuitedLength e = cc
some-number Misplaced e = cc
some-number TooLong e = cc

-- ---- the host's calls
pub host-told : {r : State} (t : Table) {number : ℕ} (deed : Table) (answer : Answer) (why : Refusal) → number ≡ number_of why → SoundTable t → Becomes t r → r.said.answer ≡ Refused (number_of why) → r.said.burnt ≡ 0 → Did r (host_call t number deed answer)
host-told t deed answer why is h b same none = rw (is, ne_eqb (number_of why) 0 (some-number why)) (did h b same none)

-- of a state that stays as it is
pub host-refuses : {s : State} → Sound s → {number : ℕ} (deed : Table) (answer : Answer) {said : Said} (why : Refusal) → number ≡ number_of why → (said.answer ≡ Refused (number_of why)) × (said.burnt ≡ 0) → Did (saying s said) (host_call (view s) number deed answer)
host-refuses {s} h deed answer {said} why is says =
    host-told (view s) deed answer why is h.table (still-becomes h.tied said) says.0 says.1

pub host-done : {r : State} (t : Table) (number : ℕ) {deed : Table} {answer : Answer} → number ≡ 0 → SoundTable deed → Becomes deed r → r.said.answer ≡ answer → r.said.burnt ≡ 0 → Did r (host_call t number deed answer)
host-done t number zero h b same none = rw (eq-eqb number 0 zero) (did h b same none)

-- ---- a tenant's calls
pub tenant-refuses : {r : State} (t : Table) (who : ℕ) {number : ℕ} (price : ℕ) (deed : Table) (answer : Answer) (why : Refusal) → number ≡ number_of why → Did r (refused_with t who (number_of why)) → Did r (tenant_call clause9 t who number price deed answer)
tenant-refuses t who price deed answer why is d = rw (is, ne_eqb (number_of why) 0 (some-number why)) d

pub tenant-done : {r : State} (t : Table) (who number price : ℕ) (deed : Table) (answer : Answer) → number ≡ 0 → SoundTable (burn who price deed) → Becomes (burn who price deed) r → r.said.answer ≡ answer → r.said.burnt ≡ price → Did r (tenant_call clause9 t who number price deed answer)
tenant-done t who number price deed answer none h b same cost = rw (eq-eqb number 0 none) (did h b same cost)
