-- What a reading says of the file that gave an event, and the end.
use Rattle.std.specs.Prelude.{if◌then◌else◌}
use Prim.Native.Nat.{ℕ, ◌≤◌, ◌<◌}
use mathlib.Core.Path.{◌≡◌, refl, sym, ap, subst, ◌∙◌}
use mathlib.Core.Bool.{Bool, true, false}
use mathlib.Core.List.{List}
use mathlib.Core.Logic.{◌↔◌}
use native.Mathlib.Omega.{arith}
use lib.Dec.{eqb, leb}
use lib.ListN.{length}
use borrow.Author.Tests.{leb-true, eqb-true, eqb-false}
use Rattle.rules.specs.declared.Kind.{Kind}
use Rattle.rules.specs.declared.Event.{Event}
use Rattle.rules.specs.Refusals.{first_of}
use Rattle.rules.specs.Runs.{Call, event_of}
use Rattle.std.specs.Prelude.{Option, Some, None}
use Rattle.events.specs.declared.Next.{Next}
use Rattle.rules.specs.Tags.{kind_of}
use Rattle.events.specs.Events.{tag_at, body_at, next_at, record_rows, file_rows, call_of, call_at, read_as, record_at, within, shares_part, reads_part, writes_part, standing, Whole}
use Rattle.events.proofs.Rows.{whole, stands, file-broken}
use Rattle.events.proofs.Readers.{its_shares, its_reads, its_writes}
use Rattle.events.proofs.Answers.{at-end}

-- an event was read, and n is where the next record begins
pub record Found (file : List ℕ) (at : ℕ) (e : Event) (n : ℕ) : Type 0 where
  pub next : n ≡ next_at file at
  pub whole : Whole file at e.kind
  pub unharmed : first_of (record_rows file at) ≡ 0
  pub event : e ≡ event_of (call_at file at e)

-- ---- by the tests of a reading
kind-back : (k : Kind) (body : List ℕ) → (event_of (call_of k body)).kind ≡ k
unfolding call_of
kind-back Kind.Open body = refl
kind-back Kind.Grant body = refl
kind-back Kind.Begin body = refl
kind-back Kind.Finish body = refl
kind-back Kind.Recheck body = refl
kind-back Kind.Scan body = refl
kind-back Kind.Pick body = refl
kind-back Kind.Deliver body = refl
kind-back Kind.Evict body = refl
kind-back Kind.Cancel body = refl

never : {A : Type 0} → ◌≡◌ {A = ℕ} 0 1 → A
never z = absurd (omega arith)

module _ (file : List ℕ) (at : ℕ) (first : Bool) where
  abbrev number : ℕ
  number = first_of (file_rows file at first)

  abbrev answer : Bool → Bool → Option Kind → Next
  answer past none kind =
      if past then Next.End else
      if none then read_as kind file at else
      Next.Refused number

  -- a record that is not refused has nothing wrong with it
  unharmed : number ≡ 0 → first_of (record_rows file at) ≡ 0
  unharmed z = go (eqb (first_of (record_rows file at)) 0) refl
    where
      go : (b : Bool) → eqb (first_of (record_rows file at)) 0 ≡ b → first_of (record_rows file at) ≡ 0
      go true e = eqb-true (first_of (record_rows file at)) 0 e
      go false e = absurd (eqb-false (first_of (record_rows file at)) 0 e (sym (file-broken file at first (eqb-false (first_of (record_rows file at)) 0 e)) ∙ z))

  pub found : {e : Event} {n : ℕ} → record_at file at first ≡ Next.Call e n → Found file at e n
  unfolding record_at
  found {e} {n} q = go (leb (length file) at) (eqb number 0) refl (kind_of (tag_at file at)) refl q
    where
      go : (past none : Bool) → eqb number 0 ≡ none → (kind : Option Kind) → kind_of (tag_at file at) ≡ kind → answer past none kind ≡ Next.Call e n → Found file at e n
      go true none z kind t q = never (cc)
      go false true z None t q = never (cc)
      go false false z kind t q = never (cc)
      go false true z (Some k) t q =
          let is : e ≡ event_of (call_of k (body_at file at)) = cc in
          let same : e.kind ≡ k = ap (λ (x : Event). x.kind) is ∙ kind-back k (body_at file at) in
          let fine = unharmed (eqb-true number 0 z) in
          record { next = (cc); whole = subst (Whole file at) (sym same) (whole file at fine t); unharmed = fine; event = is ∙ ap (λ (x : Kind). event_of (call_of x (body_at file at))) (sym same) }

  ended : record_at file at first ≡ Next.End → length file ≤ at
  unfolding record_at
  ended q = go (leb (length file) at) refl (eqb number 0) (kind_of (tag_at file at)) q
    where
      go : (past : Bool) → leb (length file) at ≡ past → (none : Bool) (kind : Option Kind) → answer past none kind ≡ Next.End → length file ≤ at
      go true p none kind q = leb-true (length file) at p
      go false p true (Some k) q = never (cc)
      go false p true None q = never (cc)
      go false p false kind q = never (cc)

  -- the end, exactly where nothing is left
  pub end-exactly : (record_at file at first ≡ Next.End) ↔ (length file ≤ at)
  end-exactly = (ended, at-end file at first)

-- ---- the call of an event, with the lists that the readers hand back
abbrev pub with_parts : List ℕ → ℕ → Kind → Event → Call
with_parts file at Kind.Open e = Call.Open (within file (shares_part file at))
with_parts file at Kind.Grant e = Call.Grant e.tenant e.amount
with_parts file at Kind.Begin e = Call.Begin e.tenant e.awaited (within file (reads_part file at)) (within file (writes_part file at))
with_parts file at Kind.Finish e = Call.Finish e.tenant e.serial
with_parts file at Kind.Recheck e = Call.Recheck e.tenant e.serial
with_parts file at Kind.Scan e = Call.Scan e.tenant
with_parts file at Kind.Pick e = Call.Pick
with_parts file at Kind.Deliver e = Call.Deliver e.tenant e.serial
with_parts file at Kind.Evict e = Call.Evict e.tenant e.serial
with_parts file at Kind.Cancel e = Call.Cancel e.tenant e.serial

module _ {file : List ℕ} {at : ℕ} {e : Event} {n : ℕ} (f : Found file at e n) where
  pub within-file : n ≤ length file
  within-file = omega (arith, f.next, f.whole.inside)

  pub onward : at < n
  onward = omega (arith, f.next)

  stands-as : standing file at ≡ Some e.kind
  stands-as = stands file at f.unharmed ∙ f.whole.tag

  -- by its kind
  module _ (k : Kind) (is : e.kind ≡ k) where
    of-kind : call_at file at e ≡ call_of k (body_at file at)
    of-kind = ap (λ (x : Kind). call_of x (body_at file at)) is

    says : e ≡ event_of (call_of k (body_at file at))
    says = f.event ∙ ap event_of of-kind

    whole-as : Whole file at k
    whole-as = subst (Whole file at) is f.whole

    known_as : standing file at ≡ Some k
    known_as = stands-as ∙ ap Some is

  pub call-of : (k : Kind) → e.kind ≡ k → call_at file at e ≡ with_parts file at k e
  unfolding call_of
  call-of Kind.Open is = of-kind Kind.Open is ∙ ap Call.Open (its_shares (whole-as Kind.Open is) f.unharmed refl)
  call-of Kind.Grant is = of-kind Kind.Grant is ∙ cc (ap (λ (x : Event). x.tenant) (says Kind.Grant is), ap (λ (x : Event). x.amount) (says Kind.Grant is))
  call-of Kind.Begin is =
      let w = whole-as Kind.Begin is in
      of-kind Kind.Begin is ∙ cc (ap (λ (x : Event). x.tenant) (says Kind.Begin is), ap (λ (x : Event). x.awaited) (says Kind.Begin is), its_reads w f.unharmed refl, its_writes w f.unharmed refl)
  call-of Kind.Finish is = of-kind Kind.Finish is ∙ cc (ap (λ (x : Event). x.tenant) (says Kind.Finish is), ap (λ (x : Event). x.serial) (says Kind.Finish is))
  call-of Kind.Recheck is = of-kind Kind.Recheck is ∙ cc (ap (λ (x : Event). x.tenant) (says Kind.Recheck is), ap (λ (x : Event). x.serial) (says Kind.Recheck is))
  call-of Kind.Scan is = of-kind Kind.Scan is ∙ cc (ap (λ (x : Event). x.tenant) (says Kind.Scan is))
  call-of Kind.Pick is = of-kind Kind.Pick is
  call-of Kind.Deliver is = of-kind Kind.Deliver is ∙ cc (ap (λ (x : Event). x.tenant) (says Kind.Deliver is), ap (λ (x : Event). x.serial) (says Kind.Deliver is))
  call-of Kind.Evict is = of-kind Kind.Evict is ∙ cc (ap (λ (x : Event). x.tenant) (says Kind.Evict is), ap (λ (x : Event). x.serial) (says Kind.Evict is))
  call-of Kind.Cancel is = of-kind Kind.Cancel is ∙ cc (ap (λ (x : Event). x.tenant) (says Kind.Cancel is), ap (λ (x : Event). x.serial) (says Kind.Cancel is))
