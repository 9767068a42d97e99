-- Which answer a reading gives: the end, a refusal, or what a whole record is read as.
use Rattle.std.specs.Prelude.{if◌then◌else◌, Some}
use Prim.Native.Nat.{ℕ, ◌≤◌, ◌<◌}
use mathlib.Core.Path.{◌≡◌, sym, ◌∙◌}
use mathlib.Core.Bool.{Bool}
use mathlib.Core.List.{List}
use native.Mathlib.Omega.{arith}
use lib.ListN.{length}
use borrow.Author.Tests.{le-leb, lt-leb, ne_eqb}
use Rattle.rules.specs.declared.Kind.{Kind}
use Rattle.rules.specs.declared.Refusal.{Refusal}
use Rattle.rules.specs.declared.Refusal.TheVariants.{NoTenant, Dry, TooMany, NotRising, TooManyAwaited, NoPlace, NoSerial, TooDear, Absent, WrongState, NothingDue, TooMuchFuel, WrongShares, UnsoundBlock, UnknownTag, PastTheEnd, UnsuitedLength, Misplaced, TooLong}
use Rattle.rules.specs.Numbers.{number_of}
use Rattle.rules.specs.Refusals.{first_of}
use Rattle.rules.specs.Tags.{kind_of}
use Rattle.events.specs.declared.Next.{Next}
use Rattle.events.specs.Events.{tag_at, misplaced, record_rows, file_rows, read_as, record_at, Whole}
use Rattle.events.proofs.Rows.{file-broken, file-whole}

-- no refusal has the number 0
pub numbered : (why : Refusal) → 0 < number_of why
numbered NoTenant = omega arith
numbered Dry = omega arith
numbered TooMany = omega arith
numbered NotRising = omega arith
numbered TooManyAwaited = omega arith
numbered NoPlace = omega arith
numbered NoSerial = omega arith
numbered TooDear = omega arith
numbered Absent = omega arith
numbered WrongState = omega arith
numbered NothingDue = omega arith
numbered TooMuchFuel = omega arith
numbered WrongShares = omega arith
numbered UnsoundBlock = omega arith
numbered UnknownTag = omega arith
numbered PastTheEnd = omega arith
numbered UnsuitedLength = omega arith
numbered Misplaced = omega arith
numbered TooLong = omega arith

module _ (file : List ℕ) (at : ℕ) (first : Bool) where
  -- ---- the rows with 23 behind
  pub broken-rows : (why : Refusal) → number_of why ≡ first_of (record_rows file at) → number_of why ≡ first_of (file_rows file at first)
  broken-rows why e = e ∙ sym (file-broken file at first (λ z. omega (arith, e, numbered why)))

  pub whole-rows : {k : Kind} {b : Bool} → 0 ≡ first_of (record_rows file at) → Whole file at k → misplaced (Some k) first ≡ b → (if b then 23 else 0) ≡ first_of (file_rows file at first)
  whole-rows z w m = sym (rw (w.tag, m) at (file-whole file at first (sym z)))

  -- ---- the reading
  pub at-end : length file ≤ at → record_at file at first ≡ Next.End
  unfolding record_at
  at-end h = simp (le-leb (length file) at h)

  module _ (h : at < length file) where
    pub at-refusal : (why : Refusal) → number_of why ≡ first_of (file_rows file at first) → record_at file at first ≡ Next.Refused (number_of why)
    unfolding record_at
    at-refusal why e = simp (lt-leb (length file) at h, sym e, ne_eqb (number_of why) 0 (λ z. omega (arith, z, numbered why)))

    pub at-whole : 0 ≡ first_of (file_rows file at first) → record_at file at first ≡ read_as (kind_of (tag_at file at)) file at
    unfolding record_at
    at-whole z = simp (lt-leb (length file) at h, sym z)
