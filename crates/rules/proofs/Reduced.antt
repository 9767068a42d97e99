-- The reduced lists: a record in both is only written. No other record, no conflict and no order is lost by it.
use Rattle.std.specs.Prelude.{if◌then◌else◌}
use Prim.Native.Nat.{ℕ, ◌+◌, ◌≤◌}
use mathlib.Core.Path.{◌≡◌, refl, sym, ap, ◌∙◌}
use mathlib.Core.Bool.{Bool, true, false, ◌&&◌, ◌||◌, not, true≢false}
use mathlib.Core.List.{List, [], ◌∷◌}
use native.Mathlib.Omega.{arith}
use lib.Dec.{eqb}
use lib.ListN.{length}
use borrow.Author.Tests.{eqb-true}
use Rattle.rules.specs.Lists.{some, count_if, keep_if}
use Rattle.rules.specs.Records.{member, meets, only_read}
use Rattle.rules.specs.Request.{Request, reduced, conflict, conflicts_any}
use Rattle.rules.specs.Reduced.{OnlyReadExact, ReducedRaises, ReducedConflicts, ReducedStored, ReducedSame}
use Rattle.rules.specs.Sound.{Each}
use Rattle.rules.proofs.Tests.{and-false, if-either}
use Rattle.rules.proofs.Lists.{some-cong, some_or, count-last, count-le}

-- ---- the elements that are kept
module _ {A : Type 0} where
  pub keep-count : (f : A → Bool) (xs : List A) → length (keep_if f xs) ≡ count_if f xs
  unfolding keep_if count_if
  keep-count f [] = refl
  keep-count f (x ∷ xs) = go (f x) (keep-count f xs)
    where
      go : (b : Bool) → length (keep_if f xs) ≡ count_if f xs → length (if b then x ∷ keep_if f xs else keep_if f xs) ≡ (if b then 1 else 0) + count_if f xs
      go true ih = omega (arith, ih)
      go false ih = omega (arith, ih)

  -- none of those that fail a test passes it, and all are kept where none passes
  keep-none : (f : A → Bool) (xs : List A) → some f (keep_if (λ x. not (f x)) xs) ≡ false
  unfolding keep_if some
  keep-none f [] = refl
  keep-none f (x ∷ xs) = go (f x) refl (keep-none f xs)
    where
      rest : List A
      rest = keep_if (λ (x : A). not (f x)) xs

      go : (b : Bool) → f x ≡ b → some f rest ≡ false → some f (if not b then x ∷ rest else rest) ≡ false
      go true e ih = ih
      go false e ih = simp e ih

  keep_all : (f : A → Bool) (xs : List A) → some f xs ≡ false → keep_if (λ x. not (f x)) xs ≡ xs
  unfolding keep_if some
  keep_all f [] e = refl
  keep_all f (x ∷ xs) e = go (f x) (keep_all f xs) e
    where
      rest : List A
      rest = keep_if (λ (x : A). not (f x)) xs

      go : (b : Bool) → (some f xs ≡ false → rest ≡ xs) → (b || some f xs) ≡ false → (if not b then x ∷ rest else rest) ≡ x ∷ xs
      go true ih z = absurd (true≢false z)
      go false ih z = ap (λ (t : List A). x ∷ t) (ih z)

  -- what holds of each holds of each that is kept
  pub keep-each : {P : A → Type 0} (f : A → Bool) {xs : List A} → Each P xs → Each P (keep_if f xs)
  unfolding keep_if
  keep-each f Each.none = Each.none
  keep-each {P} f (Each.also {x} {xs} h hs) = if-either (Each P) (f x) (Each.also h (keep-each f hs)) (keep-each f hs)

-- ---- records
pub keep-member : (f : ℕ → Bool) (r : ℕ) (xs : List ℕ) → member r (keep_if f xs) ≡ (member r xs && f r)
unfolding keep_if member some
keep-member f r [] = refl
keep-member f r (x ∷ xs) = go (eqb x r) refl (f x) refl (keep-member f r xs)
  where
    rest : List ℕ
    rest = keep_if f xs

    go : (same : Bool) → eqb x r ≡ same → (b : Bool) → f x ≡ b → member r rest ≡ (member r xs && f r) → member r (if b then x ∷ rest else rest) ≡ ((same || member r xs) && f r)
    go true s true e ih = let k : f r ≡ true = rw (sym (eqb-true x r s)) e in simp (s, k)
    go true s false e ih = let k : f r ≡ false = rw (sym (eqb-true x r s)) e in ih ∙ simp (k, and-false)
    go false s true e ih = simp s ih
    go false s false e ih = ih

pub only-read-exact : OnlyReadExact
unfolding only_read
only-read-exact r reads writes = keep-member (λ (k : ℕ). not (member k writes)) r reads

pub reduced-same : ReducedSame
unfolding only_read meets
reduced-same reads writes apart = keep_all (λ (r : ℕ). member r writes) reads apart

-- no more are only read than are read
pub only-few : (reads writes : List ℕ) {n : ℕ} → length reads ≤ n → length (only_read reads writes) ≤ n
unfolding only_read
only-few reads writes few =
    let f : ℕ → Bool = λ r. not (member r writes) in
    omega (arith, keep-count f reads, count-le f reads, few)

pub reduced-stored : ReducedStored
unfolding only_read meets
reduced-stored reads writes f = record {
  few-reads = only-few reads writes f.few-reads;
  few-writes = f.few-writes;
  reads-rise = f.reads-rise;
  writes-rise = f.writes-rise;
  apart = keep-none (λ (r : ℕ). member r writes) reads;
}

-- "it raises Cx and not Cs"
pub reduced-raises : ReducedRaises
reduced-raises q e r = record {
  exclusive = count-last (λ (a : Request). member r a.writes) q (reduced e);
  shared = count-last (λ (a : Request). member r a.reads) q (reduced e) ∙ simp (only-read-exact r e.reads e.writes);
}

-- ---- conflicts: a record that is read no more is still written
or-rest : (a b : Bool) → (a || (b && not a)) ≡ (a || b)
or-rest true b = refl
or-rest false true = refl
or-rest false false = refl

meets-rest : (xs reads writes : List ℕ) → (meets xs writes || meets xs (only_read reads writes)) ≡ (meets xs writes || meets xs reads)
unfolding meets
meets-rest xs reads writes =
    sym (some_or (λ (x : ℕ). member x writes) (λ (x : ℕ). member x (only_read reads writes)) xs) ∙
    some-cong xs (λ x. ap (λ (t : Bool). member x writes || t) (only-read-exact x reads writes) ∙ or-rest (member x writes) (member x reads)) ∙
    some_or (λ (x : ℕ). member x writes) (λ (x : ℕ). member x reads) xs

pub reduced-conflicts : ReducedConflicts
unfolding conflict
reduced-conflicts a e = ap (λ (t : Bool). t || meets a.reads e.writes) (meets-rest a.writes e.reads e.writes)

pub reduced-clash : (q : List Request) (e : Request) → conflicts_any q (reduced e) ≡ conflicts_any q e
reduced-clash q e = some-cong q (λ a. reduced-conflicts a e)
