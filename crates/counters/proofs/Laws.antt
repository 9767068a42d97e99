-- Each counter equals the count over the queue: said once for Cx and Cs, kept where an entry joins and where one leaves.
use Prim.Native.Nat.{ℕ, ◌+◌, ◌≤◌, ◌<◌}
use mathlib.Core.Path.{◌≡◌, refl}
use mathlib.Core.Bool.{Bool, true, false, ◌||◌}
use mathlib.Core.List.{List, [], ◌∷◌, ◌++◌}
use native.Mathlib.Omega.{arith}
use lib.Dec.{eqb, ltb}
use lib.ListN.{length, get_or, take, drop, replicate, get_or-replicate}
use borrow.Author.Tests.{eqb-true, ltb-true, ne_eqb}
use Rattle.rules.specs.Lists.{some, count_if}
use Rattle.rules.specs.Records.{member, rising, rising_past}
use Rattle.rules.specs.Request.{Request, nobody}
use Rattle.rules.proofs.Tests.{one, both}
use Rattle.rules.proofs.Lists.{count-le, count-last, count-without}
use Rattle.counters.specs.Counters.{occurs, Raised, Under, Stocked, Counts}

-- ---- a rising list holds a record once
past-none : (b k : ℕ) (xs : List ℕ) → rising_past b xs ≡ true → k ≤ b → occurs k xs ≡ 0
unfolding rising_past count_if
past-none b k [] r h = refl
past-none b k (x ∷ xs) r h =
    let p = both (ltb b x) (rising_past x xs) r in
    let lt : b < x = ltb-true b x p.0 in
    let ne : eqb x k ≡ false = ne_eqb x k (λ (e : x ≡ k). omega arith) in
    let le : k ≤ x = omega arith in
    simp ne (omega (arith, past-none x k xs p.1 le))

-- at the list x ∷ xs, by whether x is k
once-go : (x k : ℕ) (xs : List ℕ) → rising_past x xs ≡ true → occurs k xs ≡ one (member k xs) → (t : Bool) → eqb x k ≡ t → one t + occurs k xs ≡ one (t || member k xs)
once-go x k xs r ih true e = let le : k ≤ x = omega (arith, eqb-true x k e) in omega (arith, past-none x k xs r le)
once-go x k xs r ih false e = omega (arith, ih)

past-once : (b k : ℕ) (xs : List ℕ) → rising_past b xs ≡ true → occurs k xs ≡ one (member k xs)
unfolding rising_past count_if member some
past-once b k [] r = refl
past-once b k (x ∷ xs) r =
    let p = both (ltb b x) (rising_past x xs) r in
    once-go x k xs p.1 (past-once x k xs p.1) (eqb x k) refl

once : (k : ℕ) (xs : List ℕ) → rising xs ≡ true → occurs k xs ≡ one (member k xs)
unfolding rising count_if member some
once k [] r = refl
once k (x ∷ xs) r = once-go x k xs r (past-once x k xs r) (eqb x k) refl

-- ---- the counters of a queue
module _ (of : Request → List ℕ) where
  pub counts-none : Counts of (replicate 256 0) []
  unfolding count_if
  counts-none = let z : ℕ = 0 in record { each = λ k b. get_or-replicate 256 k z z b }

  -- no counter is above the number of entries
  pub counts-under : {c : List ℕ} {q : List Request} (n : ℕ) → length q < n → Counts of c q → Under n c
  counts-under {c} {q} n lt h = record { each = λ k b. omega (arith, h.each k b, count-le (λ (e : Request). member k (of e)) q) }

  -- an entry joins
  pub counts-raised : {c r : List ℕ} {q : List Request} (e : Request) → rising (of e) ≡ true → Counts of c q → Raised c (of e) r → Counts of r (q ++ e ∷ [])
  counts-raised {c} {r} {q} e up h d = record {
    each = λ k b. omega (arith, d.each k b, h.each k b, once k (of e) up, count-last (λ (a : Request). member k (of a)) q e);
  }

  module _ {c : List ℕ} {q : List Request} (i : ℕ) (there : i < length q) (up : rising (of (get_or q i nobody)) ≡ true) (h : Counts of c q) where
    -- an entry's own records are counted
    pub counts-stocked : Stocked c (of (get_or q i nobody))
    counts-stocked = record {
      each = λ k b. omega (arith, h.each k b, once k (of (get_or q i nobody)) up, count-without (λ (a : Request). member k (of a)) q i nobody there);
    }

    -- an entry leaves
    pub counts-lowered : {r : List ℕ} → Raised r (of (get_or q i nobody)) c → Counts of r (take i q ++ drop (i + 1) q)
    counts-lowered {r} d = record {
      each = λ k b. omega (arith, d.each k b, h.each k b, once k (of (get_or q i nobody)) up, count-without (λ (a : Request). member k (of a)) q i nobody there);
    }
