-- Counters after a loop has passed the first i records of a list: each has changed by how often its record stood there.
use Prim.Native.Nat.{ℕ, zero, suc, ◌+◌, ◌-◌, ◌≤◌, ◌<◌}
use mathlib.Core.Path.{◌≡◌, refl, sym, ap, ◌∙◌}
use mathlib.Core.List.{List, [], ◌∷◌}
use native.Mathlib.Nat.{not-suc-le-zero, le_of_suc-le-suc}
use native.Mathlib.Numerals.{add-one}
use native.Mathlib.Omega.{arith}
use lib.Dec.{eqb, eqb-zero-suc, eqb-suc-zero, eqb-suc-suc}
use lib.ListN.{length, get_or, take, drop, set, take-append-drop}
use lib.Seq.{take-suc}
use borrow.Author.Tests.{eq-eqb}
use Rattle.rules.specs.Lists.{count_if}
use Rattle.rules.proofs.Tests.{one}
use Rattle.rules.proofs.Lists.{count-last, count-append, count-le}
use Rattle.counters.specs.Counters.{at, occurs, Raised, Under, Stocked}

-- ---- one record
raise-at : (x k : ℕ) (c : List ℕ) → k < length c → at (set c x (at c x + 1)) k ≡ at c k + one (eqb x k)
raise-at x k [] h = absurd (not-suc-le-zero h)
raise-at zero zero (y ∷ c) h = refl
raise-at zero (suc k) (y ∷ c) h = simp (eqb-zero-suc) (omega arith)
raise-at (suc x) zero (y ∷ c) h = simp (eqb-suc-zero) (omega arith)
raise-at (suc x) (suc k) (y ∷ c) h = simp (eqb-suc-suc) (raise-at x k c (le_of_suc-le-suc h))

pub lower-at : (x k : ℕ) (c : List ℕ) → 0 < at c x → at (set c x (at c x - 1)) k + one (eqb x k) ≡ at c k
lower-at x k [] h = absurd (not-suc-le-zero h)
lower-at zero zero (y ∷ c) h = omega arith
lower-at zero (suc k) (y ∷ c) h = simp (eqb-zero-suc) (omega arith)
lower-at (suc x) zero (y ∷ c) h = simp (eqb-suc-zero) (omega arith)
lower-at (suc x) (suc k) (y ∷ c) h = simp (eqb-suc-suc) (lower-at x k c h)

-- ---- one record more of a list
occurs-next : (k : ℕ) (list : List ℕ) (i : ℕ) → i < length list → occurs k (take (i + 1) list) ≡ occurs k (take i list) + one (eqb (get_or list i 0) k)
occurs-next k list i h =
    ap (λ (t : List ℕ). occurs k t) (rw (add-one i) (take-suc list i 0 h)) ∙ count-last (λ x. eqb x k) (take i list) (get_or list i 0)

occurs-le : (k i : ℕ) (list : List ℕ) → occurs k (take i list) ≤ occurs k list
occurs-le k i list =
    let split : occurs k list ≡ occurs k (take i list) + occurs k (drop i list) = ap (λ (t : List ℕ). occurs k t) (sym (take-append-drop i list)) ∙ count-append (λ x. eqb x k) (take i list) (drop i list) in
    omega arith

-- ---- the loops
pub raised-none : (c list : List ℕ) → Raised c (take 0 list) c
unfolding count_if
raised-none c list = record { each = λ k b. omega arith }

module _ (list : List ℕ) (i : ℕ) (there : i < length list) where
  pub raised-more : {c next : List ℕ} → Raised c (take i list) next → length next ≡ 256 → Raised c (take (i + 1) list) (set next (get_or list i 0) (at next (get_or list i 0) + 1))
  raised-more {c} {next} r whole = record {
    each = λ k b.
        let lt : k < length next = omega arith in
        omega (arith, raise-at (get_or list i 0) k next lt, r.each k b, occurs-next k list i there);
  }

  pub lowered-more : {c next : List ℕ} → Raised next (take i list) c → 0 < at next (get_or list i 0) → Raised (set next (get_or list i 0) (at next (get_or list i 0) - 1)) (take (i + 1) list) c
  lowered-more {c} {next} r some = record {
    each = λ k b. omega (arith, lower-at (get_or list i 0) k next some, r.each k b, occurs-next k list i there);
  }

  -- there is one to take
  pub lowered-some : {c next : List ℕ} → Raised next (take i list) c → Stocked c list → get_or list i 0 < 256 → 0 < at next (get_or list i 0)
  lowered-some {c} {next} r s small =
      let x = get_or list i 0 in
      let own : one (eqb x x) ≡ 1 = rw (eq-eqb x x refl) refl in
      omega (arith, r.each x small, s.each x small, occurs-next x list i there, occurs-le x (i + 1) list)

-- no counter overflows: it is below the bound and has risen by at most one for each record passed
pub raised-fits : {c xs next : List ℕ} {bound : ℕ} → Raised c xs next → Under bound c → (k : ℕ) → k < 256 → at next k < bound + length xs
raised-fits {c} {xs} r u k b = omega (arith, r.each k b, u.each k b, count-le (λ x. eqb x k) xs)
