-- Where a search ends: the entry it found stands in the queue and qualifies.
use Prim.Native.Nat.{ℕ, ◌-◌, ◌<◌}
use mathlib.Core.Path.{◌≡◌, subst}
use mathlib.Core.Bool.{true, false, ◌&&◌, not}
use mathlib.Core.List.{List, [], ◌∷◌, ◌++◌}
use native.Mathlib.Omega.{arith}
use lib.Dec.{eqb, ltb}
use borrow.Author.Tests.{not-true}
use lib.ListN.{length, get_or, take, length-append}
use lib.Seq.{append_snoc, take-append_seam, get_or-append_seam}
use Rattle.rules.specs.Request.{Request, nobody, size, conflicts_any, is_blocked}
use Rattle.rules.specs.Prices.{Prices}
use Rattle.rules.specs.Scan.{Walk, found, nothing, short, scan_walk, qualifies}
use Rattle.rules.proofs.Tests.{both, if-cases}

-- the entry at a place of a queue qualifies
pub record Stop (who : ℕ) (q : List Request) (at : ℕ) : Type 0 where
  pub there : at < length q
  pub fits : qualifies who (take at q) (get_or q at nobody) ≡ true

-- it is the caller's, Blocked, and conflicts with nothing ahead
module _ {who : ℕ} {q : List Request} {at : ℕ} (s : Stop who q at) where
  parts : ((eqb (get_or q at nobody).tenant who && is_blocked (get_or q at nobody).mode) ≡ true) × (not (conflicts_any (take at q) (get_or q at nobody)) ≡ true)
  parts = both (eqb (get_or q at nobody).tenant who && is_blocked (get_or q at nobody).mode) (not (conflicts_any (take at q) (get_or q at nobody))) s.fits

  pub stop-clear : conflicts_any (take at q) (get_or q at nobody) ≡ false
  stop-clear = not-true (conflicts_any (take at q) (get_or q at nobody)) parts.1

module _ (p : Prices) (who : ℕ) where
  pub walk-stops : (fuel : ℕ) (ahead q : List Request) (at : ℕ) → (scan_walk p who fuel ahead q).end ≡ found at → Stop who (ahead ++ q) at
  unfolding scan_walk
  walk-stops fuel ahead [] at = λ (e : nothing ≡ found at). let z : ◌≡◌ {A = ℕ} 0 1 = cc in absurd (omega arith)
  walk-stops fuel ahead (e ∷ q) at =
      let stops : Walk → Type 0 = λ w. w.end ≡ found at → Stop who (ahead ++ e ∷ q) at in
      if-cases stops (ltb fuel (p.look (size e)))
      (λ cut. λ (z : short ≡ found at). let k : ◌≡◌ {A = ℕ} 0 1 = cc in absurd (omega arith))
      (λ on. if-cases stops (qualifies who ahead e)
      (λ (fit : qualifies who ahead e ≡ true). λ (z : found (length ahead) ≡ found at).
      let k : length ahead ≡ at = cc in
      subst (Stop who (ahead ++ e ∷ q)) k (record { there = simp length-append (omega arith); fits = rw (take-append_seam ahead (e ∷ q), get_or-append_seam ahead e q nobody) fit }))
      (λ other. λ z. subst (λ (l : List Request). Stop who l at) (append_snoc ahead e q) (walk-stops (fuel - p.look (size e)) (ahead ++ e ∷ []) q at z)))
