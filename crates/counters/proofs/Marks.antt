-- The map of the records with a counter above 0, as counters rise and fall, and what it says of the queue.
use Prim.Native.Nat.{ℕ, zero, suc, ◌+◌, ◌-◌, ◌≤◌, ◌<◌}
use mathlib.Core.Path.{◌≡◌, refl, sym, ap, ◌∙◌}
use mathlib.Core.Bool.{Bool, true, false, ◌&&◌, ◌||◌, not}
use mathlib.Core.List.{List}
use native.Mathlib.Omega.{arith}
use lib.Dec.{eqb, ltb}
use lib.ListN.{set, replicate, get_or-replicate}
use borrow.Author.Tests.{lt-ltb, le-ltb, eqb-true}
use Rattle.rules.specs.Lists.{some}
use Rattle.rules.specs.Records.{member}
use Rattle.rules.specs.Request.{Request}
use Rattle.rules.proofs.Tests.{one, and-true, and-false}
use Rattle.rules.proofs.Lists.{count-above}
use Rattle.maps.specs.Maps.{in_map, Words, MapOf, Empty, Without, Union}
use Rattle.maps.proofs.Records.{map-told}
use Rattle.counters.specs.Counters.{at, occurs, Raised, Counts, Marks}
use Rattle.counters.proofs.Loops.{lower-at}

pub marks-none : {m : List ℕ} → Empty m → Marks m (replicate 256 0)
marks-none e = record { each = λ k (lt : k < 256). e.each k ∙ sym (ap (ltb 0) (get_or-replicate 256 k 0 0 lt)) }

-- ---- counters rise: the records of the list are above 0, whatever they were
sum-above : (a b : ℕ) → ltb 0 (a + b) ≡ (ltb 0 a || ltb 0 b)
sum-above zero b = let e : zero + b ≡ b = omega arith in ap (ltb 0) e
sum-above (suc a) b =
    let up : 0 < suc a + b = omega arith in
    let first : 0 < suc a = omega arith in
    lt-ltb 0 (suc a + b) up ∙ sym (ap (λ (t : Bool). t || ltb 0 b) (lt-ltb 0 (suc a) first))

occurs-above : (k : ℕ) (xs : List ℕ) → ltb 0 (occurs k xs) ≡ member k xs
unfolding member
occurs-above k xs = count-above (λ (x : ℕ). eqb x k) xs

pub marks-raised : {m c xs own next r : List ℕ} → Marks m c → MapOf xs own → Union m own next → Raised c xs r → Marks next r
marks-raised {m} {c} {xs} {own} {next} {r} h o u up = record {
  each = λ k (lt : k < 256).
      u.each k lt
      ∙ ap (λ (t : Bool). t || in_map own k) (h.each k lt)
      ∙ ap (λ (t : Bool). ltb 0 (at c k) || t) (o.each k ∙ sym (occurs-above k xs))
      ∙ sym (ap (ltb 0) (up.each k lt) ∙ sum-above (at c k) (occurs k xs));
}

-- ---- one is taken at a record: it is out of the map where none is left, and stays where one is
module _ {m c : List ℕ} (h : Marks m c) (x : ℕ) (some-there : 0 < at c x) where
  abbrev less : List ℕ
  less = set c x (at c x - 1)

  -- another record's counter stays
  other : (k : ℕ) → eqb x k ≡ false → at less k ≡ at c k
  other k apart = let is : at less k + one (eqb x k) ≡ at c k = lower-at x k c some-there in omega (arith, rw apart at is)

  pub marks-out : at less x ≡ 0 → {next : List ℕ} → Without m x next → Marks next less
  marks-out none {next} w = record { each = λ k lt. w.each k ∙ go k lt (eqb x k) refl }
    where
      go : (k : ℕ) → k < 256 → (t : Bool) → eqb x k ≡ t → (in_map m k && not t) ≡ ltb 0 (at less k)
      go k lt true e =
          let zero_left : at less k ≤ 0 = omega (arith, ap (at less) (sym (eqb-true x k e)) ∙ none) in
          and-false (in_map m k) ∙ sym (le-ltb 0 (at less k) zero_left)
      go k lt false e = and-true (in_map m k) ∙ h.each k lt ∙ ap (ltb 0) (sym (other k e))

  pub marks-kept : 0 < at less x → Marks m less
  marks-kept left = record { each = λ k lt. h.each k lt ∙ go k (eqb x k) refl }
    where
      go : (k : ℕ) (t : Bool) → eqb x k ≡ t → ltb 0 (at c k) ≡ ltb 0 (at less k)
      go k true e =
          let same = eqb-true x k e in
          let was : 0 < at c k = omega (arith, some-there, ap (at c) same) in
          let is : 0 < at less k = omega (arith, left, ap (at less) same) in
          lt-ltb 0 (at c k) was ∙ sym (lt-ltb 0 (at less k) is)
      go k false e = ap (ltb 0) (sym (other k e))

-- ---- one map for a queue
pub marks-unique : {m n c : List ℕ} → Words m → Words n → Marks m c → Marks n c → m ≡ n
marks-unique a b h k = map-told a b (λ q (lt : q < 256). h.each q lt ∙ sym (k.each q lt))

-- a map of the records that the requests of a queue name has those whose counter is above 0; and back
pub marks-from : (of : Request → List ℕ) {m c : List ℕ} {q : List Request} → ((k : ℕ) → in_map m k ≡ some (λ e. member k (of e)) q) → Counts of c q → Marks m c
marks-from of {m} {c} {q} is n = record { each = λ k (lt : k < 256). is k ∙ sym (ap (ltb 0) (n.each k lt) ∙ count-above (λ (e : Request). member k (of e)) q) }

pub marks-tell : (of : Request → List ℕ) {m c : List ℕ} {q : List Request} → Marks m c → Counts of c q → (k : ℕ) → k < 256 → in_map m k ≡ some (λ e. member k (of e)) q
marks-tell of {m} {c} {q} h n k lt = h.each k lt ∙ ap (ltb 0) (n.each k lt) ∙ count-above (λ (e : Request). member k (of e)) q
