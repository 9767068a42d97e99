-- Whom a step admits, and whom further steps admit after that. A name's number in the list of admissions is its own, so the order of
-- admission is total.
use Prim.Native.Nat.{ℕ, suc, ◌<◌}
use mathlib.Core.Path.{◌≡◌, refl, sym, ap, subst, ◌∙◌}
use mathlib.Core.Bool.{Bool, true, false, false≢true}
use mathlib.Core.List.{List, [], ◌∷◌, ◌++◌, append_assoc}
use mathlib.Core.Logic.{◌⊎◌, inl, inr, ⊎_elim}
use native.Mathlib.Omega.{arith}
use lib.Dec.{eqb}
use borrow.Author.Tests.{eq-eqb}
use Rattle.rules.specs.Lists.{before}
use Rattle.rules.specs.Request.{Request, reduced}
use Rattle.rules.specs.Table.{Table}
use Rattle.rules.specs.Prices.{Prices}
use Rattle.rules.specs.Refusals.{first_of, begin_rows}
use Rattle.rules.specs.Calls.{asked, begin_of}
use Rattle.rules.specs.Said.{said}
use Rattle.rules.specs.Sound.{Each, InOrder}
use Rattle.rules.specs.Runs.{Call, Step, step}
use Rattle.rules.specs.Runs.Call.{Begin, Finish, Recheck, Scan, Open, Grant, Pick, Deliver, Evict, Cancel}
use Rattle.rules.proofs.Tests.{eqb-sym}
use Rattle.rules.proofs.Order.{each_map, order-both}
use Rattle.rules.proofs.Clashing.{begun-said}
use Rattle.promises.specs.Names.{Claim, admitted_by, admissions, same_name, AdmittedAt, AdmittedIn, InTurn}
use Rattle.promises.specs.Order.{TotalOrder}
use Rattle.promises.proofs.Runs.{made}
use Rattle.promises.proofs.Names.{Rise, differ, order-each, admitted-is, two-of}

-- ---- from the list to the steps: whom a step adds, it admitted
module _ (p : Prices) (t : Table) where
  begin-made : (who awaited : ℕ) (reads writes : List ℕ) → let c = Begin who awaited reads writes in Each (AdmittedAt (made p t c)) (admitted_by c (step p t c).answer)
  unfolding begin_of
  begin-made who awaited reads writes = go (eqb (first_of (begin_rows p t e)) 0) refl
    where
      e : Request
      e = asked t who awaited reads writes

      s : Step
      s = made p t (Begin who awaited reads writes)

      go : (b : Bool) → eqb (first_of (begin_rows p t e)) 0 ≡ b → Each (AdmittedAt s) (admitted_by s.call s.outcome.answer)
      go true z =
          let says : (said s.outcome.answer).values ≡ who ∷ e.serial ∷ [] = rw z (begun-said t.queue (reduced e)).1 in
          rw says (Each.also (record { awaited = awaited; reads = reads; reduced = refl; call = refl; answer = says }) Each.none)
      go false z =
          let says : (said s.outcome.answer).values ≡ first_of (begin_rows p t e) ∷ [] = rw z in
          rw says Each.none

  pub made-admits : (c : Call) → Each (AdmittedAt (made p t c)) (admitted_by c (step p t c).answer)
  made-admits (Begin who awaited reads writes) = begin-made who awaited reads writes
  made-admits (Finish who serial) = Each.none
  made-admits (Recheck who serial) = Each.none
  made-admits (Scan who) = Each.none
  made-admits (Open shares) = Each.none
  made-admits (Grant who amount) = Each.none
  made-admits Pick = Each.none
  made-admits (Deliver who serial) = Each.none
  made-admits (Evict who serial) = Each.none
  made-admits (Cancel who serial) = Each.none

-- ---- further steps
pub admitted-on : {c : Claim} {steps : List Step} (since : List Step) → AdmittedIn c steps → AdmittedIn c (since ++ steps)
admitted-on since m = record {
  step = m.step;
  later = since ++ m.later;
  earlier = m.earlier;
  is = ap (λ (l : List Step). since ++ l) m.is ∙ sym (append_assoc since m.later (m.step ∷ m.earlier));
  at = m.at;
}

pub turn_on : {a b : Claim} {steps : List Step} (since : List Step) → InTurn a b steps → InTurn a b (since ++ steps)
unfolding admitted-on
turn_on since i = record { second = admitted-on since i.second; first = i.first }

-- who is admitted by a further step was admitted after all that were before
pub admitted-next : {c : Claim} (s : Step) (steps : List Step) → AdmittedAt s c → AdmittedIn c (s ∷ steps)
admitted-next s steps new = record { step = s; later = []; earlier = steps; is = refl; at = new }

pub turn-next : {a b : Claim} {s : Step} {steps : List Step} → AdmittedIn a steps → AdmittedAt s b → InTurn a b (s ∷ steps)
unfolding admitted-next
turn-next {s = s} {steps} m new = record { second = admitted-next s steps new; first = m }

-- the first of two was admitted in the whole
pub first-in : {a b : Claim} {steps : List Step} → InTurn a b steps → AdmittedIn a steps
first-in {a} i =
    let m = i.second in
    subst (AdmittedIn a) (sym m.is) (admitted-on m.later (admitted-on (m.step ∷ []) i.first))

-- ---- two requests of a run are one, or were admitted one before the other
two-places : {a b : Claim} (s z : Step) (xs ss ys zs : List Step) → AdmittedAt s a → AdmittedAt z b → xs ++ s ∷ ss ≡ ys ++ z ∷ zs → (a ≡ b) ⊎ (InTurn a b (xs ++ s ∷ ss) ⊎ InTurn b a (xs ++ s ∷ ss))
two-places {a} {b} s z [] ss [] zs m n e =
    let same : s ≡ z = cc in
    let one : a ∷ [] ≡ b ∷ [] = sym (admitted-is s a m) ∙ ap (λ (s : Step). admitted_by s.call s.outcome.answer) same ∙ admitted-is z b n in
    inl cc
two-places s z [] ss (y ∷ ys) zs m n e = inr (inr (turn-next (record { step = z; later = ys; earlier = zs; is = cc; at = n }) m))
two-places {a} {b} s z (x ∷ xs) ss [] zs m n e =
    let same : z ≡ x = cc in
    inr (inl (turn-next (record { step = s; later = xs; earlier = ss; is = refl; at = m }) (subst (λ (k : Step). AdmittedAt k b) same n)))
two-places s z (x ∷ xs) ss (y ∷ ys) zs m n e =
    let rest : xs ++ s ∷ ss ≡ ys ++ z ∷ zs = cc in
    ⊎_elim inl (λ apart. inr (⊎_elim (λ i. inl (turn_on (x ∷ []) i)) (λ i. inr (turn_on (x ∷ []) i)) apart)) (two-places s z xs ss ys zs m n rest)

same-or-turn : {a b : Claim} {steps : List Step} → AdmittedIn a steps → AdmittedIn b steps → (a ≡ b) ⊎ (InTurn a b steps ⊎ InTurn b a steps)
same-or-turn {a} {b} m n =
    subst (λ (l : List Step). (a ≡ b) ⊎ (InTurn a b l ⊎ InTurn b a l)) (sym m.is)
    (two-places m.step n.step m.later m.earlier n.later n.earlier m.at n.at (sym m.is ∙ n.is))

-- ---- a name's number: how many names stand before it in the list
abbrev rank : Claim → List Claim → ℕ
rank c cs = before (same_name c) cs

pub own_name : (c : Claim) → same_name c c ≡ true
own_name c = rw (eq-eqb c.tenant c.tenant refl, eq-eqb c.serial c.serial refl)

name-sym : (a b : Claim) → same_name a b ≡ same_name b a
name-sym a b = rw (eqb-sym a.tenant b.tenant, eqb-sym a.serial b.serial)

-- an element in front has number 0, and puts each other name one further
rank-first : (c : Claim) (cs : List Claim) → rank c (c ∷ cs) ≡ 0
unfolding before
rank-first c cs = rw (own_name c)

rank-next : (a c : Claim) (cs : List Claim) → same_name c a ≡ false → rank a (c ∷ cs) ≡ suc (rank a cs)
unfolding before
rank-next a c cs h = rw (name-sym a c, h)

rank-ahead : (b c : Claim) (cs : List Claim) → same_name c b ≡ false → rank c (c ∷ cs) < rank b (c ∷ cs)
rank-ahead b c cs k = omega (arith, rank-first c cs, rank-next b c cs k)

rank-behind : (a b c : Claim) (cs : List Claim) → same_name c a ≡ false → same_name c b ≡ false → rank a cs < rank b cs → rank a (c ∷ cs) < rank b (c ∷ cs)
rank-behind a b c cs ka kb lt = omega (arith, rank-next a c cs ka, rank-next b c cs kb)

ranked : {cs : List Claim} → InOrder (λ a b. same_name a b ≡ false) cs → InOrder (λ a b. rank a cs < rank b cs) cs
ranked InOrder.none = InOrder.none
ranked (InOrder.also {x = c} {xs = cs} ks o) = InOrder.also
    (each_map (λ b k. rank-ahead b c cs k) ks)
    (order-both ks (ranked o) (λ a b ka kb lt. rank-behind a b c cs ka kb lt))

-- ---- the order of admission is total
pub total : (steps : List Step) → InOrder Rise (admissions steps) → TotalOrder steps
total steps rise = record {
  same = λ a b m n h. ⊎_elim (λ e. e) (λ apart. absurd (false≢true (sym (apart-named a b apart) ∙ h))) (same-or-turn m n);
  either = λ a b m n h. ⊎_elim (λ e. absurd (false≢true (sym h ∙ ap (same_name a) (sym e) ∙ own_name a))) (λ apart. apart) (same-or-turn m n);
  one_way = λ a b i k. omega (arith, lower i, lower k);
  through = λ a b c i k. ⊎_elim
      (λ (e : a ≡ c). let lt : rank a cs < rank c cs = omega (arith, lower i, lower k) in absurd (omega (arith, lt, ap (λ (x : Claim). rank x cs) e)))
      (λ apart. ⊎_elim (λ one. one) (λ back. absurd (omega (arith, lower i, lower k, lower back))) apart)
      (same-or-turn (first-in i) k.second);
  serials = λ a b i. two-of i rise;
}
  where
    cs : List Claim
    cs = admissions steps

    names : InOrder (λ a b. same_name a b ≡ false) (admissions steps)
    names = order-each differ rise

    lower : {a b : Claim} → InTurn a b steps → rank a cs < rank b cs
    lower i = two-of i (ranked names)

    apart-named : (a b : Claim) → InTurn a b steps ⊎ InTurn b a steps → same_name a b ≡ false
    apart-named a b apart = ⊎_elim (λ i. two-of i names) (λ i. name-sym a b ∙ two-of i names) apart
