-- Promises 15 and 16. The queue stands in the order of admission, and in a sound table nobody that is Free or Waiting conflicts with
-- one ahead. So where the later of two that conflict is, the earlier is not in the queue; it was there, since it was admitted, and so
-- it has left. From there on it is away, so it started before.
use Prim.Native.Nat.{ℕ, ◌≤◌, ◌<◌}
use mathlib.Core.Path.{◌≡◌, refl, sym, ap, subst, ◌∙◌}
use mathlib.Core.Bool.{Bool, true, false, ◌||◌, not, false≢true}
use mathlib.Core.List.{List, [], ◌∷◌, ◌++◌}
use mathlib.Core.Logic.{◌⊎◌, inl, inr, ⊎_elim}
use lib.ListN.{length}
use borrow.Author.Tests.{not-true}
use Rattle.rules.specs.Lists.{some}
use Rattle.rules.specs.Request.{Request, conflict, is_blocked}
use Rattle.rules.specs.Table.{Table}
use Rattle.rules.specs.Prices.{Prices}
use Rattle.rules.specs.Sound.{Each, InOrder, ClearOf}
use Rattle.rules.specs.Runs.{Call, Step, Run, step}
use Rattle.rules.proofs.Tests.{both, either, or-true, lt-or-ge}
use Rattle.rules.proofs.Order.{each_map, each_both, each-pair, order-pair, order-both}
use Rattle.promises.specs.Fuel.{reached}
use Rattle.promises.specs.Names.{Claim, claim_of, AdmittedAt, AdmittedIn, InTurn}
use Rattle.promises.specs.Order.{points, undone, claims_conflict, starts, Order, StaysAway, StartsAfter, RunInOrder, TotalOrder}
use Rattle.promises.proofs.Names.{found_in}
use Rattle.promises.proofs.Admissions.{admitted-on, turn_on, turn-next, first-in}
use Rattle.promises.proofs.Left.{left-each, left-order}
use Rattle.promises.proofs.Points.{run_at, now, steps-by-then, no-later}
use Rattle.promises.proofs.Turns.{names, works_as, is_in, works, Gone, never, Steady, Away, Kept, kept, has-gone, admission-total}

-- ---- 15 The order
-- no element passes both tests, and no two pass one each, either way about: so some passes the one or some the other, not both
not-both : {A : Type 0} (f g : A → Bool) {xs : List A} → Each (λ x. f x ≡ true → g x ≡ true → ⊥) xs → InOrder (λ x y. (f x ≡ true → g y ≡ true → ⊥) × (g x ≡ true → f y ≡ true → ⊥)) xs → some f xs ≡ true → some g xs ≡ true → ⊥
unfolding some
not-both f g Each.none InOrder.none h k = false≢true h
not-both f g (Each.also {x = x} {xs = xs} p ps) (InOrder.also r o) h k = ⊎_elim
    (λ (fx : f x ≡ true). ⊎_elim (λ (gx : g x ≡ true). p fx gx) (λ (gs : some g xs ≡ true). let w = found_in g r gs in w.2.0 fx w.1) (either (g x) (some g xs) k))
    (λ (fs : some f xs ≡ true). ⊎_elim (λ (gx : g x ≡ true). let w = found_in f r fs in w.2.1 gx w.1) (λ (gs : some g xs ≡ true). not-both f g ps o fs gs) (either (g x) (some g xs) k))
    (either (f x) (some f xs) h)

-- who was admitted by the end was admitted by then, or after all who were
within : {a : Claim} (s : Step) (since then later earlier : List Step) → since ++ then ≡ later ++ s ∷ earlier → AdmittedAt s a → AdmittedIn a then ⊎ ((b : Claim) → AdmittedIn b then → InTurn b a (since ++ then))
within s [] then later earlier e new = inl (record { step = s; later = later; earlier = earlier; is = e; at = new })
within {a} s (z ∷ since) then [] earlier e new =
    let same : s ≡ z = cc in
    inr (λ b n. turn-next (admitted-on since n) (subst (λ (x : Step). AdmittedAt x a) same new))
within s (z ∷ since) then (x ∷ later) earlier e new =
    let rest : since ++ then ≡ later ++ s ∷ earlier = cc in
    ⊎_elim inl (λ f. inr (λ b n. turn_on (z ∷ []) (f b n))) (within s since then later earlier rest new)

entries-clash : (x y : Request) (a b : Claim) → claim_of x ≡ a → claim_of y ≡ b → claims_conflict a b ≡ true → conflict x y ≡ true
unfolding conflict
entries-clash x y a b is also h = ap (λ (c : Claim). claims_conflict c (claim_of y)) is ∙ ap (claims_conflict a) also ∙ h

-- a is admitted before b in a run of these steps, and they conflict; at a point of it
module _ {steps : List Step} (order : TotalOrder steps) {a b : Claim} (i : InTurn a b steps) (clashes : claims_conflict a b ≡ true) {t : Table} {then : List Step} (since : List Step) (all : steps ≡ since ++ then) (k : Kept t then) where
  -- who bears their names is they
  own : (c : Claim) → AdmittedIn c steps → Each (λ e. names c e ≡ true → claim_of e ≡ c) t.queue
  own c m = each_map (λ e n. λ h. order.same (claim_of e) c (subst (AdmittedIn (claim_of e)) (sym all) (admitted-on since n)) m h) (left-each k.left k.admitted)

  abbrev Own : Request → Type 0
  Own e = (names a e ≡ true → claim_of e ≡ a) × (names b e ≡ true → claim_of e ≡ b)

  owns : Each Own t.queue
  owns = each-pair (own a (first-in i)) (own b i.second)

  back : InTurn b a steps → ⊥
  back = order.one_way a b i

  -- the one is not the other
  alone : (e : Request) → Own e → names a e ≡ true → works_as b e ≡ true → ⊥
  alone e own is also =
      let one : a ≡ b = sym (own.0 is) ∙ own.1 (both (names b e) (not (is_blocked e.mode)) also).0 in
      back (subst (λ (c : Claim). InTurn c a steps) one (subst (λ (c : Claim). InTurn a c steps) (sym one) i))

  -- if a is ahead, b is Blocked; and a is not behind
  ahead : (x y : Request) → Own x → Own y → InTurn (claim_of x) (claim_of y) then × ClearOf x y → (names a x ≡ true → works_as b y ≡ true → ⊥) × (works_as b x ≡ true → names a y ≡ true → ⊥)
  ahead x y ox oy r = (
    (λ is also.
        let h = both (names b y) (not (is_blocked y.mode)) also in
        never (r.1 (not-true (is_blocked y.mode) h.1)) (entries-clash x y a b (ox.0 is) (oy.1 h.0) clashes)),
    (λ also is.
        let h = both (names b x) (not (is_blocked x.mode)) also in
        let turn : InTurn b a then = subst (λ (c : Claim). InTurn b c then) (oy.0 is) (subst (λ (c : Claim). InTurn c (claim_of y) then) (ox.1 h.0) r.0) in
        back (subst (InTurn b a) (sym all) (turn_on since turn))),
  )

  absent : works b t ≡ true → is_in a t ≡ false
  absent h = go (is_in a t) refl
    where
      go : (there : Bool) → is_in a t ≡ there → is_in a t ≡ false
      go true e = absurd (not-both (names a) (works_as b) (each_map alone owns) (order-both owns (order-pair (left-order k.left k.turns) k.book.sound.clear) ahead) e h)
      go false e = e

  -- b was admitted by then, and so a was
  by-then : works b t ≡ true → AdmittedIn a then
  by-then h =
      let w = found_in (works_as b) (each-pair owns (left-each k.left k.admitted)) h in
      let e = w.0 in
      let later : AdmittedIn b then = subst (λ (c : Claim). AdmittedIn c then) (w.2.0.1 (both (names b e) (not (is_blocked e.mode)) w.1).0) w.2.1 in
      let m = first-in i in
      ⊎_elim (λ n. n) (λ f. absurd (back (subst (InTurn b a) (sym all) (f b later)))) (within m.step since then m.later m.earlier (sym all ∙ m.is) m.at)

  has_left : works b t ≡ true → Gone a (run_at t then)
  has_left h = has-gone k (by-then h) (absent h)

module _ (p : Prices) where
  pub order : Order p
  order shares calls a b i clashes =
      let r = reached p shares calls in
      each_both (kept p shares calls) (steps-by-then r.table r.steps) (λ q k w. has_left (admission-total p shares calls) i clashes w.0 w.1 k)

  pub stays-away : StaysAway p
  stays-away shares calls =
      let r = reached p shares calls in
      (now r.table r.steps (kept p shares calls)).away

-- ---- 16 Conflicting requests run in the order of their admission
-- who is Free or Waiting is in the queue
works-in : (c : Claim) (q : List Request) → some (works_as c) q ≡ true → some (names c) q ≡ true
unfolding some
works-in c [] h = h
works-in c (e ∷ q) h = ⊎_elim
    (λ (one : works_as c e ≡ true). ap (λ (b : Bool). b || some (names c) q) (both (names c e) (not (is_blocked e.mode)) one).0)
    (λ (rest : some (works_as c) q ≡ true). ap (λ (b : Bool). names c e || b) (works-in c q rest) ∙ or-true (names c e))
    (either (works_as c e) (some (works_as c) q) h)

-- it had left before the call by which the other started
left-before : (a b : Claim) (t : Table) (steps : List Step) → Steady (undone t steps).table.queue t.queue → Gone a (run_at t steps) → works b (undone t steps).table ≡ false → works b t ≡ true → Gone a (undone t steps)
unfolding some
left-before a b t [] steady left idle runs = left
left-before a b t (s ∷ steps) steady left idle runs =
    let gone : is_in a s.met ≡ false = steady a b idle runs left.gone in
    record { was = rw gone at left.was; gone = gone }

module _ (p : Prices) (shares : List ℕ) (calls : List Call) (a b : Claim) where
  abbrev whole : Run
  whole = reached p shares calls

  starts-after : (y : Run) → Kept y.table y.steps → (works b y.table ≡ true → Gone a y) → Each (λ x. length y.steps ≤ length x.steps → Away a.tenant a.serial x y) (points whole) → starts b.tenant b.serial y ≡ true → StartsAfter a whole y
  starts-after y k gone away now-b =
      let idle : Table = (undone y.table y.steps).table in
      let runs = both (works b y.table) (not (works b idle)) now-b in
      let left = gone runs.0 in
      record { left = left-before a b y.table y.steps k.steady left (not-true (works b idle) runs.1) runs.0; first = each_map (first left) away }
    where
      -- from there on it is not in the queue
      first : Gone a y → (x : Run) → (length y.steps ≤ length x.steps → Away a.tenant a.serial x y) → starts a.tenant a.serial x ≡ true → length x.steps < length y.steps
      first left x away now-a =
          let runs = both (works a x.table) (not (works a (undone x.table x.steps).table)) now-a in
          ⊎_elim (λ (lt : length x.steps < length y.steps). lt) (λ (ge : length y.steps ≤ length x.steps). never (away ge left).gone (works-in a x.table.queue runs.0)) (lt-or-ge (length x.steps) (length y.steps))

pub run-in-order : (p : Prices) → RunInOrder p
run-in-order p shares calls a b i clashes =
    let r = reached p shares calls in
    let away = no-later (λ q h. h) r.table r.steps (stays-away p shares calls a.tenant a.serial) in
    let known = each-pair (kept p shares calls) (order p shares calls a b i clashes) in
    each_both known away (λ y k w. starts-after p shares calls a b y k.0 k.1 w)
