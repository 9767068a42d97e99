-- One pass over the entries' bytes: what is asked of those to come, by what the pass remembers of those ahead.
use Prim.Native.Nat.{ℕ, ◌+◌, ◌-◌, ◌≤◌, ◌<◌}
use mathlib.Core.Path.{◌≡◌, refl, sym, ap, subst, ◌∙◌}
use mathlib.Core.Bool.{Bool, true, false, ◌||◌, not}
use mathlib.Core.List.{List, [], ◌∷◌, ◌++◌, map}
use native.Mathlib.Omega.{arith}
use lib.Dec.{eqb}
use lib.ListN.{length, get_or, set}
use lib.Seq.{get_or-set_same, get_or-set_other}
use borrow.Author.Tests.{eqb-true, eqb-false, eq-eqb}
use Rattle.rules.specs.Lists.{count_if, some}
use Rattle.rules.specs.Request.{Request, conflict, conflicts_any, is_blocked}
use Rattle.rules.specs.Table.{is_tenant, places_of}
use Rattle.rules.specs.Counters.{figure2}
use Rattle.rules.specs.Sound.{Each, InOrder, SerialsRise, ClearOf}
use Rattle.rules.specs.Sound.Each.{also}
use Rattle.rules.proofs.Tests.{or-false, neither}
use Rattle.rules.proofs.Lists.{some-append}
use Rattle.rules.proofs.Meters.{tenant-range}
use Rattle.counters.specs.Counters.{at, Raised}
use Rattle.block.specs.Clauses.{request_in}
use Rattle.block.specs.Check.{RowFits}
use Rattle.rules.proofs.Order.{each_first, each-rest, each_map, each_both, each-pair}
use Rattle.block.proofs.Each.{each_of, each-under}

-- a serial above its tenant's last
abbrev pub Past : List ℕ → Request → Type 0
Past last e = get_or last (e.tenant - 1) 0 < e.serial

-- Blocked, or in conflict with none ahead
abbrev pub Clear : List Request → Request → Type 0
Clear ahead e = is_blocked e.mode ≡ false → conflicts_any ahead e ≡ false

pub record Rest (given : ℕ → ℕ) (last left : List ℕ) (ahead : List Request) (rows : List (List ℕ)) : Type 0 where
  pub fits : Each RowFits rows
  pub past : Each (λ p. Past last (request_in p)) rows
  pub known : Each (λ p. (request_in p).serial ≤ given (request_in p).tenant) rows
  pub rise : InOrder SerialsRise (map request_in rows)
  pub room : (who : ℕ) → is_tenant who ≡ true → places_of (map request_in rows) who ≤ get_or left (who - 1) 0
  pub free : Each (λ p. Clear ahead (request_in p)) rows
  pub clear : InOrder ClearOf (map request_in rows)

pub row-tenant : (p : List ℕ) → RowFits p → is_tenant (request_in p).tenant ≡ true
unfolding request_in
row-tenant p f = f.numbers.tenant

-- ---- the next entry e, and any later one x, both of tenants
module _ (e x : Request) (one : is_tenant e.tenant ≡ true) (two : is_tenant x.tenant ≡ true) where
  apart : eqb x.tenant e.tenant ≡ false → x.tenant - 1 ≡ e.tenant - 1 → ⊥
  apart n same =
      let a = tenant-range e.tenant one in
      let c = tenant-range x.tenant two in
      let back : x.tenant ≡ e.tenant = omega (arith, a.0, c.0) in
      eqb-false x.tenant e.tenant n back

  -- what is remembered of the tenant of x, once it is changed for that of e
  module _ (l : List ℕ) (v : ℕ) (there : e.tenant - 1 < length l) where
    own : x.tenant ≡ e.tenant → get_or (set l (e.tenant - 1) v) (x.tenant - 1) 0 ≡ v
    own h = ap (λ (k : ℕ). get_or (set l (e.tenant - 1) v) (k - 1) 0) h ∙ get_or-set_same l (e.tenant - 1) v 0 there

    others : eqb x.tenant e.tenant ≡ false → get_or (set l (e.tenant - 1) v) (x.tenant - 1) 0 ≡ get_or l (x.tenant - 1) 0
    others n = get_or-set_other l (e.tenant - 1) (x.tenant - 1) v 0 (apart n)

  module _ (last : List ℕ) (there : e.tenant - 1 < length last) (above : Past last e) where
    abbrev next : List ℕ
    next = set last (e.tenant - 1) e.serial

    past_back : Past next x → Past last x
    past_back p = go (eqb x.tenant e.tenant) refl
      where
        go : (t : Bool) → eqb x.tenant e.tenant ≡ t → Past last x
        go true h =
            let k : x.tenant ≡ e.tenant = eqb-true x.tenant e.tenant h in
            let z : get_or last (x.tenant - 1) 0 ≡ get_or last (e.tenant - 1) 0 = ap (λ (m : ℕ). get_or last (m - 1) 0) k in
            omega (arith, own last e.serial there k)
        go false h = omega (arith, others last e.serial there h)

    past-rise : Past next x → SerialsRise e x
    past-rise p = λ h. omega (arith, own last e.serial there (sym h))

    past_next : Past last x → SerialsRise e x → Past next x
    past_next p r = go (eqb x.tenant e.tenant) refl
      where
        go : (t : Bool) → eqb x.tenant e.tenant ≡ t → Past next x
        go true h = let k : x.tenant ≡ e.tenant = eqb-true x.tenant e.tenant h in omega (arith, own last e.serial there k, r (sym k))
        go false h = omega (arith, others last e.serial there h)

module _ (ahead : List Request) (e x : Request) where
  more : conflicts_any (ahead ++ e ∷ []) x ≡ (conflicts_any ahead x || conflict e x)
  unfolding some
  more = some-append (λ a. conflict a x) ahead (e ∷ []) ∙ ap (λ (t : Bool). conflicts_any ahead x || t) (or-false (conflict e x))

  clear-back : Clear (ahead ++ e ∷ []) x → Clear ahead x
  clear-back p b = (neither (conflicts_any ahead x) (conflict e x) (sym more ∙ p b)).0

  clear_of : Clear (ahead ++ e ∷ []) x → ClearOf e x
  clear_of p b = (neither (conflicts_any ahead x) (conflict e x) (sym more ∙ p b)).1

  clear_next : Clear ahead x → ClearOf e x → Clear (ahead ++ e ∷ []) x
  clear_next p r b = more ∙ rw (p b, r b)

-- ---- places
module _ (e : Request) (q : List Request) (left : List ℕ) (one : is_tenant e.tenant ≡ true) (there : e.tenant - 1 < length left) where
  abbrev k : ℕ
  k = e.tenant - 1

  abbrev fewer : List ℕ
  fewer = set left k (get_or left k 0 - 1)

  abbrev Within : List Request → List ℕ → Type 0
  Within l s = (who : ℕ) → is_tenant who ≡ true → places_of l who ≤ get_or s (who - 1) 0

  here : (who : ℕ) → e.tenant ≡ who → (places_of (e ∷ q) who ≡ 1 + places_of q who) × (get_or left (who - 1) 0 ≡ get_or left k 0) × (get_or fewer (who - 1) 0 ≡ get_or left k 0 - 1)
  unfolding count_if
  here who h = (rw (eq-eqb e.tenant who h), ap (λ (m : ℕ). get_or left (m - 1) 0) (sym h), ap (λ (m : ℕ). get_or fewer (m - 1) 0) (sym h) ∙ get_or-set_same left k (get_or left k 0 - 1) 0 there)

  away : (who : ℕ) → is_tenant who ≡ true → eqb e.tenant who ≡ false → (places_of (e ∷ q) who ≡ places_of q who) × (get_or fewer (who - 1) 0 ≡ get_or left (who - 1) 0)
  unfolding count_if
  away who two n =
      let a = tenant-range e.tenant one in
      let c = tenant-range who two in
      let differ : who - 1 ≡ e.tenant - 1 → ⊥ = λ same. eqb-false e.tenant who n (omega (arith, a.0, c.0)) in
      (rw n (let z : 0 + places_of q who ≡ places_of q who = omega arith in z), get_or-set_other left k (who - 1) (get_or left k 0 - 1) 0 differ)

  places-some : Within (e ∷ q) left → 0 < get_or left k 0
  places-some w = let h = here e.tenant refl in omega (arith, w e.tenant one, h.0)

  places-tail : Within (e ∷ q) left → Within q fewer
  places-tail w who two = go (eqb e.tenant who) refl
    where
      go : (t : Bool) → eqb e.tenant who ≡ t → places_of q who ≤ get_or fewer (who - 1) 0
      go true h = let z = here who (eqb-true e.tenant who h) in omega (arith, w who two, z.0, z.1, z.2)
      go false h = let z = away who two h in omega (arith, w who two, z.0, z.1)

  places-cons : 0 < get_or left k 0 → Within q fewer → Within (e ∷ q) left
  places-cons some w who two = go (eqb e.tenant who) refl
    where
      go : (t : Bool) → eqb e.tenant who ≡ t → places_of (e ∷ q) who ≤ get_or left (who - 1) 0
      go true h = let z = here who (eqb-true e.tenant who h) in omega (arith, w who two, z.0, z.1, z.2)
      go false h = let z = away who two h in omega (arith, w who two, z.0, z.1)

-- ---- a turn of the pass
ahead_of : {A : Type 0} {R : A → A → Type 0} {x : A} {l : List A} → InOrder R (x ∷ l) → Each (R x) l
ahead_of (InOrder.also a o) = a

order-of : {A : Type 0} {R : A → A → Type 0} {x : A} {l : List A} → InOrder R (x ∷ l) → InOrder R l
order-of (InOrder.also a o) = o

-- its serial is above its tenant's last and was given, and a place is left
abbrev pub Follows : (ℕ → ℕ) → List ℕ → List ℕ → Request → Type 0
Follows given last left e = Past last e × (e.serial ≤ given e.tenant) × (0 < get_or left (e.tenant - 1) 0)

-- what is asked of those behind it
abbrev pub After : (ℕ → ℕ) → List ℕ → List ℕ → List Request → Request → List (List ℕ) → Type 0
After given last left ahead e =
    Rest given (set last (e.tenant - 1) e.serial) (set left (e.tenant - 1) (get_or left (e.tenant - 1) 0 - 1)) (ahead ++ e ∷ [])

-- the place of a tenant in what is remembered
pub remembered : (l p : List ℕ) → length l ≡ 16 → RowFits p → (request_in p).tenant - 1 < length l
remembered l p wide fits = omega (arith, (tenant-range (request_in p).tenant (row-tenant p fits)).1)

module _ (given : ℕ → ℕ) (last left : List ℕ) (ahead : List Request) (p : List ℕ) (ps : List (List ℕ)) where
  pub rest-fits : Rest given last left ahead (p ∷ ps) → RowFits p
  rest-fits r = each_first r.fits

  pub rest-clear : Rest given last left ahead (p ∷ ps) → Clear ahead (request_in p)
  rest-clear r = each_first r.free

  module _ (fits : RowFits p) (wide : length last ≡ 16) (wide' : length left ≡ 16) where
    abbrev e : Request
    e = request_in p

    one : is_tenant (request_in p).tenant ≡ true
    one = row-tenant p fits

    in-last : (request_in p).tenant - 1 < length last
    in-last = remembered last p wide fits

    in_left : (request_in p).tenant - 1 < length left
    in_left = remembered left p wide' fits

    pub rest-follows : Rest given last left ahead (p ∷ ps) → Follows given last left (request_in p)
    rest-follows r = (each_first r.past, each_first r.known, places-some e (map request_in ps) left one in_left r.room)

    pub rest-tail : Past last (request_in p) → Rest given last left ahead (p ∷ ps) → After given last left ahead (request_in p) ps
    rest-tail above r =
        let fs = each-rest r.fits in
        let later = each-under request_in ps (ahead_of r.rise) in
        let behind = each-under request_in ps (ahead_of r.clear) in
        record {
          fits = fs;
          past = each_both (each-pair (each-rest r.past) later) fs (λ x q f. past_next e (request_in x) one (row-tenant x f) last in-last above q.0 q.1);
          known = each-rest r.known;
          rise = order-of r.rise;
          room = places-tail e (map request_in ps) left one in_left r.room;
          free = each_both (each-rest r.free) behind (λ x q s. clear_next ahead e (request_in x) q s);
          clear = order-of r.clear;
        }

    pub rest-cons : Follows given last left (request_in p) → Clear ahead (request_in p) → After given last left ahead (request_in p) ps → Rest given last left ahead (p ∷ ps)
    rest-cons follows clear r =
        let above = follows.0 in
        record {
          fits = also fits r.fits;
          past = also above (each_both r.past r.fits (λ x q f. past_back e (request_in x) one (row-tenant x f) last in-last above q));
          known = also follows.1 r.known;
          rise = InOrder.also (each_of request_in ps (each_both r.past r.fits (λ x q f. past-rise e (request_in x) one (row-tenant x f) last in-last above q))) r.rise;
          room = places-cons e (map request_in ps) left one in_left follows.2 r.room;
          free = also clear (each_map (λ x q. clear-back ahead e (request_in x) q) r.free);
          clear = InOrder.also (each_of request_in ps (each_map (λ x q. clear_of ahead e (request_in x) q) r.free)) r.clear;
        }

-- ---- the same of the row that the code has
module _ {p p' : List ℕ} (is : p ≡ p') where
  -- its tenant's place, from 0
  pub row-place : {k : ℕ} → k ≡ get_or p 0 0 → k - 1 ≡ (request_in p').tenant - 1
  unfolding request_in
  row-place {k} e = ap (λ (n : ℕ). n - 1) (e ∙ ap (λ (l : List ℕ). get_or l 0 0) is)

  pub raised_writes : {x x' : List ℕ} → Raised x (request_in p).writes x' → Raised x (request_in p').writes x'
  raised_writes {x} {x'} r = subst (λ (q : List ℕ). Raised x (request_in q).writes x') is r

  pub raised-reads : {x x' : List ℕ} → Raised x (request_in p).reads x' → Raised x (request_in p').reads x'
  raised-reads {x} {x'} r = subst (λ (q : List ℕ). Raised x (request_in q).reads x') is r

  pub verdict-of : (x y : List ℕ) {r : Bool} → r ≡ (is_blocked (request_in p).mode || not (figure2 (at x) (at y) (request_in p))) → r ≡ (is_blocked (request_in p').mode || not (figure2 (at x) (at y) (request_in p')))
  verdict-of x y {r} e = subst (λ (q : List ℕ). r ≡ (is_blocked (request_in q).mode || not (figure2 (at x) (at y) (request_in q)))) is e
