-- A name is never given twice: over any run the serials of a tenant's admitted requests rise, no serial is taken back, and no
-- table's queue has held a serial that was not given by then.
use Prim.Native.Nat.{ℕ, zero, suc, ◌+◌, ◌≤◌, ◌<◌}
use mathlib.Core.Path.{◌≡◌, refl, sym, ap, subst, ◌∙◌}
use mathlib.Core.Bool.{Bool, true, false, ◌&&◌, ◌||◌, not, false≢true}
use mathlib.Core.List.{List, [], ◌∷◌, ◌++◌, map, append-nil, append_assoc}
use mathlib.Core.Logic.{⊎_elim}
use native.Mathlib.Omega.{arith}
use lib.Dec.{eqb}
use lib.ListN.{get_or, set}
use borrow.Author.Tests.{eqb-true, not-true}
use Rattle.rules.specs.Lists.{some, every}
use Rattle.rules.specs.Request.{Request, nobody, is_named}
use Rattle.rules.specs.Table.{Table}
use Rattle.rules.specs.Prices.{Prices}
use Rattle.rules.specs.Calls.{open_of}
use Rattle.rules.specs.Sound.{Each, InOrder, Fit, SoundAny, given_by}
use Rattle.rules.specs.Runs.{Call, Step, Run, step, is_open, after, run_of}
use Rattle.rules.proofs.Tests.{both, either}
use Rattle.rules.proofs.Order.{each_first, each_map, each-parts, each_none, each-without, each_last, order-last}
use Rattle.rules.proofs.Sound.{step-any, open-sound}
use Rattle.promises.specs.Fuel.{reached}
use Rattle.promises.specs.Names.{Claim, answered, admitted_by, admissions, same_name, AdmittedAt, AdmittedIn, InTurn, is_queued, OwnNames, TwoNames, NeverBack}
use Rattle.promises.proofs.Runs.{made, any-run}
use Rattle.promises.proofs.Changes.{Change, changed, Grown, grown, grown-twice}

-- ---- the invariant
abbrev pub Rise : Claim → Claim → Type 0
Rise a b = a.tenant ≡ b.tenant → a.serial < b.serial

-- an earlier table of the run is sound, and had given no more serials than the table now
record Was (t u : Table) : Type 0 where
  sound : SoundAny u
  fewer : Grown u t

pub record Book (t : Table) (steps : List Step) : Type 0 where
  pub sound : SoundAny t
  pub rise : InOrder Rise (admissions steps)
  given : Each (λ k. k.serial ≤ given_by t k.tenant) (admissions steps)
  past : Each (Was t) (map (λ s. s.met) steps)

pub book-opens : (shares : List ℕ) → Book (open_of shares).table []
unfolding admissions
book-opens shares = record { sound = open-sound shares; rise = InOrder.none; given = Each.none; past = Each.none }

-- ---- what a change of the queue keeps
pub each-end : {A : Type 0} {P : A → Type 0} (xs : List A) {e : A} → Each P (xs ++ e ∷ []) → P e
each-end xs h = each_first (each-parts xs h).1

module _ {t : Table} where
  change-rise : {added : List Claim} {q : List Request} (cs : List Claim) → Change t added q → Each (λ k. k.serial ≤ given_by t k.tenant) cs → InOrder Rise cs → InOrder Rise (cs ++ added)
  change-rise cs Change.same g h = rw (append-nil cs) h
  change-rise cs (Change.joins e k) g h = order-last h (each_map (λ (x : Claim) (le : x.serial ≤ given_by t x.tenant). λ (same : x.tenant ≡ e.tenant). let l : x.serial ≤ given_by t e.tenant = rw same at le in omega (arith, k, l)) g)
  change-rise cs (Change.leaves at) g h = rw (append-nil cs) h
  change-rise cs (Change.changes at e k) g h = rw (append-nil cs) h

  change-given : {added : List Claim} {q : List Request} (u : Table) (cs : List Claim) → Change t added q → Each (Fit (given_by u)) q → Each (λ k. k.serial ≤ given_by u k.tenant) cs → Each (λ k. k.serial ≤ given_by u k.tenant) (cs ++ added)
  change-given u cs Change.same f g = rw (append-nil cs) g
  change-given u cs (Change.joins e k) f g = each_last g (each-end t.queue f).to-given
  change-given u cs (Change.leaves at) f g = rw (append-nil cs) g
  change-given u cs (Change.changes at e k) f g = rw (append-nil cs) g

module _ (p : Prices) where
  pub book-keeps : (t : Table) (steps : List Step) (c : Call) → SoundAny t → is_open c ≡ false → Book t steps → Book (step p t c).table (made p t c ∷ steps)
  unfolding admissions
  book-keeps t steps c s shut b =
      let u = (step p t c).table in
      let su : SoundAny u = step-any p s c in
      let g : Grown t u = grown p t c shut in
      let ch = changed p t c shut in
      let cs = admissions steps in
      let given : Each (λ k. k.serial ≤ given_by u k.tenant) cs = each_map (λ (k : Claim) (le : k.serial ≤ given_by t k.tenant). omega (arith, le, g.more k.tenant)) b.given in
      record {
        sound = su;
        rise = change-rise cs ch b.given b.rise;
        given = change-given u cs ch su.entries given;
        past = Each.also (record { sound = s; fewer = g }) (each_map (λ w (was : Was t w). record { sound = was.sound; fewer = grown-twice was.fewer g }) b.past);
      }

  pub book : (shares : List ℕ) (calls : List Call) → let r = reached p shares calls in Book r.table r.steps
  book = any-run p Book book-opens book-keeps

-- ---- the names differ
pub differ : (a b : Claim) → Rise a b → same_name a b ≡ false
differ a b r = go (same_name a b) refl
  where
    go : (t : Bool) → same_name a b ≡ t → same_name a b ≡ false
    go true h =
        let k = both (eqb a.tenant b.tenant) (eqb a.serial b.serial) h in
        let serial : a.serial ≡ b.serial = eqb-true a.serial b.serial k.1 in
        let lt : a.serial < b.serial = r (eqb-true a.tenant b.tenant k.0) in
        absurd (omega arith)
    go false h = h

pub order-each : {A : Type 0} {R S : A → A → Type 0} {xs : List A} → ((x y : A) → R x y → S x y) → InOrder R xs → InOrder S xs
order-each f InOrder.none = InOrder.none
order-each f (InOrder.also {x = x} k o) = InOrder.also (each_map (f x) k) (order-each f o)

pub own-names : (p : Prices) → OwnNames p
own-names p shares calls = order-each differ (book p shares calls).rise

-- ---- two steps of a run
-- the first elements stand so; and those before the last to it
order-init : {A : Type 0} {R : A → A → Type 0} (xs ys : List A) → InOrder R (xs ++ ys) → InOrder R xs
order-init [] ys o = InOrder.none
order-init (x ∷ xs) ys (InOrder.also k o) = InOrder.also (each-parts xs k).0 (order-init xs ys o)

order-end : {A : Type 0} {R : A → A → Type 0} (xs : List A) {e : A} → InOrder R (xs ++ e ∷ []) → Each (λ x. R x e) xs
order-end [] o = Each.none
order-end (x ∷ xs) (InOrder.also k o) = Each.also (each-end xs k) (order-end xs o)

admissions-append : (later steps : List Step) → admissions (later ++ steps) ≡ admissions steps ++ admissions later
unfolding admissions
admissions-append [] steps = sym (append-nil (admissions steps))
admissions-append (s ∷ later) steps =
    ap (λ (l : List Claim). l ++ admitted_by s.call s.outcome.answer) (admissions-append later steps) ∙ append_assoc (admissions steps) (admissions later) (admitted_by s.call s.outcome.answer)

pub admitted-is : (s : Step) (c : Claim) → AdmittedAt s c → admitted_by s.call s.outcome.answer ≡ c ∷ []
admitted-is s c a =
    ap (λ (k : Call). admitted_by k s.outcome.answer) a.call ∙ ap (λ (values : List ℕ). answered (record { reads = a.reads; writes = c.writes }) values) a.answer ∙
    ap (λ (reads : List ℕ). record { tenant = c.tenant; serial = c.serial; reads = reads; writes = c.writes } ∷ []) (sym a.reduced)

-- where one stands in the list of admissions
place_of : {c : Claim} {steps : List Step} (m : AdmittedIn c steps) → admissions steps ≡ (admissions m.earlier ++ c ∷ []) ++ admissions m.later
unfolding admissions
place_of {c} m =
    ap admissions m.is ∙ admissions-append m.later (m.step ∷ m.earlier) ∙
    ap (λ (l : List Claim). (admissions m.earlier ++ l) ++ admissions m.later) (admitted-is m.step c m.at)

-- what holds of each in the list holds of who was admitted; and of each two, of two
pub one_of : {P : Claim → Type 0} {c : Claim} {steps : List Step} → AdmittedIn c steps → Each P (admissions steps) → P c
one_of {P} {c} m h = each-end (admissions m.earlier) (each-parts (admissions m.earlier ++ c ∷ []) (subst (Each P) (place_of m) h)).0

pub two-of : {R : Claim → Claim → Type 0} {a b : Claim} {steps : List Step} → InTurn a b steps → InOrder R (admissions steps) → R a b
two-of {R} {a} {b} i o =
    let m = i.second in
    one_of i.first (order-end (admissions m.earlier) (order-init (admissions m.earlier ++ b ∷ []) (admissions m.later) (subst (InOrder R) (place_of m) o)))

pub two-names : (p : Prices) → TwoNames p
two-names p shares calls a b i = two-of i (own-names p shares calls)

-- ---- a name that has left
-- the name's tenant and serial
pub name_of : (who serial : ℕ) (e : Request) → is_named who serial e ≡ true → (e.tenant ≡ who) × (e.serial ≡ serial)
name_of who serial e h =
    let k = both (eqb e.tenant who) (eqb e.serial serial) h in
    (eqb-true e.tenant who k.0, eqb-true e.serial serial k.1)

-- a new entry has not a name that was given
pub fresh-name : (t : Table) (who serial : ℕ) (e : Request) → e.serial ≡ given_by t e.tenant + 1 → serial ≤ given_by t who → is_named who serial e ≡ false
fresh-name t who serial e new le = go (is_named who serial e) refl
  where
    go : (b : Bool) → is_named who serial e ≡ b → is_named who serial e ≡ false
    go true h =
        let n = name_of who serial e h in
        let k : e.serial ≡ given_by t who + 1 = rw n.0 at new in
        absurd (omega (arith, k, le, n.1))
    go false h = h

-- an element is put that passes where the old one did
pub each-changed : {P : Request → Type 0} {q : List Request} → Each P q → (at : ℕ) (e : Request) → (P (get_or q at nobody) → P e) → Each P (set q at e)
each-changed Each.none at e f = Each.none
each-changed (Each.also p h) zero e f = Each.also (f p) h
each-changed (Each.also p h) (suc at) e f = Each.also p (each-changed h at e f)

pub change-away : (who serial : ℕ) (t : Table) (added : List Claim) (q : List Request) → Change t added q → serial ≤ given_by t who → Each (λ e. is_named who serial e ≡ false) t.queue → Each (λ e. is_named who serial e ≡ false) q
change-away who serial t _ _ Change.same le h = h
change-away who serial t _ _ (Change.joins e k) le h = each_last h (fresh-name t who serial e k le)
change-away who serial t _ _ (Change.leaves at) le h = each-without at h
change-away who serial t _ _ (Change.changes at e k) le h = each-changed h at e (λ old. ap (λ (c : Claim). eqb c.tenant who && eqb c.serial serial) k ∙ old)

-- no element passes the test
pub none-some : {A : Type 0} (f : A → Bool) {xs : List A} → Each (λ x. f x ≡ false) xs → some f xs ≡ false
unfolding some
none-some f Each.none = refl
none-some f (Each.also {x = x} {xs = xs} p h) = ap (λ (b : Bool). b || some f xs) p ∙ none-some f h

-- an element that passes the test, and what holds of each
pub found_in : {A : Type 0} {P : A → Type 0} (f : A → Bool) {xs : List A} → Each P xs → some f xs ≡ true → (x : A) × (f x ≡ true) × P x
unfolding some
found_in f Each.none e = absurd (false≢true e)
found_in {A} {P} f (Each.also {x = x} {xs = xs} p h) e = ⊎_elim (λ (k : f x ≡ true). (x, k, p)) (λ (k : some f xs ≡ true). found_in f h k) (either (f x) (some f xs) e)

queued-given : (who serial : ℕ) (u : Table) → SoundAny u → is_queued who serial u ≡ true → serial ≤ given_by u who
queued-given who serial u s h =
    let w = found_in (is_named who serial) s.entries h in
    let n = name_of who serial w.0 w.1 in
    let le : w.0.serial ≤ given_by u who = rw n.0 at w.2.to-given in
    omega (arith, le, n.1)

was-given : (who serial : ℕ) (t : Table) (steps : List Step) → Each (Was t) (map (λ s. s.met) steps) → some (λ s. is_queued who serial s.met) steps ≡ true → serial ≤ given_by t who
unfolding some
was-given who serial t [] h e = absurd (false≢true e)
was-given who serial t (s ∷ steps) (Each.also w h) e = ⊎_elim
    (λ (k : is_queued who serial s.met ≡ true). omega (arith, queued-given who serial s.met w.sound k, w.fewer.more who))
    (λ (k : some (λ (s : Step). is_queued who serial s.met) steps ≡ true). was-given who serial t steps h k)
    (either (is_queued who serial s.met) (some (λ (s : Step). is_queued who serial s.met) steps) e)

pub left-given : {t : Table} {steps : List Step} → Book t steps → (who serial : ℕ) → some (λ s. is_queued who serial s.met) steps ≡ true → serial ≤ given_by t who
left-given {t} {steps} b who serial was = was-given who serial t steps b.past was

module _ (p : Prices) where
  -- what each change of the queue keeps, once the serial was given, further calls keep
  pub kept_on : (who serial : ℕ) (P : List Request → Type 0) → ((t : Table) (added : List Claim) (q : List Request) → Change t added q → serial ≤ given_by t who → P t.queue → P q) → (more : List Call) (r : Run) → every (λ c. not (is_open c)) more ≡ true → serial ≤ given_by r.table who → P r.table.queue → P (run_of p r more).table.queue
  unfolding run_of after every
  kept_on who serial P keep [] r shut le h = h
  kept_on who serial P keep (c ∷ more) r shut le h =
      let t = r.table in
      let k = both (not (is_open c)) (every (λ (c : Call). not (is_open c)) more) shut in
      let closed : is_open c ≡ false = not-true (is_open c) k.0 in
      kept_on who serial P keep more (after p r c) k.1 (omega (arith, le, (grown p t c closed).more who)) (keep t _ _ (changed p t c closed) le h)

  pub never_back : NeverBack p
  never_back shares calls more who serial left shut =
      let r = reached p shares calls in
      let given = left-given (book p shares calls) who serial left.was in
      let away = each_none (is_named who serial) r.table.queue left.gone in
      none-some (is_named who serial) (kept_on who serial (Each (λ e. is_named who serial e ≡ false)) (change-away who serial) more r shut given away)
