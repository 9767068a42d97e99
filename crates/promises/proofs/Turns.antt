-- What every call keeps of the order. The queue is what is left of the admissions, each of which some step made, in turn; whom a run
-- admitted has been in the queue; what has left stays away; and no call both takes one out and starts another.
use Prim.Native.Nat.{ℕ, zero, suc}
use mathlib.Core.Path.{◌≡◌, refl, sym, ap, ◌∙◌}
use mathlib.Core.Bool.{Bool, true, false, ◌&&◌, ◌||◌, not, false≢true}
use mathlib.Core.List.{List, [], ◌∷◌, ◌++◌, append-nil}
use lib.ListN.{get_or, set}
use Rattle.rules.specs.Lists.{some}
use Rattle.rules.specs.Request.{Request, nobody, is_named, is_blocked}
use Rattle.rules.specs.Table.{Table}
use Rattle.rules.specs.Prices.{Prices}
use Rattle.rules.specs.Calls.{without_entry, open_of}
use Rattle.rules.specs.Sound.{Each, InOrder, SoundAny}
use Rattle.rules.specs.Runs.{Call, Step, Run, step, is_open}
use Rattle.rules.proofs.Tests.{or-true}
use Rattle.rules.proofs.Lists.{some-append}
use Rattle.rules.proofs.Order.{each_map, each_append, each-parts, each_first, each_none, each-without, order-last}
use Rattle.promises.specs.Fuel.{reached}
use Rattle.promises.specs.Names.{Claim, claim_of, admissions, same_name, is_queued, AdmittedAt, AdmittedIn, InTurn, HasLeft}
use Rattle.promises.specs.Order.{points_from, points, undone, AdmissionTotal, QueueOrder}
use Rattle.promises.proofs.Runs.{made}
use Rattle.promises.proofs.Calls.{open-empty}
use Rattle.promises.proofs.Changes.{Change, changed}
use Rattle.promises.proofs.Names.{Book, book-opens, book-keeps, left-given, change-away, none-some, order-each, one_of, book}
use Rattle.promises.proofs.Admissions.{made-admits, admitted-on, admitted-next, turn_on, turn-next, own_name, total}
use Rattle.promises.proofs.Left.{Left, left-each, left-order, change-left}
use Rattle.promises.proofs.Points.{run_at, any-point, since-all}

-- ---- the words of the promises, told of a claim
abbrev pub names : Claim → Request → Bool
names c e = is_named c.tenant c.serial e

abbrev pub works_as : Claim → Request → Bool
works_as c e = names c e && not (is_blocked e.mode)

abbrev pub is_in : Claim → Table → Bool
is_in c t = some (names c) t.queue

abbrev pub was_in : Claim → List Step → Bool
was_in c steps = some (λ s. is_in c s.met) steps

abbrev pub works : Claim → Table → Bool
works c t = some (works_as c) t.queue

abbrev pub Gone : Claim → Run → Type 0
Gone c q = HasLeft c.tenant c.serial q

pub never : {A : Type 0} {b : Bool} → b ≡ false → b ≡ true → A
never f t = absurd (false≢true (sym f ∙ t))

-- ---- what holds at every point
-- the call by which one starts takes nobody out
abbrev pub Steady : List Request → List Request → Type 0
Steady q next = (a b : Claim) → some (works_as b) q ≡ false → some (works_as b) next ≡ true → some (names a) next ≡ false → some (names a) q ≡ false

-- and what has left at the earlier of two points has left at the later
abbrev pub Away : ℕ → ℕ → Run → Run → Type 0
Away who serial later earlier = HasLeft who serial earlier → HasLeft who serial later

pub record Kept (t : Table) (steps : List Step) : Type 0 where
  pub book : Book t steps
  pub left : Left t.queue (admissions steps)
  pub admitted : Each (λ c. AdmittedIn c steps) (admissions steps)
  pub turns : InOrder (λ a b. InTurn a b steps) (admissions steps)
  -- whom it admitted is in the queue, or was there at an earlier point
  pub seen : Each (λ c. (is_in c t || was_in c steps) ≡ true) (admissions steps)
  pub steady : Steady (undone t steps).table.queue t.queue
  pub away : (who serial : ℕ) → InOrder (Away who serial) (points_from t steps)

-- ---- what a change of the queue does
-- who is admitted comes after all that were
change-turns : {t : Table} {added : List Claim} {q : List Request} (cs : List Claim) (s : Step) (steps : List Step) → Change t added q → Each (AdmittedAt s) added → Each (λ c. AdmittedIn c steps) cs → InOrder (λ a b. InTurn a b (s ∷ steps)) cs → InOrder (λ a b. InTurn a b (s ∷ steps)) (cs ++ added)
change-turns cs s steps Change.same new old h = rw (append-nil cs) h
change-turns cs s steps (Change.joins e k) new old h = order-last h (each_map (λ a m. turn-next m (each_first new)) old)
change-turns cs s steps (Change.leaves at) new old h = rw (append-nil cs) h
change-turns cs s steps (Change.changes at e k) new old h = rw (append-nil cs) h

-- and is in the queue then
change-seen : {t : Table} {added : List Claim} {q : List Request} → Change t added q → Each (λ c. some (names c) q ≡ true) added
unfolding some
change-seen Change.same = Each.none
change-seen {t} (Change.joins e k) = Each.also (some-append (names (claim_of e)) t.queue (e ∷ []) ∙ rw (own_name (claim_of e)) (or-true (some (names (claim_of e)) t.queue))) Each.none
change-seen (Change.leaves at) = Each.none
change-seen (Change.changes at e k) = Each.none

-- an element is put that the test tells as it told the old one
some-set : (f : Request → Bool) (q : List Request) (at : ℕ) (e : Request) → f e ≡ f (get_or q at nobody) → some f (set q at e) ≡ some f q
unfolding some
some-set f [] at e k = refl
some-set f (x ∷ q) zero e k = ap (λ (b : Bool). b || some f q) k
some-set f (x ∷ q) (suc at) e k = ap (λ (b : Bool). f x || b) (some-set f q at e k)

some_first : (f : Request → Bool) (q more : List Request) → some f (q ++ more) ≡ false → some f q ≡ false
some_first f q more h = none-some f (each-parts q (each_none f (q ++ more) h)).0

some-without : (f : Request → Bool) (q : List Request) (at : ℕ) → some f q ≡ false → some f (without_entry at q) ≡ false
some-without f q at h = none-some f (each-without at (each_none f q h))

-- nobody is taken out by a call that changes or adds one; and none starts by a call that takes one out
change-steady : {t : Table} {added : List Claim} {q : List Request} → Change t added q → Steady t.queue q
change-steady Change.same a b before after gone = gone
change-steady {t} (Change.joins e k) a b before after gone = some_first (names a) t.queue (e ∷ []) gone
change-steady {t} (Change.leaves at) a b before after gone = never (some-without (works_as b) t.queue at before) after
change-steady {t} (Change.changes at e k) a b before after gone =
    sym (some-set (names a) t.queue at e (ap (λ (c : Claim). same_name c a) k)) ∙ gone

-- what has left does not come back by it
left-on : {t : Table} {steps : List Step} (s : Step) (u : Table) {added : List Claim} → Book t steps → Change t added u.queue → (who serial : ℕ) → HasLeft who serial (run_at t steps) → HasLeft who serial (run_at u (s ∷ steps))
unfolding some
left-on {t} s u b ch who serial h = record {
  was = ap (λ (x : Bool). is_queued who serial s.met || x) h.was ∙ or-true (is_queued who serial s.met);
  gone = none-some (is_named who serial) (change-away who serial t _ _ ch (left-given b who serial h.was) (each_none (is_named who serial) t.queue h.gone));
}

-- ---- an opening, and a call
kept-opens : (shares : List ℕ) → Kept (open_of shares).table []
unfolding admissions points_from
kept-opens shares = record {
  book = book-opens shares;
  left = rw (open-empty shares) Left.none;
  admitted = Each.none;
  turns = InOrder.none;
  seen = Each.none;
  steady = λ a b before after gone. gone;
  away = λ who serial. InOrder.also Each.none InOrder.none;
}

module _ (p : Prices) where
  kept_on : (t : Table) (steps : List Step) (c : Call) → SoundAny t → is_open c ≡ false → Kept t steps → Kept (step p t c).table (made p t c ∷ steps)
  unfolding admissions points_from some
  kept_on t steps c s shut k =
      let m = made p t c in
      let u = (step p t c).table in
      let cs = admissions steps in
      let ch = changed p t c shut in
      let new = made-admits p t c in
      let old-turns = order-each (λ a b i. turn_on (m ∷ []) i) k.turns in
      record {
        book = book-keeps p t steps c s shut k.book;
        left = change-left cs ch k.left;
        admitted = each_append (each_map (λ x h. admitted-on (m ∷ []) h) k.admitted) (each_map (λ x h. admitted-next m steps h) new);
        turns = change-turns cs m steps ch new k.admitted old-turns;
        seen = each_append
            (each_map (λ (x : Claim) (h : (is_in x t || was_in x steps) ≡ true). ap (λ (b : Bool). is_in x u || b) h ∙ or-true (is_in x u)) k.seen)
            (each_map (λ (x : Claim) (h : is_in x u ≡ true). ap (λ (b : Bool). b || was_in x (m ∷ steps)) h) (change-seen ch));
        steady = change-steady ch;
        away = λ who serial. let old = k.away who serial in InOrder.also (each_map (λ q f. λ h. left-on m u k.book ch who serial (f h)) (since-all (λ q h. h) t steps old)) old;
      }

  pub kept : (shares : List ℕ) (calls : List Call) → Each (λ q. Kept q.table q.steps) (points (reached p shares calls))
  kept = any-point p Kept kept-opens kept_on

-- whom it admitted and who is not there has left
pub has-gone : {t : Table} {steps : List Step} {c : Claim} → Kept t steps → AdmittedIn c steps → is_in c t ≡ false → Gone c (run_at t steps)
has-gone k m gone = record { was = rw gone at (one_of m k.seen); gone = gone }

-- ---- 17 The order of admission, and of the queue
pub admission-total : (p : Prices) → AdmissionTotal p
admission-total p shares calls = total (reached p shares calls).steps (book p shares calls).rise

pub queue-order : (p : Prices) → QueueOrder p
queue-order p shares calls = each_map
    (λ q k. record { admitted = left-each k.left k.admitted; ahead = left-order k.left k.turns; others = λ c m gone. has-gone k m gone })
    (kept p shares calls)
