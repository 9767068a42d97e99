-- Document 02, item 6, "Shops ask whose change came first": "over any sequence of calls from opening: of two admitted requests that
-- conflict, the one admitted later does not become Free or Waiting before the earlier one has left the queue".
use Rattle.std.specs.Prelude.{ℕ, ◌<◌, ◌≡◌, Bool, true, false, ◌&&◌, not, List, [], ◌∷◌, ◌⊎◌, length}
use Rattle.rules.specs.Lists.{some}
use Rattle.rules.specs.Request.{requested, conflict, is_named, is_blocked}
use Rattle.rules.specs.Table.{Table}
use Rattle.rules.specs.Prices.{Prices}
use Rattle.rules.specs.Sound.{Each, InOrder}
use Rattle.rules.specs.Runs.{Call, Step, Run, from}
use Rattle.promises.specs.Fuel.{reached}
use Rattle.promises.specs.Names.{Claim, claim_of, same_name, AdmittedIn, InTurn, is_queued, HasLeft}

-- ---- the points of a run
-- the run as it was at each of its points, the latest first: now, and before each of its steps. A point has the table of then, and
-- the steps that had been made by then.
unfoldable pub points_from : Table → List Step → List Run
points_from t [] = from t ∷ []
points_from t (s ∷ earlier) = record { table = t; steps = s ∷ earlier } ∷ points_from s.met earlier

abbrev pub points : Run → List Run
points r = points_from r.table r.steps

-- the point before a point's latest step; the opening, which has no step, is its own
abbrev pub undone : Table → List Step → Run
undone t [] = from t
undone t (s ∷ earlier) = record { table = s.met; steps = earlier }

abbrev pub point_before : Run → Run
point_before q = undone q.table q.steps

-- ---- "two admitted requests that conflict": `InTurn` (Names) says which was admitted earlier
-- they conflict by their lists as stored, which is the same as by those given (`ReducedConflicts`, once for each of the two)
abbrev pub claims_conflict : Claim → Claim → Bool
claims_conflict a b =
    conflict (requested a.tenant a.serial 0 a.reads a.writes) (requested b.tenant b.serial 0 b.reads b.writes)

-- ---- "become Free or Waiting"
-- in the queue, and Free or Waiting
abbrev pub is_at_work : ℕ → ℕ → Table → Bool
is_at_work who serial t = some (λ e. is_named who serial e && not (is_blocked e.mode)) t.queue

-- it is so at this point, and was not at the one before
abbrev pub starts : ℕ → ℕ → Run → Bool
starts who serial q = is_at_work who serial q.table && not (is_at_work who serial (point_before q).table)

-- ---- 15 The order: at every point at which the later one is Free or Waiting, the earlier one has left; `HasLeft` is that it was in the
-- queue at some point and is not any more
abbrev pub KeepsOrder : Run → Type 0
KeepsOrder r =
    (a b : Claim) →
    InTurn a b r.steps →
    claims_conflict a b ≡ true →
    Each (λ q. is_at_work b.tenant b.serial q.table ≡ true → HasLeft a.tenant a.serial q) (points r)

abbrev pub Order : Prices → Type 0
Order p =
    (shares : List ℕ) (calls : List Call) →
    KeepsOrder (reached p shares calls)

-- and it has left for good, at every later point too: `NeverBack` of the points of a run
abbrev pub LeftForGood : Run → Type 0
LeftForGood r =
    (who serial : ℕ) →
    InOrder (λ later earlier. HasLeft who serial earlier → HasLeft who serial later) (points r)

abbrev pub StaysAway : Prices → Type 0
StaysAway p =
    (shares : List ℕ) (calls : List Call) →
    LeftForGood (reached p shares calls)

-- ---- 16 Conflicting requests run in the order of their admission: b starts at the point y of the run
pub record StartsAfter (a : Claim) (r y : Run) : Type 0 where
  -- a had left before the call by which b starts
  pub left : HasLeft a.tenant a.serial (point_before y)
  -- and if a ever started, fewer calls had been made then
  pub first : Each (λ x. starts a.tenant a.serial x ≡ true → length x.steps < length y.steps) (points r)

abbrev pub RunsInTurn : Run → Type 0
RunsInTurn r =
    (a b : Claim) →
    InTurn a b r.steps →
    claims_conflict a b ≡ true →
    Each (λ y. starts b.tenant b.serial y ≡ true → StartsAfter a r y) (points r)

abbrev pub RunInOrder : Prices → Type 0
RunInOrder p =
    (shares : List ℕ) (calls : List Call) →
    RunsInTurn (reached p shares calls)

-- ---- 17 The order of admission is total, and is the order of the queue
pub record TotalOrder (steps : List Step) : Type 0 where
  -- a name is one request's
  pub same : (a b : Claim) → AdmittedIn a steps → AdmittedIn b steps → same_name a b ≡ true → a ≡ b
  -- of two, one was admitted before the other
  pub either : (a b : Claim) → AdmittedIn a steps → AdmittedIn b steps → same_name a b ≡ false → InTurn a b steps ⊎ InTurn b a steps
  -- and not the other way about
  pub one_way : (a b : Claim) → InTurn a b steps → InTurn b a steps → ⊥
  -- and before whomever that one was admitted before
  pub through : (a b c : Claim) → InTurn a b steps → InTurn b c steps → InTurn a c steps
  -- of one tenant's requests the serials tell it
  pub serials : (a b : Claim) → InTurn a b steps → a.tenant ≡ b.tenant → a.serial < b.serial

abbrev pub AdmissionTotal : Prices → Type 0
AdmissionTotal p =
    (shares : List ℕ) (calls : List Call) →
    TotalOrder (reached p shares calls).steps

-- each entry of the queue was admitted, with these lists, and each that stands ahead of it was admitted before it; whoever was
-- admitted and is not there has left
pub record QueueInOrder (q : Run) : Type 0 where
  pub admitted : Each (λ e. AdmittedIn (claim_of e) q.steps) q.table.queue
  pub ahead : InOrder (λ a e. InTurn (claim_of a) (claim_of e) q.steps) q.table.queue
  pub others : (c : Claim) → AdmittedIn c q.steps → is_queued c.tenant c.serial q.table ≡ false → HasLeft c.tenant c.serial q

abbrev pub QueueOrder : Prices → Type 0
QueueOrder p =
    (shares : List ℕ) (calls : List Call) →
    Each QueueInOrder (points (reached p shares calls))
