-- The points of a run: what every call keeps holds at each of them; each has the steps that were made by then, and fewer than the
-- later ones.
use Prim.Native.Nat.{ℕ, ◌≤◌}
use mathlib.Core.Path.{◌≡◌, refl, ap}
use mathlib.Core.Bool.{false}
use mathlib.Core.List.{List, [], ◌∷◌, ◌++◌}
use native.Mathlib.Omega.{arith}
use lib.ListN.{length}
use Rattle.rules.specs.Table.{Table}
use Rattle.rules.specs.Prices.{Prices}
use Rattle.rules.specs.Calls.{open_of}
use Rattle.rules.specs.Sound.{Each, InOrder, SoundAny}
use Rattle.rules.specs.Runs.{Call, Step, Run, step, is_open}
use Rattle.rules.proofs.Order.{each_map, each_both}
use Rattle.promises.specs.Fuel.{reached}
use Rattle.promises.specs.Order.{points_from, points}
use Rattle.promises.proofs.Runs.{made, any-run}

abbrev pub run_at : Table → List Step → Run
run_at t steps = record { table = t; steps = steps }

-- now is the first of them
pub now : {P : Run → Type 0} (t : Table) (steps : List Step) → Each P (points_from t steps) → P (run_at t steps)
unfolding points_from
now t [] (Each.also h hs) = h
now t (s ∷ steps) (Each.also h hs) = h

-- what holds at an opening, and after each call if it held before it, holds at every point
module _ (p : Prices) (P : Table → List Step → Type 0) (opening : (shares : List ℕ) → P (open_of shares).table []) (keeps : (t : Table) (steps : List Step) (c : Call) → SoundAny t → is_open c ≡ false → P t steps → P (step p t c).table (made p t c ∷ steps)) where
  abbrev Always : Table → List Step → Type 0
  Always t steps = Each (λ q. P q.table q.steps) (points_from t steps)

  opens : (shares : List ℕ) → Always (open_of shares).table []
  unfolding points_from
  opens shares = Each.also (opening shares) Each.none

  goes_on : (t : Table) (steps : List Step) (c : Call) → SoundAny t → is_open c ≡ false → Always t steps → Always (step p t c).table (made p t c ∷ steps)
  unfolding points_from
  goes_on t steps c s shut h = Each.also (keeps t steps c s shut (now {P = λ (q : Run). P q.table q.steps} t steps h)) h

  pub any-point : (shares : List ℕ) (calls : List Call) → Each (λ q. P q.table q.steps) (points (reached p shares calls))
  any-point = any-run p Always opens goes_on

-- the steps of a point are those of the run without the latest
pub steps-by-then : (t : Table) (steps : List Step) → Each (λ q. (since : List Step) × (steps ≡ since ++ q.steps)) (points_from t steps)
unfolding points_from
steps-by-then t [] = Each.also ([], refl) Each.none
steps-by-then t (s ∷ steps) = Each.also ([], refl) (each_map (λ q w. (s ∷ w.0, ap (λ (l : List Step). s ∷ l) w.1)) (steps-by-then s.met steps))

no_more : (t : Table) (steps : List Step) → Each (λ q. length q.steps ≤ length steps) (points_from t steps)
unfolding points_from
no_more t [] = Each.also {x = run_at t []} (omega arith) Each.none
no_more t (s ∷ steps) = Each.also {x = run_at t (s ∷ steps)} (omega arith) (each_map (λ q (le : length q.steps ≤ length steps). omega arith) (no_more s.met steps))

module _ {R : Run → Run → Type 0} (same : (q : Run) → R q q) where
  -- what each later point is to each earlier one, now is to all
  pub since-all : (t : Table) (steps : List Step) → InOrder R (points_from t steps) → Each (R (run_at t steps)) (points_from t steps)
  unfolding points_from
  since-all t [] o = Each.also (same (run_at t [])) Each.none
  since-all t (s ∷ steps) (InOrder.also k o) = Each.also (same (run_at t (s ∷ steps))) k

  -- and every point is to those at which no more calls had been made
  pub no-later : (t : Table) (steps : List Step) → InOrder R (points_from t steps) → Each (λ y. Each (λ x. length y.steps ≤ length x.steps → R x y) (points_from t steps)) (points_from t steps)
  unfolding points_from
  no-later t [] o = Each.also (Each.also (λ le. same (run_at t [])) Each.none) Each.none
  no-later t (s ∷ steps) (InOrder.also k o) = Each.also
      (Each.also (λ le. same (run_at t (s ∷ steps))) (each_map (λ x (le : length x.steps ≤ length steps). λ (ge : length (s ∷ steps) ≤ length x.steps). absurd (omega arith)) (no_more s.met steps)))
      (each_both k (no-later s.met steps o) (λ y r inner. Each.also (λ le. r) inner))
