-- Laws of single requests.
use Rattle.std.specs.Prelude.{if◌then◌else◌}
use Prim.Native.Nat.{ℕ, ◌-◌, ◌<◌}
use mathlib.Core.Path.{◌≡◌, refl}
use mathlib.Core.Bool.{Bool, true, false, ◌&&◌, ◌||◌}
use mathlib.Core.List.{List, [], ◌∷◌}
use mathlib.Core.Logic.{⊎_elim}
use native.Mathlib.Omega.{arith}
use lib.ListN.{length}
use lib.Dec.{eqb}
use Rattle.rules.specs.declared.Mode.TheVariants.{Free}
use Rattle.rules.specs.Lists.{some}
use Rattle.rules.specs.Records.{member, meets}
use Rattle.rules.specs.Request.{Request, size, conflict, conflicts_any, is_waiting, with_mode, with_due, promoted, admitted, delivered}
use Rattle.rules.proofs.Tests.{either, if-either}
use Rattle.rules.proofs.Lists.{meets_at}

-- a delivered answer changes how many are due, and the state
pub delivered-as : (e : Request) → delivered e ≡ with_mode (with_due e (e.due - 1)) (if is_waiting e.mode && eqb (e.due - 1) 0 then Free else e.mode)
unfolding delivered
delivered-as e = go (is_waiting e.mode && eqb (e.due - 1) 0)
  where
    left : Request
    left = with_due e (e.due - 1)

    go : (b : Bool) → (if b then with_mode left Free else left) ≡ with_mode left (if b then Free else e.mode)
    go true = refl
    go false = refl

-- a request that joins keeps all but its state
pub admitted-as : (q : List Request) (e : Request) → admitted q e ≡ with_mode e (admitted q e).mode
unfolding admitted promoted
admitted-as q e = if-either (λ (a : Request). a ≡ with_mode e a.mode) (conflicts_any q e) refl refl

-- a request that conflicts with some entry names a record
member-length : (r : ℕ) (xs : List ℕ) → member r xs ≡ true → 0 < length xs
unfolding member some
member-length r [] h = let z : ◌≡◌ {A = ℕ} 0 1 = cc in absurd (omega arith)
member-length r (x ∷ xs) h = omega arith

meets-length : (xs ys : List ℕ) → meets xs ys ≡ true → 0 < length ys
meets-length xs ys h = let w = meets_at xs ys h in member-length w.0 ys w.2

pair_size : (a e : Request) → conflict a e ≡ true → 0 < size e
unfolding conflict size
pair_size a e h = ⊎_elim
    (λ (k : (meets a.writes e.writes || meets a.writes e.reads) ≡ true). ⊎_elim
    (λ (w : meets a.writes e.writes ≡ true). omega (arith, meets-length a.writes e.writes w))
    (λ (r : meets a.writes e.reads ≡ true). omega (arith, meets-length a.writes e.reads r))
    (either (meets a.writes e.writes) (meets a.writes e.reads) k))
    (λ (w : meets a.reads e.writes ≡ true). omega (arith, meets-length a.reads e.writes w))
    (either (meets a.writes e.writes || meets a.writes e.reads) (meets a.reads e.writes) h)

pub conflict-size : (q : List Request) (e : Request) → conflicts_any q e ≡ true → 0 < size e
unfolding some
conflict-size [] e h = let z : ◌≡◌ {A = ℕ} 0 1 = cc in absurd (omega arith)
conflict-size (a ∷ q) e h = ⊎_elim (pair_size a e) (conflict-size q e) (either (conflict a e) (conflicts_any q e) h)
