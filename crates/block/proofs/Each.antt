-- What holds of each element of a list.
use Prim.Native.Nat.{ℕ, zero, suc, ◌<◌}
use mathlib.Core.Path.{subst}
use mathlib.Core.List.{List, [], ◌∷◌, map}
use native.Mathlib.Omega.{arith}
use lib.ListN.{length}
use Rattle.rules.specs.Sound.{Each}
use Rattle.rules.specs.Sound.Each.{none, also}
use Rattle.rules.proofs.Order.{each_at, each_last}
use Rattle.block.specs.Block.{tab}
use Rattle.block.proofs.Places.{tab-length, tab-get}

-- of each image, and of each element by its image
pub each_of : {A B : Type 0} {P : B → Type 0} (f : A → B) (l : List A) → Each (λ x. P (f x)) l → Each P (map f l)
each_of f [] none = none
each_of f (x ∷ l) (also h all) = also h (each_of f l all)

pub each-under : {A B : Type 0} {P : B → Type 0} (f : A → B) (l : List A) → Each P (map f l) → Each (λ x. P (f x)) l
each-under f [] none = none
each-under f (x ∷ l) (also h all) = also h (each-under f l all)

-- of each place of a list that is filled by place
pub each-tab : {A : Type 0} {P : A → Type 0} (f : ℕ → A) (n : ℕ) (d : A) → Each P (tab f n) → (i : ℕ) → i < n → P (f i)
each-tab {A} {P} f n d all i lt = let there : i < length (tab f n) = omega (arith, tab-length f n) in subst P (tab-get f d n i lt) (each_at all i d there)

pub tab-each : {A : Type 0} {P : A → Type 0} (f : ℕ → A) (n : ℕ) → ((i : ℕ) → i < n → P (f i)) → Each P (tab f n)
unfolding tab
tab-each f zero h = none
tab-each f (suc n) h = each_last (tab-each f n (λ i (lt : i < n). h i (omega arith))) (h n (omega arith))
