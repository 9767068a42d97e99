-- What the type of a map alone says of it: four words, each below 2 ^ 64.
use Prim.Native.Nat.{ℕ, zero, suc, ◌^◌, ◌<◌}
use mathlib.Core.List.{List, [], ◌∷◌}
use lib.Dec.{lit<}
use lib.ListN.{get_or}
use mir.Syntax.{w64}
use mir.Val.{Val}
use denote.Plain.{UInt}
use denote.Array.{Array, each}
use denote.Shadow.{shadow}
use denote.Laws.{Is}
use Rattle.maps.specs.Maps.{Words}

each_below : (xs : List ℕ) (us : List Val) → shadow (each ℕ (UInt w64).own_val xs us) → (k : ℕ) → get_or xs k 0 < 2 ^ 64
each_below [] us p k = lit< tt
each_below (x ∷ xs) [] p k = absurd p
each_below (x ∷ xs) (u ∷ us) p zero = p.0.1
each_below (x ∷ xs) (u ∷ us) p (suc k) = each_below xs us p.1 k

pub words : (xs : List ℕ) (vs : List Val) → Is (Array (UInt w64) 4) xs vs → Words xs
words xs vs p = record { size = p.1.0.1; below = each_below xs p.0 p.1.1 }
