-- Each of the four words is 0, and so is what stands past them, so no bit is set.
use Prim.Native.Nat.{ℕ, zero, suc, ◌/◌, ◌%◌}
use mathlib.Core.Path.{◌≡◌, refl, ap, ◌∙◌}
use lib.ListN.{get_or, replicate}
use Rattle.maps.specs.Maps.{bit_set, in_map}
use Rattle.maps.proofs.Words.{zero_bit}
use Rattle.maps.proofs.none.Goals as goal

zeros : (n k : ℕ) → get_or (replicate n zero) k zero ≡ zero
zeros zero k = refl
zeros (suc n) zero = refl
zeros (suc n) (suc k) = zeros n k

pub returns : goal.returns
unfolding in_map
returns c = record { each = λ q. ap (λ (w : ℕ). bit_set w (q % 64)) (zeros 4 (q / 64)) ∙ zero_bit (q % 64) }
