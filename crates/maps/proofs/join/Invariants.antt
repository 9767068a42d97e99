-- The words before i are joined, and those from i on are as they were.
use Rattle.std.proofs.Common.{ℕ, ◌<◌, ◌≤◌, ◌≡◌, bit_or, get_or}
use Rattle.maps.proofs.join.Given as goal

abbrev pub invariant-loop-i : goal.invariant-loop-i
invariant-loop-i l =
    ((k : ℕ) → k < l.i → get_or l.map k 0 ≡ bit_or (get_or l.initial.map k 0) (get_or l.other k 0)) × ((k : ℕ) → l.i ≤ k → get_or l.map k 0 ≡ get_or l.initial.map k 0)
