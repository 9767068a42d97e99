-- Cx and Cs, and the verdicts that are told from them.
use Rattle.std.specs.Prelude.{ℕ, Bool, ◌&&◌, ◌||◌, List, eqb, ltb}
use Rattle.rules.specs.Lists.{some, every, count_if}
use Rattle.rules.specs.Records.{member}
use Rattle.rules.specs.Request.{Request}

-- "Each read record's Cs and each written record's Cx rises by 1"; when an entry leaves "its counters fall"
abbrev pub cx : List Request → ℕ → ℕ
cx q r = count_if (λ e. member r e.writes) q

abbrev pub cs : List Request → ℕ → ℕ
cs q r = count_if (λ e. member r e.reads) q

-- figure 2: "a read clashes if Cx is above 0, a write if after its own count Cx is above 1 or Cs is above 0"
unfoldable pub figure2 : (ℕ → ℕ) → (ℕ → ℕ) → Request → Bool
figure2 cx cs e =
    some (λ r. ltb 0 (cx r)) e.reads || some (λ w. ltb 1 (cx w) || ltb 0 (cs w)) e.writes

-- Recheck: "If every written record has Cx = 1 and Cs = 0, and every read record has Cx = 0"
unfoldable pub alone : (ℕ → ℕ) → (ℕ → ℕ) → Request → Bool
alone cx cs e =
    every (λ w. eqb (cx w) 1 && eqb (cs w) 0) e.writes && every (λ r. eqb (cx r) 0) e.reads
