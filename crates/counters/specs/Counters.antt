-- What an array of counters holds, what it is to be raised or lowered at the records of a list, and the map of those above 0.
use Rattle.std.specs.Prelude.{ℕ, ◌+◌, ◌≤◌, ◌<◌, ◌≡◌, List, eqb, ltb, get_or}
use Rattle.rules.specs.Lists.{count_if}
use Rattle.rules.specs.Records.{member}
use Rattle.rules.specs.Request.{Request}
use Rattle.maps.specs.Maps.{in_map}

-- the counter of a record
abbrev pub at : List ℕ → ℕ → ℕ
at c k = get_or c k 0

-- how often the record stands in the list
abbrev pub occurs : ℕ → List ℕ → ℕ
occurs k xs = count_if (λ x. eqb x k) xs

-- r is the counters c with one added at each record of the list
pub record Raised (c xs r : List ℕ) : Type 0 where
  pub each : (k : ℕ) → k < 256 → at r k ≡ at c k + occurs k xs

-- each counter is below the bound
pub record Under (bound : ℕ) (c : List ℕ) : Type 0 where
  pub each : (k : ℕ) → k < 256 → at c k < bound

-- the counters hold as much as is to be taken at the records of the list
pub record Stocked (c xs : List ℕ) : Type 0 where
  pub each : (k : ℕ) → k < 256 → occurs k xs ≤ at c k

-- "each counter equals the count over the queue": Cx where `of` picks the writes of a request, Cs where it picks the reads
pub record Counts (of : Request → List ℕ) (c : List ℕ) (q : List Request) : Type 0 where
  pub each : (k : ℕ) → k < 256 → at c k ≡ count_if (λ e. member k (of e)) q

-- document 02, item 5: "maps of 256 bits, of records with Cx above 0 and with Cs above 0"
pub record Marks (map counters : List ℕ) : Type 0 where
  pub each : (k : ℕ) → k < 256 → in_map map k ≡ ltb 0 (at counters k)
