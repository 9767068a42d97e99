-- Records and lists of records.
use Rattle.std.specs.Prelude.{ℕ, ◌≤◌, ◌≡◌, Bool, true, false, ◌&&◌, not, List, [], ◌∷◌, eqb, ltb, length}
use Rattle.rules.specs.Lists.{some, keep_if}

-- the record stands in the list
unfoldable pub member : ℕ → List ℕ → Bool
member r = some (λ x. eqb x r)

-- each record of the list is above the one before it, and the first above b
unfoldable pub rising_past : ℕ → List ℕ → Bool
rising_past b [] = true
rising_past b (x ∷ xs) = ltb b x && rising_past x xs

-- "strictly rising"
unfoldable pub rising : List ℕ → Bool
rising [] = true
rising (x ∷ xs) = rising_past x xs

-- "a record in both lists"
unfoldable pub meets : List ℕ → List ℕ → Bool
meets xs ys = some (λ x. member x ys) xs

-- The reduced lists of document 02, item 4: "A record in both lists shall count as written only ... and is stored among the
-- writes alone". The reads are those that are not written, in their order; the writes stay.
unfoldable pub only_read : List ℕ → List ℕ → List ℕ
only_read reads writes = keep_if (λ r. not (member r writes)) reads

-- lists that refusals 3 and 4 let pass: "The limits of 8 apply to the lists as given. All else uses the reduced lists."
pub record WellFormed (reads writes : List ℕ) : Type 0 where
  pub few-reads : length reads ≤ 8
  pub few-writes : length writes ≤ 8
  pub reads-rise : rising (only_read reads writes) ≡ true
  pub writes-rise : rising writes ≡ true

-- lists as an entry keeps them: document 02, item 1, "lists keep refusals 3 to 5", the last of which item 4 gives no more
pub record Stored (reads writes : List ℕ) : Type 0 where
  pub few-reads : length reads ≤ 8
  pub few-writes : length writes ≤ 8
  pub reads-rise : rising reads ≡ true
  pub writes-rise : rising writes ≡ true
  pub apart : meets reads writes ≡ false
