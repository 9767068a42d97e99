-- Document 02, item 5: on which record a request clashes with those queued before it, and how many records are held.
use Rattle.std.specs.Prelude.{ℕ, zero, suc, ◌+◌, Bool, ◌&&◌, ◌||◌, List, [], ◌∷◌, ◌++◌, ltb, if◌then◌else◌}
use Rattle.rules.specs.declared.Tally.{Tally}
use Rattle.rules.specs.Lists.{some, keep_if}
use Rattle.rules.specs.Records.{member}
use Rattle.rules.specs.Request.{Request}
use Rattle.rules.specs.Table.{Table}
use Rattle.rules.specs.Counters.{cx, cs}

-- some queued entry writes the record; reads it
abbrev pub written_in : List Request → ℕ → Bool
written_in q r = some (λ a. member r a.writes) q

abbrev pub read_in : List Request → ℕ → Bool
read_in q r = some (λ a. member r a.reads) q

-- a request clashes on a record that it reads and others write, or that it writes and others read or write
unfoldable pub clash_at : (ℕ → Bool) → (ℕ → Bool) → Request → ℕ → Bool
clash_at written read e r =
    (member r e.reads && written r) || (member r e.writes && (written r || read r))

-- "judged before its own counts": the others are the entries queued before it
abbrev pub clashes_on : List Request → Request → ℕ → Bool
clashes_on q e = clash_at (written_in q) (read_in q) e

-- the lower of two numbers, and the lowest of a number and those of a list
abbrev pub lower : ℕ → ℕ → ℕ
lower a b = if ltb b a then b else a

unfoldable pub lowest_from : ℕ → List ℕ → ℕ
lowest_from n [] = n
lowest_from n (x ∷ xs) = lowest_from (lower n x) xs

-- the lowest number of a list, which is not empty
unfoldable pub lowest : List ℕ → ℕ
lowest [] = 0
lowest (x ∷ xs) = lowest_from x xs

-- "the lowest-numbered record that it clashed on"
unfoldable pub lowest_clash : List Request → Request → ℕ
lowest_clash q e = lowest (keep_if (clashes_on q e) (e.reads ++ e.writes))

-- how many numbers below n pass the test
unfoldable pub how_many : (ℕ → Bool) → ℕ → ℕ
how_many f zero = 0
how_many f (suc n) = (if f n then 1 else 0) + how_many f n

-- "A host call held counts the records in the first map, the second, and either": of the records 0 to 255, those with Cx above 0,
-- with Cs above 0, and with one of them above 0. It burns nothing and changes nothing.
unfoldable pub held_of : Table → Tally
held_of t =
    let written : ℕ → Bool = λ r. ltb 0 (cx t.queue r) in
    let read : ℕ → Bool = λ r. ltb 0 (cs t.queue r) in
    record {
      written = how_many written 256;
      read = how_many read 256;
      either = how_many (λ r. written r || read r) 256;
    }
