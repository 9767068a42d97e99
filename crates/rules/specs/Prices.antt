-- What calls cost. Every definition takes the prices; document 01's are `clause9`.
use Rattle.std.specs.Prelude.{ℕ, ◌+◌, min, List, [], ◌∷◌, if◌then◌else◌}
use Rattle.rules.specs.Lists.{total}
use Rattle.rules.specs.Records.{member}
use Rattle.rules.specs.Request.{Request, size}
use Rattle.rules.specs.Table.{Table}

pub record Prices : Type 0 where
  -- a request of n records, and its release, which is paid with it
  pub request : ℕ → ℕ
  pub release : ℕ → ℕ
  -- the Finish itself
  pub finish : ℕ
  -- a cancel
  pub cancel : ℕ
  -- a Recheck of an entry of n records
  pub recheck : ℕ → ℕ
  -- a search, and each entry of n records that it looks at
  pub search : ℕ
  pub look : ℕ → ℕ
  -- a refused call that is charged
  pub refused : ℕ

-- Begin: "1 + n now and 1 + n for the release". Finish: "It burns 0". Recheck: "price 1 + n".
-- Scan: "It burns 1, then looks at entries from the front, burning 1 + n for each". The table: "1". Document 02, item 7: "cancel"
-- is "burning 1".
abbrev pub clause9 : Prices
clause9 = record {
  request = λ n. 1 + n;
  release = λ n. 1 + n;
  finish = 0;
  cancel = 1;
  recheck = λ n. 1 + n;
  search = 1;
  look = λ n. 1 + n;
  refused = 1;
}

-- the prices that a table's calls are paid at: document 01's, whatever the table
abbrev pub prices_of : Table → Prices
prices_of t = clause9

-- "The price is 2 + 2n: 1 + n now and 1 + n for the release"
abbrev pub admission : Prices → Request → ℕ
admission p e = p.request (size e) + p.release (size e)

-- a search that has looked at these entries
unfoldable pub looks : Prices → List Request → ℕ
looks p = total (λ e. p.look (size e))

abbrev pub searching : Prices → List Request → ℕ
searching p looked = p.search + looks p looked

-- the refusals that the column "Burns" charges: 3 to 11, with 5, which no call gives any more (document 02, item 4). The others
-- burn 0; a scan cut short has its own row, and burns what its walk had burnt (Scan).
unfoldable pub costly : List ℕ
costly = 3 ∷ 4 ∷ 5 ∷ 6 ∷ 7 ∷ 8 ∷ 9 ∷ 10 ∷ 11 ∷ []

-- the charge of a refusal, looked up by its number; it is never more than the fuel that is left, which with a charge of 1
-- changes nothing, since each costly refusal comes after 2
unfoldable pub charge : Prices → ℕ → ℕ → ℕ
charge p fuel number = if member number costly then min p.refused fuel else 0
