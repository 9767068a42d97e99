-- Maps of records: a set of the records 0 to 255 as four words of 64 bits, one bit a record.
use Rattle.std.specs.Prelude.{ℕ, ◌/◌, ◌%◌, ◌^◌, ◌≤◌, ◌<◌, ◌≡◌, Bool, true, false, ◌&&◌, ◌||◌, not, List, eqb, length, get_or, Option, Some, None}
use Rattle.rules.specs.Records.{member}
use Rattle.rules.specs.Clash.{how_many}
use Rattle.rules.specs.Scan.{Maps as LawMaps}
use Rattle.maps.specs.declared.Maps.{Maps}

-- bit k of a word is set
abbrev pub bit_set : ℕ → ℕ → Bool
bit_set word k = eqb (word / 2 ^ k % 2) 1

-- the record is in the map: bit r % 64 of word r / 64 is set
unfoldable pub in_map : List ℕ → ℕ → Bool
in_map map r = bit_set (get_or map (r / 64) 0) (r % 64)

-- four words of 64 bits, as every value of the type is
pub record Words (map : List ℕ) : Type 0 where
  pub size : length map ≡ 4
  pub below : (k : ℕ) → get_or map k 0 < 2 ^ 64

-- the records of the map are those of the list
pub record MapOf (list map : List ℕ) : Type 0 where
  pub each : (q : ℕ) → in_map map q ≡ member q list

-- no record is in the map
pub record Empty (map : List ℕ) : Type 0 where
  pub each : (q : ℕ) → in_map map q ≡ false

-- the records of `next` are those of the map and those of the list
pub record Grown (map list next : List ℕ) : Type 0 where
  pub each : (q : ℕ) → in_map next q ≡ (in_map map q || member q list)

-- the records of `next` are those of the map but for r
pub record Without (map : List ℕ) (r : ℕ) (next : List ℕ) : Type 0 where
  pub each : (q : ℕ) → in_map next q ≡ (in_map map q && not (eqb r q))

-- the records of `next` are those of both maps
pub record Union (a b next : List ℕ) : Type 0 where
  pub each : (q : ℕ) → q < 256 → in_map next q ≡ (in_map a q || in_map b q)

-- one who reads and writes so clashes with others who write and read so: he reads and they write, or he writes and they write
-- or read
abbrev clash : Bool → Bool → Bool → Bool → Bool
clash reads writes written read = (reads && written) || (writes && (written || read))

-- on this record, by the maps of what a request reads and writes and of what others do
abbrev pub clash_in : List ℕ → List ℕ → List ℕ → List ℕ → ℕ → Bool
clash_in reads writes written read r = clash (in_map reads r) (in_map writes r) (in_map written r) (in_map read r)

-- w has the bits of such words on which there is a clash
pub record ClashBits (reads writes written read w : ℕ) : Type 0 where
  pub each : (k : ℕ) → bit_set w k ≡ clash (bit_set reads k) (bit_set writes k) (bit_set written k) (bit_set read k)

-- k is the lowest bit that is set in a word
pub record LowestBit (word k : ℕ) : Type 0 where
  pub small : k < 64
  pub is : bit_set word k ≡ true
  pub below : (j : ℕ) → j < k → bit_set word j ≡ false

-- so many bits of a word are set
pub record BitsCounted (word n : ℕ) : Type 0 where
  pub few : n ≤ 64
  pub is : n ≡ how_many (bit_set word) 64

-- l is the lowest of the records 0 to 255 that passes the test, or says that none does
abbrev pub IsLowest : (ℕ → Bool) → Option ℕ → Type 0
IsLowest test (Some r) = (r < 256) × (test r ≡ true) × ((q : ℕ) → q < r → test q ≡ false)
IsLowest test None = (q : ℕ) → q < 256 → test q ≡ false

-- the two maps as the law book's
abbrev pub maps_of : Maps → LawMaps
maps_of m = record { written = in_map m.written; read = in_map m.read }
