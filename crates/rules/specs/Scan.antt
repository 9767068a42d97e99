-- The search from the front: what it looks at, where it stops; and the two maps that it keeps.
use Rattle.std.specs.Prelude.{ℕ, ◌-◌, Bool, false, ◌&&◌, ◌||◌, not, List, [], ◌∷◌, ◌++◌, eqb, ltb, length, if◌then◌else◌}
use Rattle.rules.specs.Lists.{some}
use Rattle.rules.specs.Records.{member}
use Rattle.rules.specs.Request.{Request, size, conflicts_any, is_blocked}
use Rattle.rules.specs.Prices.{Prices}

-- how a search ends: at the entry that stands so far from the front; with no entry that qualifies; cut short
pub data End : Type 0 where
  found : ℕ → End
  nothing : End
  short : End

pub record Walk : Type 0 where
  pub looked : List Request
  pub end : End

-- "the first Blocked entry of this tenant that conflicts with no entry ahead of it"
abbrev pub qualifies : ℕ → List Request → Request → Bool
qualifies who ahead e = (eqb e.tenant who && is_blocked e.mode) && not (conflicts_any ahead e)

-- The search once it has looked at the entries ahead, with the fuel then left. "If the fuel left is below the next entry's
-- 1 + n, it stops before that entry"; the entry that it stops at "is looked at and paid for"; "If no entry qualifies it has
-- looked at them all".
unfoldable pub scan_walk : Prices → ℕ → ℕ → List Request → List Request → Walk
scan_walk p who fuel ahead [] = record { looked = ahead; end = nothing }
scan_walk p who fuel ahead (e ∷ es) =
    if ltb fuel (p.look (size e))
    then record { looked = ahead; end = short }
    else
    (if qualifies who ahead e
    then record { looked = ahead ++ e ∷ []; end = found (length ahead) }
    else scan_walk p who (fuel - p.look (size e)) (ahead ++ e ∷ []) es)

-- "two bit maps, one bit a record, of records written and read by the entries already looked at"
pub record Maps : Type 0 where
  pub written : ℕ → Bool
  pub read : ℕ → Bool

abbrev pub no_records : Maps
no_records = record { written = λ r. false; read = λ r. false }

abbrev pub mapped : Maps → Request → Maps
mapped m e = record {
  written = λ r. m.written r || member r e.writes;
  read = λ r. m.read r || member r e.reads;
}

-- the maps once the entries of a list have been looked at
unfoldable pub maps_over : Maps → List Request → Maps
maps_over m [] = m
maps_over m (e ∷ es) = maps_over (mapped m e) es

-- the three conditions of source document 002, 1.6: no read is in the map of written records, no write is in it, and no
-- write is in the map of read records
unfoldable pub clear_by : Maps → Request → Bool
clear_by m e =
    not (some m.written e.reads) && (not (some m.written e.writes) && not (some m.read e.writes))
