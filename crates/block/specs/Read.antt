-- What a state is that was read from a block, and its maps.
use Rattle.std.specs.Prelude.{◌≡◌, List, ℕ}
use Rattle.rules.specs.Request.{Request}
use Rattle.rules.specs.Clash.{written_in, read_in}
use Rattle.maps.specs.Maps.{in_map}
use Rattle.manager.specs.declared.State.{State}
use Rattle.manager.specs.State.{view, Sound}
use Rattle.block.specs.Block.{block_of}

-- a sound state whose block this is
pub record Holds (b : List ℕ) (s : State) : Type 0 where
  pub sound : Sound s
  pub is : b ≡ block_of (view s)

-- document 02, item 5: the maps "are rebuilt from the block, not stored": they have the records that the requests of a list write,
-- and that they read
pub record MapsOf (q : List Request) (w r : List ℕ) : Type 0 where
  pub written : (k : ℕ) → in_map w k ≡ written_in q k
  pub read : (k : ℕ) → in_map r k ≡ read_in q k
