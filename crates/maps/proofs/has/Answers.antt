-- The last bit of the shifted word is the bit that the map has for the record.
use Rattle.maps.specs.Maps.{in_map}
use Rattle.maps.proofs.Words.{low_bit}
use Rattle.maps.proofs.has.Goals as goal

pub returns : goal.returns
unfolding in_map
returns c = simp low_bit
