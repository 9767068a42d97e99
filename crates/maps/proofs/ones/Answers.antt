-- The records of the map are those of its four words.
use native.Mathlib.Omega.{arith}
use Rattle.maps.proofs.Records.{all_words}
use Rattle.maps.proofs.ones.Goals as goal

pub returns : goal.returns
returns c =
    let w = all_words c.args.map in
    omega (arith, w)
