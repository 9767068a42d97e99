-- The ones of a word are its bits that are set.
use lib.Count.{ones-le}
use Rattle.maps.proofs.Words.{ones-counted}
use Rattle.maps.proofs.bits.Goals as goal

pub returns : goal.returns
returns c = record { few = ones-le 64 c.args.w c.ranges.w.fits; is = ones-counted 64 c.args.w c.ranges.w.fits }
