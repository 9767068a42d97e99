-- Below the trailing zeros no bit is set, and the one above them is.
use native.Mathlib.Omega.{arith}
use Rattle.maps.proofs.Words.{tz-bit, tz-below, tz-lt}
use Rattle.maps.proofs.low_bit.Goals as goal

pub overflow_cast-result : goal.overflow_cast-result
overflow_cast-result c = omega (arith, tz-lt 64 c.args.w c.requires c.ranges.w.fits)

pub returns : goal.returns
returns c = record { small = tz-lt 64 c.args.w c.requires c.ranges.w.fits; is = tz-bit 64 c.args.w c.requires c.ranges.w.fits; below = tz-below 64 c.args.w }
