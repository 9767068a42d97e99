-- The text stands behind the line's own, and what lay behind it stays.
use Rattle.std.proofs.Common.{rules, refl}
use Rattle.std.proofs.lemmas.Slice.{overwrites}
use Rattle.listing.proofs.Line.push.Goals as goal

pub returns : goal.returns
returns c = record { len = refl; is = search (rules, overwrites); rest = search (rules, overwrites) }
