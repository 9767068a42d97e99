-- The header is a text.
use Rattle.std.proofs.Common.{arith}
use Rattle.listing.specs.Listing.{header_text}
use Rattle.listing.proofs.Lines.{written-first}
use Rattle.listing.proofs.header.Goals as goal

pub returns : goal.returns
unfolding header_text
returns c = written-first c.new-line.ensures c.push.ensures (omega arith)
