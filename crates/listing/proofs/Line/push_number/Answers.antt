-- The lowest digits are written, from the end on; what is written then goes behind the line.
use Rattle.std.proofs.Common.{refl, sym, arith}
use mathlib.Core.List.{append-nil}
use Rattle.listing.proofs.Decimal.{decimal-short}
use Rattle.listing.proofs.Ending.{ending-room, ending-more, ending-last}
use Rattle.listing.proofs.Line.push_number.Goals as goal

pub loop-high-init : goal.loop-high-init
loop-high-init c = record { whole = refl; within = omega arith; room = decimal-short c.args.n 9 (omega arith); is = sym (append-nil _) }

pub overflow_sub-at : goal.overflow_sub-at
overflow_sub-at c = omega (arith, ending-room c.loop-high.invariant)

pub loop-high-preserved : goal.loop-high-preserved
loop-high-preserved c = ending-more c.loop-high.invariant c.loop-high-test.true

pub overflow_sub-at-2 : goal.overflow_sub-at-2
overflow_sub-at-2 c = omega (arith, ending-room c.loop-high.invariant)

pub push-requires : goal.push-requires
push-requires c = rw (ending-last c.loop-high.invariant c.loop-high-test.false) c.requires

pub returns : goal.returns
returns c = rw (ending-last c.loop-high.invariant c.loop-high-test.false) at c.push.ensures
