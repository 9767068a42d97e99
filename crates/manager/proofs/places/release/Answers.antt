use Rattle.std.proofs.Common.{rules, arith}
use Rattle.manager.proofs.Leaving.{stocked-writes, stocked-reads, leaves}
use Rattle.manager.proofs.places.release.Goals as goal

pub lower-requires-clause-stocked : goal.lower-requires-clause-stocked
lower-requires-clause-stocked c = stocked-writes c.requires.tied (search rules) c.requires.at_in_bounds c.requires.stored c.writes.ensures.value

pub lower-requires-2-clause-stocked : goal.lower-requires-2-clause-stocked
lower-requires-2-clause-stocked c = stocked-reads c.requires.tied (search rules) c.requires.at_in_bounds c.requires.stored c.reads.ensures.value

pub returns : goal.returns
returns c =
    leaves c.requires.tied (search rules) c.requires.at_in_bounds c.requires.stored
    c.writes.ensures.value c.reads.ensures.value
    c.lower.ensures.raised c.lower-2.ensures.raised c.lower.ensures.marks_2 c.lower-2.ensures.marks_2
    c.copy_within.ensures.after (λ used. omega arith) c.empty.ensures
