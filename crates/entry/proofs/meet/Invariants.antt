-- No record looked at stands in both lists, so those that are left decide.
use Rattle.std.proofs.Common.{◌≡◌, false, drop}
use Rattle.rules.specs.Records.{member, meets}
use Rattle.entry.proofs.meet.Given as goal

abbrev pub invariant-loop-y : goal.invariant-loop-y
invariant-loop-y l = (l.met ≡ false) × (member l.x l.ys ≡ member l.x (drop l.y-index l.ys))

abbrev pub invariant-pairs : goal.invariant-pairs
invariant-pairs l = (l.met ≡ false) × (meets l.xs l.ys ≡ meets (drop l.x-index l.xs) l.ys)
