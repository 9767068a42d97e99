-- No record of the words before i clashes.
use Rattle.std.proofs.Common.{◌*◌}
use Rattle.maps.specs.Maps.{clash_in}
use Rattle.maps.proofs.Records.{NoneBelow}
use Rattle.maps.proofs.Maps.lowest_clash.Given as goal

abbrev pub invariant-loop-i : goal.invariant-loop-i
invariant-loop-i l = NoneBelow (clash_in l.self.read l.self.written l.ahead.written l.ahead.read) (l.i * 64)
