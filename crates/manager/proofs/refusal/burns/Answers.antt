-- The charged numbers are 3 to 11, and a dry tank pays nothing.
use Rattle.std.proofs.Common.{arith, rules, sym}
use Rattle.rules.specs.Prices.{clause9}
use Rattle.rules.proofs.Costly.{charge-low, charge-high, charge-unit, costly-between}
use Rattle.manager.proofs.refusal.burns.Goals as goal

pub returns-in-3-to-11 : goal.returns-in-3-to-11
returns-in-3-to-11 c =
    rw (← c.number.ensures)
    (omega (arith, c.min.ensures, charge-unit clause9 c.args.fuel c.number.result (costly-between c.number.result (search rules) (search rules))))

pub returns-in_default : goal.returns-in_default
returns-in_default c = rw (← c.number.ensures) (sym (charge-low clause9 c.args.fuel c.number.result (search rules)))

pub returns-in_default-2 : goal.returns-in_default-2
returns-in_default-2 c = rw (← c.number.ensures) (sym (charge-high clause9 c.args.fuel c.number.result (search rules)))
