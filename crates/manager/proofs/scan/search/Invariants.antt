-- The walk of the law book goes on from the entry that the loop has reached; until the loop is left, the state has not moved.
use Rattle.std.proofs.Common.{◌≡◌}
use Rattle.rules.specs.declared.Answer.TheVariants.{Nothing}
use Rattle.manager.specs.State.{view}
use Rattle.manager.proofs.Slots.{Slotted}
use Rattle.manager.proofs.Walking.{Walking}
use Rattle.manager.proofs.scan.search.Given as goal

abbrev pub invariant-loop-i : goal.invariant-loop-i
invariant-loop-i l = record {
  walking : Walking l.who l.initial.left (view l.n).queue l.i l.left l.burnt l.ahead;
  still : l.n ≡ l.fn.n;
  slots : Slotted l.n;
  quiet : l.answer ≡ Nothing;
}
