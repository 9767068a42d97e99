-- Refused, with every share 0, or a fresh state of the shares.
use Rattle.std.proofs.Common.{ap, ◌∙◌}
use Rattle.rules.specs.declared.Answer.TheVariants.{Refused}
use Rattle.rules.specs.Calls.{open_of}
use Rattle.rules.proofs.Refusals.{open-passes}
use Rattle.rules.proofs.Sound.{fresh-sound, shut-sound}
use Rattle.manager.proofs.Done.{host-told, host-done}
use Rattle.manager.proofs.open.open.Goals as goal
use Rattle.manager.proofs.open.open.Goals.{in-Ok, in-Err}

pub returns : goal.returns
unfolding open_of
returns c = elim c.match-judged.branch [
  | in-Ok w ↦
      let fits = open-passes _ w.in-Ok.ensures.0 in
      let becomes = rw w.answer-is at c.fresh.ensures.becomes in
      let says = rw w.answer-is at c.fresh.ensures.answer_value in
      host-done _ _ w.in-Ok.ensures.0 (fresh-sound _ fits.0 fits.1) (rw w.in-Ok.ensures.1 at becomes) says.0 says.1
  | in-Err w ↦
      let becomes = rw w.answer-is at c.fresh.ensures.becomes in
      let says = rw w.answer-is at c.fresh.ensures.answer_value in
      host-told _ _ _ w.in-Err.why w.in-Err.ensures shut-sound becomes (says.0 ∙ ap Refused w.number.ensures) says.1
]
