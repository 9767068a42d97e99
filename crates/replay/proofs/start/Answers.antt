-- An Open of 16 zeros.
use Rattle.std.proofs.Common.{◌∙◌}
use Rattle.replay.proofs.Stepping.{opened-none}
use Rattle.replay.proofs.start.Goals as goal

pub returns-clause-result_value : goal.returns-clause-result_value
returns-clause-result_value c = c.open.ensures.table ∙ opened-none
