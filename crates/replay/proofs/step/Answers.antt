-- The call with its line. The refusal's line and the end need no answer.
use Rattle.std.proofs.Common.{sym}
use Rattle.replay.proofs.Stepping.{step-called}
use Rattle.replay.proofs.step.Goals as goal

pub returns-in-Call : goal.returns-in-Call
returns-in-Call c =
    step-called c.args.s c.args.bytes.now c.args.at c.args.first c.args.number (sym c.in-Call.ensures) c.called-after.ensures c.left_in-left.ensures c.line_of.ensures
