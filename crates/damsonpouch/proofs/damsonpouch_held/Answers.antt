-- Of the state of a sound block the records are counted.
use Rattle.std.proofs.Common.{ap}
use Rattle.damsonpouch.specs.Reply.{held_reply}
use Rattle.damsonpouch.proofs.Linking.{sound-counted}
use Rattle.damsonpouch.proofs.damsonpouch_held.Goals as goal

pub returns : goal.returns
returns c = sound-counted c.state.ensures (ap held_reply c.held-t.ensures)
