-- On the state of a sound block the call is made, and what came of it is stored.
use Rattle.block.proofs.Telling.{part-holds}
use Rattle.damsonpouch.proofs.Linking.{block-whole, sound-linked}
use Rattle.damsonpouch.proofs.damsonpouch_begin.Goals as goal

pub stored-requires-clause-b_len : goal.stored-requires-clause-b_len
stored-requires-clause-b_len c = block-whole (part-holds c.sound.ensures c.if-not-sound.false)

pub returns : goal.returns
returns c = sound-linked _ c.state-s.ensures c.begin.ensures c.stored.ensures.b_after c.stored.ensures.value
