-- What a Pick does to a table.
use Rattle.rules.specs.Calls.{pick_of}
use Rattle.damsonpouch.proofs.damsonpouch_pick.Given as goal

abbrev pub ghost-on : goal.ghost-on
ghost-on a = pick_of
