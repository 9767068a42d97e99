-- What a Deliver does to a table.
use Rattle.rules.specs.Calls.{deliver_of}
use Rattle.damsonpouch.specs.contracts.fn.damsonpouch_deliver.on as closure
use Rattle.damsonpouch.proofs.damsonpouch_deliver.Given as goal

abbrev pub ghost-on : goal.ghost-on
ghost-on a = λ t. deliver_of t (closure.captures a.call).tenant (closure.captures a.call).serial
