-- What an Evict does to a table.
use Rattle.rules.specs.Calls.{evict_of}
use Rattle.damsonpouch.specs.contracts.fn.damsonpouch_evict.on as closure
use Rattle.damsonpouch.proofs.damsonpouch_evict.Given as goal

abbrev pub ghost-on : goal.ghost-on
ghost-on a = λ t. evict_of t (closure.captures a.call).tenant (closure.captures a.call).serial
