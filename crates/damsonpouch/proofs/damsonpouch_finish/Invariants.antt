-- What a Finish does to a table.
use Rattle.rules.specs.Prices.{prices_of}
use Rattle.rules.specs.Calls.{finish_of}
use Rattle.damsonpouch.specs.contracts.fn.damsonpouch_finish.on as closure
use Rattle.damsonpouch.proofs.damsonpouch_finish.Given as goal

abbrev pub ghost-on : goal.ghost-on
ghost-on a = λ t. finish_of (prices_of t) t (closure.captures a.call).tenant (closure.captures a.call).serial
