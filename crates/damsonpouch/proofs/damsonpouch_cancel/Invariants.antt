-- What a Cancel does to a table.
use Rattle.rules.specs.Prices.{prices_of}
use Rattle.rules.specs.Calls.{cancel_of}
use Rattle.damsonpouch.specs.contracts.fn.damsonpouch_cancel.on as closure
use Rattle.damsonpouch.proofs.damsonpouch_cancel.Given as goal

abbrev pub ghost-on : goal.ghost-on
ghost-on a = λ t. cancel_of (prices_of t) t (closure.captures a.call).tenant (closure.captures a.call).serial
