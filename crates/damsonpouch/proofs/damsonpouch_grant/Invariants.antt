-- What a Grant does to a table.
use Rattle.rules.specs.Calls.{grant_of}
use Rattle.damsonpouch.specs.contracts.fn.damsonpouch_grant.on as closure
use Rattle.damsonpouch.proofs.damsonpouch_grant.Given as goal

abbrev pub ghost-on : goal.ghost-on
ghost-on a = λ t. grant_of t (closure.captures a.call).tenant (closure.captures a.call).amount
