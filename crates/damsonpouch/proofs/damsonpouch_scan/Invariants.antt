-- What a Scan does to a table.
use Rattle.rules.specs.Prices.{prices_of}
use Rattle.rules.specs.Calls.{scan_of}
use Rattle.damsonpouch.specs.contracts.fn.damsonpouch_scan.on as closure
use Rattle.damsonpouch.proofs.damsonpouch_scan.Given as goal

abbrev pub ghost-on : goal.ghost-on
ghost-on a = λ t. scan_of (prices_of t) t (closure.captures a.call).tenant
