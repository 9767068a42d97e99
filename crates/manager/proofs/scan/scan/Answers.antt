-- The refusal of who pays is the law book's; else the search does it.
use Rattle.std.proofs.Common.{sym, ◌∙◌}
use Rattle.rules.specs.Refusals.{scan_rows}
use Rattle.rules.specs.Calls.{scan_of}
use Rattle.rules.proofs.Refusals.{stranger}
use Rattle.manager.proofs.Done.{tenant-refuses}
use Rattle.manager.proofs.scan.scan.Goals as goal

pub refuse-requires-clause-outsider : goal.refuse-requires-clause-outsider
unfolding scan_rows
refuse-requires-clause-outsider c outside = sym c.in-Err.ensures ∙ stranger c.args.who _ outside

pub returns-in-Err : goal.returns-in-Err
unfolding scan_of
returns-in-Err c = tenant-refuses _ _ _ _ _ c.in-Err.why c.in-Err.ensures c.refuse.ensures
