-- Each event's call: what the manager did of it is the law book's step.
use Rattle.rules.specs.declared.Kind.{Kind}
use Rattle.replay.proofs.Calls.{did_read}
use Rattle.replay.proofs.called.Goals as goal

pub returns-in-Open : goal.returns-in-Open
returns-in-Open c =
    did_read c.requires.read_at c.args.s Kind.Open c.in-Open.is (rw c.shares.ensures.result_value at c.«open».ensures)

pub returns-in-Grant : goal.returns-in-Grant
returns-in-Grant c = did_read c.requires.read_at c.args.s Kind.Grant c.in-Grant.is c.grant.ensures

pub returns-in-Begin : goal.returns-in-Begin
returns-in-Begin c =
    let d = rw (c.reads-reads.ensures.result_value, c.writes-writes.ensures.result_value) at c.begin.ensures in
    did_read c.requires.read_at c.args.s Kind.Begin c.in-Begin.is d

pub returns-in-Finish : goal.returns-in-Finish
returns-in-Finish c = did_read c.requires.read_at c.args.s Kind.Finish c.in-Finish.is c.finish.ensures

pub returns-in-Recheck : goal.returns-in-Recheck
returns-in-Recheck c = did_read c.requires.read_at c.args.s Kind.Recheck c.in-Recheck.is c.recheck.ensures

pub returns-in-Scan : goal.returns-in-Scan
returns-in-Scan c = did_read c.requires.read_at c.args.s Kind.Scan c.in-Scan.is c.scan.ensures

pub returns-in-Pick : goal.returns-in-Pick
returns-in-Pick c = did_read c.requires.read_at c.args.s Kind.Pick c.in-Pick.is c.pick.ensures

pub returns-in-Deliver : goal.returns-in-Deliver
returns-in-Deliver c = did_read c.requires.read_at c.args.s Kind.Deliver c.in-Deliver.is c.deliver.ensures

pub returns-in-Evict : goal.returns-in-Evict
returns-in-Evict c = did_read c.requires.read_at c.args.s Kind.Evict c.in-Evict.is c.evict.ensures

pub returns-in-Cancel : goal.returns-in-Cancel
returns-in-Cancel c = did_read c.requires.read_at c.args.s Kind.Cancel c.in-Cancel.is c.cancel.ensures
