use Rattle.std.proofs.Common.{refl, ◌<◌, length, arith}
use Rattle.rules.specs.Calls.{deliver_of}
use Rattle.manager.specs.State.{view}
use Rattle.manager.proofs.Done.{host-refuses}
use Rattle.manager.proofs.Slots.{Slotted, slotted, used, below}
use Rattle.manager.proofs.Delivering.{there, is-due, delivers}
use Rattle.manager.proofs.deliver.deliver.Goals as goal
use Rattle.manager.proofs.deliver.deliver.Goals.{In-Ok}

slots : (c : In-Ok) → Slotted c.args.s
slots c = slotted c.args.s _ c.well_formed.0 c.requires.tied

inside : (c : In-Ok) → c.in-Ok.at < length (view c.args.s).queue
inside c = there c.requires (slots c) c.args.who c.args.serial c.in-Ok.ensures.1 c.in-Ok.ensures.0

pub offset_bounds-n-at : goal.offset_bounds-n-at
offset_bounds-n-at c = omega (arith, below (slots c) (inside c))

pub bounds-n-at : goal.bounds-n-at
bounds-n-at c = below (slots c) (inside c)

pub delivered-e-requires-clause-tidy : goal.delivered-e-requires-clause-tidy
delivered-e-requires-clause-tidy c = let at = (goal.at.delivered-e-requires-clause-tidy c).In-Ok in c.requires.tied.neat.tidy _ (used (slots at) (inside at))

pub delivered-e-requires-clause-due_nonzero : goal.delivered-e-requires-clause-due_nonzero
delivered-e-requires-clause-due_nonzero c =
    is-due c.requires (slots (goal.at.delivered-e-requires-clause-due_nonzero c).In-Ok) c.args.who c.args.serial c.in-Ok.ensures.1 c.in-Ok.ensures.0

pub offset_bounds-n-at-in-Ok : goal.offset_bounds-n-at-in-Ok
offset_bounds-n-at-in-Ok c = let at = (goal.at.offset_bounds-n-at-in-Ok c).In-Ok in omega (arith, below (slots at) (inside at))

pub bounds-n-at-in-Ok : goal.bounds-n-at-in-Ok
bounds-n-at-in-Ok c = let at = (goal.at.bounds-n-at-in-Ok c).In-Ok in below (slots at) (inside at)

pub returns-in-Ok : goal.returns-in-Ok
returns-in-Ok c =
    delivers c.requires (slots (goal.at.returns-in-Ok c).In-Ok) c.args.who c.args.serial c.in-Ok.ensures.1 c.in-Ok.ensures.0 c.delivered-e.ensures _ c.named.ensures refl

pub returns-in-Err : goal.returns-in-Err
unfolding deliver_of
returns-in-Err c = host-refuses c.requires _ _ c.in-Err.why c.in-Err.ensures c.of_host-n.ensures
