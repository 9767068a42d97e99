-- Refused as things stand, or the tenant's meter has more fuel.
use Rattle.std.proofs.Common.{arith, refl, ap, ◌∙◌}
use Rattle.rules.specs.declared.Answer.TheVariants.{Ok}
use Rattle.rules.specs.Table.{Meter as LawMeter, granted}
use Rattle.rules.specs.Calls.{grant_of}
use Rattle.rules.proofs.Meters.{tenant-range}
use Rattle.rules.proofs.Refusals.{grant-passes}
use Rattle.rules.proofs.Sound.{grant-sound}
use Rattle.manager.specs.State.{view}
use Rattle.manager.proofs.Views.{meter-becomes, still-becomes}
use Rattle.manager.proofs.Done.{host-told, host-done}
use Rattle.manager.proofs.grant.grant.Goals as goal
use Rattle.manager.proofs.grant.grant.Goals.{in-Ok, in-Err}

pub granted-requires : goal.granted-requires
granted-requires c =
    let passed = grant-passes (view c.args.s) c.args.who c.args.amount c.in-Ok.ensures.0 in
    omega (arith, ap (λ (m : LawMeter). m.fuel) c.in-Ok.ensures.1, passed.1)

pub overflow_sub-who : goal.overflow_sub-who
overflow_sub-who c = (tenant-range c.args.who (grant-passes (view c.args.s) c.args.who c.args.amount c.in-Ok.ensures.0).0).0

pub bounds-n-who : goal.bounds-n-who
bounds-n-who c =
    let range = tenant-range c.args.who (grant-passes (view c.args.s) c.args.who c.args.amount c.in-Ok.ensures.0).0 in
    omega (arith, range.0, range.1)

pub returns : goal.returns
unfolding grant_of
returns c = elim c.match-judged.branch [
  | in-Ok w ↦
      let none = w.in-Ok.ensures.0 in
      let passed = grant-passes (view c.args.s) c.args.who c.args.amount none in
      let more = w.granted.ensures ∙ ap (λ (m : LawMeter). granted m c.args.amount) w.in-Ok.ensures.1 in
      rw (w.n-is, w.n2-is) (host-done (view c.args.s) _ none (grant-sound c.requires.table c.args.who c.args.amount passed.0 passed.1) (rw more at (meter-becomes c.requires.tied c.args.who w.granted.result (record { answer = Ok; burnt = 0 }))) refl refl)
  | in-Err w ↦
      rw (w.n-is, w.n2-is) (host-told (view c.args.s) _ _ w.in-Err.why w.in-Err.ensures c.requires.table (still-becomes c.requires.tied w.of_host-n.result) w.of_host-n.ensures.0 w.of_host-n.ensures.1)
]
