use Rattle.std.proofs.Common.{◌≡◌, sym, ℕ, true, Option, Some, None, ok_or}
use Rattle.rules.specs.declared.Refusal.TheVariants.{Absent}
use Rattle.rules.specs.Table.{Table, is_tenant}
use Rattle.rules.specs.Refusals.{first_of, stands_at, evict_rows}
use Rattle.rules.proofs.Refusals.{stranger}
use Rattle.manager.specs.State.{view}
use Rattle.manager.specs.Rows.{RefusedOr}
use Rattle.manager.specs.Deeds.{FoundAt}
use Rattle.manager.proofs.Judging.{present}
use Rattle.manager.proofs.evict.judged.Goals as goal

pub returns-then-not-is_tenant : goal.returns-then-not-is_tenant
unfolding evict_rows
returns-then-not-is_tenant c = stranger c.args.who _ (sym c.if-not-is_tenant.ensures)

-- a tenant's entry is there, or it is absent
by-place : (t : Table) (who serial : ℕ) → is_tenant who ≡ true → (r : Option ℕ) → FoundAt t.queue who serial r → RefusedOr (evict_rows t who serial) (λ at. at ≡ stands_at who serial t.queue) (ok_or r Absent)
unfolding evict_rows first_of
by-place t who serial one (Some at) f = (simp (one, present t.queue who serial f), f.0)
by-place t who serial one None f = simp (one, f)

pub returns : goal.returns
returns c =
    rw c.ok_or.ensures.value
    (by-place (view c.args.s.now) c.args.who c.args.serial (sym c.if-not-is_tenant.ensures) c.place_of.result c.place_of.ensures)
