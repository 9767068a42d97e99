-- What a refused call writes to a sound block: the caller's fuel, and nothing else; nothing at all where no tenant called. Refusal 14
-- is Open's, which writes a fresh state.
use Rattle.std.specs.Prelude.{ℕ, ◌+◌, ◌-◌, ◌*◌, ◌≤◌, ◌<◌, ◌≡◌, true, false, List, ◌⊎◌, eqb, get_or}
use Rattle.rules.specs.Table.{is_tenant}
use Rattle.rules.specs.Runs.{Call, is_open, caller_of}
use Rattle.block.specs.Block.{SoundBlock}
use Rattle.damsonpouch.specs.declared.Reply.{Reply}
use Rattle.damsonpouch.specs.Linked.{Linked}
use Rattle.damsonpouch.specs.Stretches.{Has}

-- where the four bytes of a tenant's fuel begin
abbrev pub fuel_at : ℕ → ℕ
fuel_at who = 22 + (who - 1) * 6

pub record Wrote (who : ℕ) (before after : List ℕ) : Type 0 where
  pub fuel-alone : is_tenant who ≡ true → (i : ℕ) → (i < fuel_at who) ⊎ (fuel_at who + 4 ≤ i) → get_or after i 0 ≡ get_or before i 0
  pub nothing : is_tenant who ≡ false → after ≡ before

abbrev pub RefusedWrites : Type 0
RefusedWrites =
    (c : Call) (before after : List ℕ) (r : Reply) →
    is_open c ≡ false →
    SoundBlock before →
    Linked (Has c) before after r →
    eqb r.number 0 ≡ false →
    Wrote (caller_of c) before after
