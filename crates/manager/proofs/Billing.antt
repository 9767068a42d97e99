-- A refused tenant call: what it makes of the state.
use Prim.Native.Nat.{ℕ, ◌-◌}
use mathlib.Core.Path.{◌≡◌, refl, sym, ap, subst, ◌∙◌}
use mathlib.Core.Bool.{true}
use lib.ListN.{get_or, set}
use Rattle.rules.specs.declared.Answer.TheVariants.{Refused}
use Rattle.rules.specs.Table.{Meter as LawMeter, Table, is_tenant, meter_of, spent, burn}
use Rattle.rules.specs.Prices.{clause9, charge}
use Rattle.rules.specs.Sound.{SoundTable}
use Rattle.rules.proofs.Refusals.{free-of-charge}
use Rattle.rules.proofs.Keeps.{burn-none, sound-burn}
use Rattle.meter.specs.declared.Meter.{Meter}
use Rattle.meter.specs.View.{meter_view, no_meter}
use Rattle.manager.specs.declared.Said.{Said}
use Rattle.manager.specs.declared.State.{State}
use Rattle.manager.specs.State.{view, Sound, Becomes, Did}
use Rattle.manager.specs.Deeds.{refused_with}
use Rattle.manager.proofs.Views.{saying, still-becomes, meter-view, pays, did}

-- the state in which a tenant's meter is another, and something is said
abbrev pub metered : State → ℕ → Meter → Said → State
metered s who m said = record { cx = s.cx; cs = s.cs; maps = s.maps; meters = set s.meters (who - 1) m; count = s.count; entries = s.entries; said = said }

module _ {s : State} (h : Sound s) (who number : ℕ) where
  abbrev units : ℕ
  units = charge clause9 (meter_of (view s) who).fuel number

  -- a tenant has paid
  pub refused-pays : is_tenant who ≡ true → (m : Meter) (burnt : ℕ) → burnt ≡ charge clause9 (get_or s.meters (who - 1) no_meter).fuel number → meter_view m ≡ spent (meter_view (get_or s.meters (who - 1) no_meter)) burnt → Did (metered s who m (record { answer = Refused number; burnt = burnt })) (refused_with (view s) who number)
  refused-pays one m burnt is paid =
      let said : Said = record { answer = Refused number; burnt = burnt } in
      let cost : burnt ≡ units = is ∙ ap (λ (a : LawMeter). charge clause9 a.fuel number) (meter-view s who) in
      let here : Becomes (view s) s = record { is = refl; tied = h.tied } in
      did (sound-burn h.table who units one) (subst (λ (u : ℕ). Becomes (burn who u (view s)) (metered s who m said)) cost (pays here who burnt m said paid)) refl cost

  -- who is no tenant has nothing to pay
  pub refused-free : number ≡ 1 → Did (saying s (record { answer = Refused number; burnt = 0 })) (refused_with (view s) who number)
  refused-free first =
      let free : units ≡ 0 = rw first (free-of-charge clause9 (meter_of (view s) who).fuel) in
      let same : burn who units (view s) ≡ view s = rw free (burn-none who (view s)) in
      let said : Said = record { answer = Refused number; burnt = 0 } in
      did (subst SoundTable (sym same) h.table) (subst (λ (t : Table). Becomes t (saying s said)) (sym same) (still-becomes h.tied said)) refl (sym free)
