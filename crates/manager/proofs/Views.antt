-- The state and its table: how a change of the one shows in the other.
use Prim.Native.Nat.{ℕ, ◌-◌}
use mathlib.Core.Path.{◌≡◌, refl, sym, ap, subst, ◌∙◌}
use mathlib.Core.List.{List}
use lib.ListN.{get_or, set, get_or-map}
use Rattle.rules.specs.Table.{Meter as LawMeter, Table, meter_of, with_meter, spent, burn}
use Rattle.rules.specs.Calls.{Outcome}
use Rattle.rules.specs.Sound.{SoundTable}
use Rattle.rules.proofs.Mapped.{map-set}
use Rattle.meter.specs.declared.Meter.{Meter}
use Rattle.meter.specs.View.{meter_view, no_meter}
use Rattle.manager.specs.declared.Said.{Said}
use Rattle.manager.specs.declared.State.{State}
use Rattle.manager.specs.State.{view, Tied, Sound, Becomes, Did}

-- the same state with other words
abbrev pub saying : State → Said → State
saying s said = record { cx = s.cx; cs = s.cs; maps = s.maps; meters = s.meters; count = s.count; entries = s.entries; said = said }

-- what is said is no part of the table
pub still-becomes : {s : State} → Tied s → (said : Said) → Becomes (view s) (saying s said)
still-becomes {s} t said = record {
  is = refl;
  tied = record { writers = t.writers; readers = t.readers; written = t.written; read = t.read; neat = t.neat };
}

-- the meter that the code reads is the table's
pub meter-view : (s : State) (who : ℕ) → meter_view (get_or s.meters (who - 1) no_meter) ≡ meter_of (view s) who
meter-view s who = sym (get_or-map meter_view s.meters (who - 1) no_meter)

-- another meter
pub meter-becomes : {s : State} → Tied s → (who : ℕ) (m : Meter) (said : Said) → Becomes (with_meter (view s) who (meter_view m)) (record { cx = s.cx; cs = s.cs; maps = s.maps; meters = set s.meters (who - 1) m; count = s.count; entries = s.entries; said = said })
meter-becomes {s} t who m said = record {
  is = ap (λ (ms : List LawMeter). record { meters = ms; queue = (view s).queue }) (map-set meter_view s.meters (who - 1) m);
  tied = record { writers = t.writers; readers = t.readers; written = t.written; read = t.read; neat = t.neat };
}

-- a tenant has paid
pub pays : {t : Table} {n : State} → Becomes t n → (who price : ℕ) (m : Meter) (said : Said) → meter_view m ≡ spent (meter_view (get_or n.meters (who - 1) no_meter)) price → Becomes (burn who price t) (record { cx = n.cx; cs = n.cs; maps = n.maps; meters = set n.meters (who - 1) m; count = n.count; entries = n.entries; said = said })
pays {t} {n} b who price m said is =
    let own : meter_view m ≡ spent (meter_of (view n) who) price = is ∙ ap (λ (a : LawMeter). spent a price) (meter-view n who) in
    rw (← b.is) (rw own at (meter-becomes b.tied who m said))

-- a state of a sound table is sound
pub becomes-sound : {t : Table} {s : State} → Becomes t s → SoundTable t → Sound s
becomes-sound {t} {s} b h = record { table = subst SoundTable (sym b.is) h; tied = b.tied }

-- a call that ends with a state of the law book's table, with its answer and what it burns, did it
pub did : {r : State} {o : Outcome} → SoundTable o.table → Becomes o.table r → r.said.answer ≡ o.answer → r.said.burnt ≡ o.burnt → Did r o
did h b answer burnt = record { sound = becomes-sound b h; table = b.is; answer = answer; burnt = burnt }
