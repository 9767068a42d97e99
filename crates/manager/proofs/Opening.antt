-- The meters of an opening, one share on at a time, and the fresh state.
use Prim.Native.Nat.{ℕ, ◌+◌, ◌≤◌, ◌<◌}
use mathlib.Core.Path.{◌≡◌, sym, ap, ◌∙◌}
use mathlib.Core.List.{List, [], ◌∷◌, ◌++◌, map, map-append}
use native.Mathlib.Numerals.{add-one}
use native.Mathlib.Omega.{arith}
use lib.ListN.{length, get_or, take, set, replicate, length-set}
use lib.Seq.{take-suc, take-suc-set, take_all}
use Rattle.rules.specs.Table.{new_meter, fresh}
use Rattle.meter.specs.declared.Meter.{Meter}
use Rattle.meter.specs.View.{meter_view}
use Rattle.maps.specs.Maps.{Empty}
use Rattle.counters.proofs.Laws.{counts-none}
use Rattle.counters.proofs.Marks.{marks-none}
use Rattle.entry.specs.declared.Entry.{Entry}
use Rattle.entry.specs.Entry.{no_entry}
use Rattle.queue.proofs.Views.{none-holds}
use Rattle.manager.specs.declared.Said.{Said}
use Rattle.manager.specs.State.{Becomes}
use Rattle.manager.proofs.Entries.{queue-becomes}

-- the first i meters are new ones of the first i shares
pub record Metered (i : ℕ) (shares : List ℕ) (all : List Meter) : Type 0 where
  pub whole : length all ≡ 16
  pub first : map meter_view (take i all) ≡ map new_meter (take i shares)

pub metered-more : {i : ℕ} {shares : List ℕ} {all : List Meter} → Metered i shares all → i < 16 → length shares ≡ 16 → (m : Meter) → meter_view m ≡ new_meter (get_or shares i 0) → Metered (i + 1) shares (set all i m)
metered-more {i} {shares} {all} h lt six m new =
    let b : i < length all = omega (arith, h.whole) in
    let k : i < length shares = omega arith in
    let left : take (i + 1) (set all i m) ≡ take i all ++ m ∷ [] = rw (add-one i) (take-suc-set all i m b) in
    let right : take (i + 1) shares ≡ take i shares ++ get_or shares i 0 ∷ [] = rw (add-one i) (take-suc shares i 0 k) in
    record {
      whole = simp length-set h.whole;
      first = ap (map meter_view) left ∙ map-append meter_view (take i all) (m ∷ []) ∙ cc (h.first, new) ∙ sym (map-append new_meter (take i shares) (get_or shares i 0 ∷ [])) ∙ ap (map new_meter) (sym right);
    }

pub metered-all : {i : ℕ} {shares : List ℕ} {all : List Meter} → Metered i shares all → 16 ≤ i → length shares ≡ 16 → map meter_view all ≡ map new_meter shares
metered-all {i} {shares} {all} h le six =
    let a : length all ≤ i = omega (arith, h.whole) in
    let b : length shares ≤ i = omega arith in
    ap (map meter_view) (sym (take_all i all a)) ∙ h.first ∙ ap (map new_meter) (take_all i shares b)

pub fresh-becomes : (shares : List ℕ) (all : List Meter) (unused : Entry) (said : Said) {v w : List ℕ} → Empty v → Empty w → map meter_view all ≡ map new_meter shares → unused ≡ no_entry → Becomes (fresh shares) (record { cx = replicate 256 0; cs = replicate 256 0; maps = record { written = v; read = w }; meters = all; count = 0; entries = replicate 64 unused; said = said })
unfolding fresh
fresh-becomes shares all unused said v w same e =
    rw (← same) (queue-becomes all (none-holds unused e) (record { writers = counts-none (λ a. a.writes); readers = counts-none (λ a. a.reads); written = marks-none v; read = marks-none w }))
