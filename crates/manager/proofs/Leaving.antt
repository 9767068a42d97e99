-- An entry that has left: what it makes of a Finish, of an eviction and of a cancel.
use Prim.Native.Nat.{ℕ, ◌+◌, ◌-◌, ◌<◌}
use mathlib.Core.Path.{◌≡◌, refl, sym, ap, subst, ◌∙◌}
use mathlib.Core.Bool.{false}
use mathlib.Core.List.{List}
use native.Mathlib.Omega.{arith}
use lib.ListN.{length, get_or, drop, set}
use lib.Seq.{paste}
use Rattle.rules.specs.declared.Answer.TheVariants.{Done}
use Rattle.rules.specs.Records.{Stored}
use Rattle.rules.specs.Request.{Request, nobody}
use Rattle.rules.specs.Table.{Table, meter_of, spent}
use Rattle.rules.specs.Prices.{clause9}
use Rattle.rules.specs.Refusals.{first_of, stands_at, is_absent, finish_rows, evict_rows, cancel_rows}
use Rattle.rules.specs.Calls.{gone, finish_of, evict_of, cancel_of}
use Rattle.rules.specs.Sound.{SoundTable}
use Rattle.rules.proofs.Refusals.{finish-passes, evict-passes, cancel-passes, here}
use Rattle.rules.proofs.Order.{each_at}
use Rattle.rules.proofs.Keeps.{burn-none, sound-burn}
use Rattle.rules.proofs.Sound.{gone-sound}
use Rattle.meter.specs.declared.Meter.{Meter}
use Rattle.meter.specs.View.{meter_view}
use Rattle.entry.specs.declared.Entry.{Entry}
use Rattle.entry.specs.Entry.{request, no_entry, blank}
use Rattle.counters.specs.Counters.{Raised, Stocked, Marks}
use Rattle.queue.proofs.Views.{Slots, requests-length, request-at, removed-holds}
use Rattle.manager.specs.declared.State.{State}
use Rattle.manager.specs.State.{queue_of, view, Tied, Sound, Becomes, Did}
use Rattle.manager.specs.Deeds.{Gone}
use Rattle.manager.proofs.Done.{host-done, tenant-done}
use Rattle.manager.proofs.Views.{meter-becomes}
use Rattle.manager.proofs.Entries.{writes-stocked, reads-stocked, leaves-becomes}

-- ---- the state that it leaves: 64 slots, and an entry at the place
module _ {s : State} (t : Tied s) (full : length s.entries ≡ 64) {at : ℕ} (there : at < length (view s).queue) (stored : Stored (get_or (view s).queue at nobody).reads (get_or (view s).queue at nobody).writes) where
  slots : Slots (queue_of s)
  slots = record { full = full; neat = t.neat }

  used : at < s.count
  used = omega (arith, requests-length slots)

  own-writes : (request (get_or s.entries at blank)).writes ≡ (get_or (view s).queue at nobody).writes
  own-writes = ap (λ (e : Request). e.writes) (sym (request-at slots used))

  own-reads : (request (get_or s.entries at blank)).reads ≡ (get_or (view s).queue at nobody).reads
  own-reads = ap (λ (e : Request). e.reads) (sym (request-at slots used))

  -- the counters hold as much as is taken at its records
  pub stocked-writes : {ws : List ℕ} → ws ≡ (request (get_or s.entries at blank)).writes → Stocked s.cx ws
  stocked-writes is = subst (Stocked s.cx) (sym (is ∙ own-writes)) (writes-stocked t at there stored)

  pub stocked-reads : {rs : List ℕ} → rs ≡ (request (get_or s.entries at blank)).reads → Stocked s.cs rs
  stocked-reads is = subst (Stocked s.cs) (sym (is ∙ own-reads)) (reads-stocked t at there stored)

  -- n entries behind the place were moved up: all that there are
  pub leaves : {x y v w ws rs : List ℕ} {next : List Entry} {n : ℕ} {z : Entry} {burnt : ℕ} → ws ≡ (request (get_or s.entries at blank)).writes → rs ≡ (request (get_or s.entries at blank)).reads → Raised x ws s.cx → Raised y rs s.cs → Marks v x → Marks w y → next ≡ paste s.entries at (drop (at + 1) s.entries) n → (at < s.count → n ≡ s.count - (at + 1)) → z ≡ no_entry → Gone s at burnt (record { cx = x; cs = y; maps = record { written = v; read = w }; meters = s.meters; count = s.count - 1; entries = set next (s.count - 1) z; said = record { answer = Done; burnt = burnt } })
  leaves {x} {y} ws rs writers readers written read moved all z = rw z
      (record {
        state =
            leaves-becomes t at there stored
            (subst (λ l. Raised x l s.cx) (ws ∙ own-writes) writers)
            (subst (λ l. Raised y l s.cs) (rs ∙ own-reads) readers)
            written read
            (removed-holds slots (omega (arith, used)) (omega (arith, used)) (moved ∙ ap (paste s.entries at (drop (at + 1) s.entries)) (all used)));
        answer = refl;
        burnt = refl;
      })

-- ---- what is made of the call
module _ {s : State} (h : Sound s) (who serial : ℕ) {at : ℕ} (place : at ≡ stands_at who serial (view s).queue) (there : is_absent who serial (view s).queue ≡ false) where
  pub inside : at < length (view s).queue
  inside = omega (arith, place, here who serial (view s).queue there)

  pub formed : Stored (get_or (view s).queue at nobody).reads (get_or (view s).queue at nobody).writes
  formed = (each_at h.table.entries at nobody inside).lists

-- the state once a tenant has paid
abbrev pub paying : State → ℕ → Meter → State
paying s who m = record { cx = s.cx; cs = s.cs; maps = s.maps; meters = set s.meters (who - 1) m; count = s.count; entries = s.entries; said = s.said }

-- the table that the entry has left
left : {s r : State} (who serial : ℕ) {at units : ℕ} → at ≡ stands_at who serial (view s).queue → Gone s at units r → Becomes (gone (view s) who serial) r
left who serial place g = rw place at g.state

module _ {s r : State} (h : Sound s) (who serial : ℕ) {at : ℕ} (place : at ≡ stands_at who serial (view s).queue) where
  pub finish-did : first_of (finish_rows (view s) who serial) ≡ 0 → Gone s at 0 r → Did r (finish_of clause9 (view s) who serial)
  unfolding finish_of
  finish-did none g =
      let t = view s in
      let same = sym (burn-none who (gone t who serial)) in
      tenant-done t who _ 0 (gone t who serial) Done none
      (subst SoundTable same (gone-sound h.table who serial (finish-passes t who serial none).1))
      (subst (λ (d : Table). Becomes d r) same (left who serial place g))
      g.answer
      g.burnt

  pub evict-did : first_of (evict_rows (view s) who serial) ≡ 0 → Gone s at 0 r → Did r (evict_of (view s) who serial)
  unfolding evict_of
  evict-did none g = host-done (view s) _ none (gone-sound h.table who serial (evict-passes (view s) who serial none).1) (left who serial place g) g.answer g.burnt

  pub cancel-did : first_of (cancel_rows (view s) who serial) ≡ 0 → (m : Meter) → meter_view m ≡ spent (meter_of (view s) who) 1 → Gone (paying s who m) at 1 r → Did r (cancel_of clause9 (view s) who serial)
  unfolding cancel_of
  cancel-did none m pays g =
      let t = view s in
      let may = cancel-passes t who serial none in
      let paid = rw pays at (meter-becomes h.tied who m s.said) in
      tenant-done t who _ 1 (gone t who serial) Done none
      (sound-burn (gone-sound h.table who serial may.there) who 1 may.tenant)
      (subst (λ (u : Table). Becomes (gone u who serial) r) paid.is (left who serial place g))
      g.answer
      g.burnt
