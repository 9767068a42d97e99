-- A Recheck: what the counters tell of the entry, and the table once its tenant has paid.
use Rattle.std.specs.Prelude.{if◌then◌else◌}
use Prim.Native.Nat.{ℕ, ◌+◌, ◌-◌, ◌≤◌, ◌<◌}
use native.Mathlib.Omega.{arith}
use mathlib.Core.Path.{◌≡◌, refl, sym, ap, subst, ◌∙◌}
use mathlib.Core.Bool.{Bool, true, false, ◌&&◌}
use mathlib.Core.List.{List}
use lib.Dec.{eqb}
use lib.ListN.{length, get_or, set}
use Rattle.rules.specs.declared.Answer.{Answer}
use Rattle.rules.specs.declared.Answer.TheVariants.{Still}
use Rattle.rules.specs.Lists.{every}
use Rattle.rules.specs.Records.{member}
use Rattle.rules.specs.Request.{Request, nobody, size, promoted}
use Rattle.rules.specs.Table.{Meter as LawMeter, Table, is_tenant, meter_of, spent}
use Rattle.rules.specs.Prices.{clause9}
use Rattle.rules.specs.Refusals.{first_of, stands_at, is_absent, entry_of, recheck_rows}
use Rattle.rules.specs.Counters.{cx, cs, alone}
use Rattle.rules.specs.Calls.{with_entry, named, recheck_of}
use Rattle.rules.specs.Sound.{SoundTable}
use Rattle.rules.proofs.Refusals.{recheck-passes, here}
use Rattle.rules.proofs.Lists.{every_in}
use Rattle.rules.proofs.Keeps.{sound-burn}
use Rattle.rules.proofs.Sound.{recheck-sound}
use Rattle.meter.specs.declared.Meter.{Meter}
use Rattle.meter.specs.View.{meter_view, no_meter}
use Rattle.entry.specs.declared.Entry.{Entry}
use Rattle.entry.specs.Entry.{blank, request, Stands}
use Rattle.entry.proofs.Typed.{Lists, bytes_small}
use Rattle.counters.specs.Counters.{at as counter, Counts}
use Rattle.manager.specs.declared.State.{State}
use Rattle.manager.specs.State.{view, Sound, Becomes, Did}
use Rattle.manager.proofs.Views.{meter-view, pays}
use Rattle.manager.proofs.Done.{tenant-done}
use Rattle.manager.proofs.Slots.{Slotted, with_entries, used, own-lists}
use Rattle.manager.proofs.Entries.{promoted-lists, makes-becomes, makes-named}
use Rattle.manager.proofs.Rows.{entry-is}

-- ---- the verdict: the arrays say of an entry's records what the counts over the queue say
module _ {x y : List ℕ} {l : List Request} (w : Counts (λ a. a.writes) x l) (r : Counts (λ a. a.reads) y l) (e : Entry) (b : Lists e) where
  at_read : (k : ℕ) → member k (request e).reads ≡ true → counter x k ≡ cx l k
  at_read k m = w.each k (bytes_small e.nr b.reads k m)

  at-write : (k : ℕ) → member k (request e).writes ≡ true → (counter x k ≡ cx l k) × (counter y k ≡ cs l k)
  at-write k m = let small = bytes_small e.nw b.writes k m in (w.each k small, r.each k small)

  alone-told : alone (counter x) (counter y) (request e) ≡ alone (cx l) (cs l) (request e)
  unfolding alone
  alone-told =
      let p : every (λ k. eqb (counter x k) 0) (request e).reads ≡ every (λ k. eqb (cx l k) 0) (request e).reads = every_in (request e).reads (λ k m. ap (λ (n : ℕ). eqb n 0) (at_read k m)) in
      let q : every (λ k. eqb (counter x k) 1 && eqb (counter y k) 0) (request e).writes ≡ every (λ k. eqb (cx l k) 1 && eqb (cs l k) 0) (request e).writes = every_in (request e).writes (λ k m. let h = at-write k m in cc (h.0, h.1)) in
      cc (p, q)

-- ---- the table
abbrev pub clear : Table → ℕ → ℕ → Bool
clear t who serial = alone (cx t.queue) (cs t.queue) (entry_of who serial t.queue)

-- the table with the entry promoted where it is clear
abbrev pub turned : Table → ℕ → ℕ → Table
turned t who serial =
    if clear t who serial then with_entry t (stands_at who serial t.queue) (promoted (entry_of who serial t.queue)) else t

-- the state once the counters were asked, and the answer
pub record Turned (s : State) (who serial : ℕ) (n : State) (answer : Answer) : Type 0 where
  pub state : Becomes (turned (view s) who serial) n
  pub says : answer ≡ (if clear (view s) who serial then named (promoted (entry_of who serial (view s).queue)) else Still)
  pub meters : n.meters ≡ s.meters

module _ {s : State} (h : Sound s) (k : Slotted s) (who serial : ℕ) {at : ℕ} (place : at ≡ stands_at who serial (view s).queue) (none : first_of (recheck_rows clause9 (view s) who serial) ≡ 0) where
  pub passes : (is_tenant who ≡ true) × (is_absent who serial (view s).queue ≡ false) × (1 + size (entry_of who serial (view s).queue) ≤ (meter_of (view s) who).fuel)
  passes = recheck-passes clause9 (view s) who serial none

  pub there : at < length (view s).queue
  there = omega (arith, here who serial (view s).queue passes.1)

  turned-sound : SoundTable (turned (view s) who serial)
  turned-sound = go (clear (view s) who serial) refl
    where
      go : (b : Bool) → clear (view s) who serial ≡ b → SoundTable (turned (view s) who serial)
      go true open-way = rw open-way (recheck-sound h.table who serial passes.1 open-way)
      go false no_way = rw no_way h.table

  entry : request (get_or s.entries at blank) ≡ entry_of who serial (view s).queue
  entry = entry-is k.slots who serial place (used k there)

  -- what the counters were asked
  module _ (verdict : Bool) (told : verdict ≡ alone (counter s.cx) (counter s.cs) (request (get_or s.entries at blank))) where
    is-clear : verdict ≡ clear (view s) who serial
    is-clear = told ∙ alone-told h.tied.writers h.tied.readers _ (own-lists k there) ∙ ap (alone _ _) entry

    pub turned_clear : verdict ≡ true → {p : Entry} {answer : Answer} → Stands (promoted (request (get_or s.entries at blank))) p → answer ≡ named (request p) → Turned s who serial (with_entries s (set s.entries at p)) answer
    turned_clear sure {p} stands says =
        let open-way : clear (view s) who serial ≡ true = sym is-clear ∙ sure in
        let made = makes-becomes h.tied k promoted promoted-lists (used k there) stands s.said in
        let moved : promoted (get_or (view s).queue at nobody) ≡ promoted (entry_of who serial (view s).queue) = ap (λ (i : ℕ). promoted (get_or (view s).queue i nobody)) place in
        record {
          state = rw open-way (subst (λ (i : ℕ). Becomes (with_entry (view s) i (promoted (get_or (view s).queue i nobody))) (with_entries s (set s.entries at p))) place made);
          says = rw open-way (says ∙ makes-named h.tied k promoted promoted-lists (used k there) stands ∙ ap named moved);
          meters = refl;
        }

    pub turned-still : verdict ≡ false → Turned s who serial s Still
    turned-still sure =
        let no_way : clear (view s) who serial ≡ false = sym is-clear ∙ sure in
        record { state = rw no_way (record { is = refl; tied = h.tied }); says = rw no_way refl; meters = refl }

  -- the tenant pays
  module _ {n : State} {answer : Answer} (o : Turned s who serial n answer) {price : ℕ} (cost : price ≡ 1 + size (entry_of who serial (view s).queue)) where
    own : meter_view (get_or n.meters (who - 1) no_meter) ≡ meter_of (view s) who
    own = ap (λ (ms : List Meter). meter_view (get_or ms (who - 1) no_meter)) o.meters ∙ meter-view s who

    pub affords : price ≤ (get_or n.meters (who - 1) no_meter).fuel
    affords = omega (arith, ap (λ (a : LawMeter). a.fuel) own, cost, passes.2)

    pub rechecks : (paid : Meter) → meter_view paid ≡ spent (meter_view (get_or n.meters (who - 1) no_meter)) price → Did (record { cx = n.cx; cs = n.cs; maps = n.maps; meters = set n.meters (who - 1) paid; count = n.count; entries = n.entries; said = record { answer = answer; burnt = price } }) (recheck_of clause9 (view s) who serial)
    unfolding recheck_of
    rechecks paid pays-it =
        let t = view s in
        let due = 1 + size (entry_of who serial t.queue) in
        tenant-done t who _ due (turned t who serial) _ none
        (sound-burn turned-sound who due passes.0)
        (pays o.state who due paid _ (pays-it ∙ ap (spent _) cost))
        o.says
        cost
