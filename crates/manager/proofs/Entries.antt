-- Entries that join, change and leave: the counters and the slots go with the list of requests.
use Prim.Native.Nat.{ℕ, ◌<◌}
use mathlib.Core.Path.{◌≡◌, refl, sym, ap, subst, ◌∙◌}
use mathlib.Core.List.{List, [], ◌∷◌, ◌++◌, map}
use native.Mathlib.Omega.{arith}
use lib.ListN.{length, get_or, set}
use Rattle.rules.specs.Records.{member, Stored}
use Rattle.rules.specs.Request.{Request, nobody, promoted, delivered}
use Rattle.rules.specs.Table.{with_queue}
use Rattle.rules.specs.Calls.{without_entry, with_entry, named}
use Rattle.rules.proofs.Lists.{count_set}
use Rattle.rules.proofs.Requests.{delivered-as}
use Rattle.meter.specs.declared.Meter.{Meter}
use Rattle.meter.specs.View.{meter_view}
use Rattle.entry.specs.declared.Entry.{Entry}
use Rattle.entry.specs.Entry.{blank, request, Stands}
use Rattle.counters.specs.Counters.{Raised, Stocked, Counts, Marks}
use Rattle.counters.proofs.Laws.{counts-raised, counts-stocked, counts-lowered}
use Rattle.queue.specs.Queue.{Queue, Holds}
use Rattle.queue.proofs.Views.{requests-length, request-at, replaced-holds}
use Rattle.manager.specs.declared.Said.{Said}
use Rattle.manager.specs.declared.State.{State}
use Rattle.manager.specs.State.{view, Tied, Becomes}
use Rattle.manager.proofs.Slots.{Slotted}

-- the same records read and written
pub record SameLists (a b : Request) : Type 0 where
  pub reads : b.reads ≡ a.reads
  pub writes : b.writes ≡ a.writes

pub promoted-lists : (e : Request) → SameLists e (promoted e)
unfolding promoted
promoted-lists e = record { reads = refl; writes = refl }

pub delivered-lists : (e : Request) → SameLists e (delivered e)
delivered-lists e = record { reads = ap (λ (a : Request). a.reads) (delivered-as e); writes = ap (λ (a : Request). a.writes) (delivered-as e) }

-- the counters of a list of requests, and the maps of those above 0
pub record Counted (l : List Request) (x y v w : List ℕ) : Type 0 where
  pub writers : Counts (λ e. e.writes) x l
  pub readers : Counts (λ e. e.reads) y l
  pub written : Marks v x
  pub read : Marks w y

-- a state whose queue holds another list
pub queue-becomes : {x y v w : List ℕ} {q : Queue} {l : List Request} {said : Said} (ms : List Meter) → Holds l q → Counted l x y v w → Becomes (record { meters = map meter_view ms; queue = l }) (record { cx = x; cs = y; maps = record { written = v; read = w }; meters = ms; count = q.count; entries = q.entries; said = said })
queue-becomes {x} {y} {v} {w} {q} {l} {said} ms h c = record {
  is = ap (λ (t : List Request). record { meters = map meter_view ms; queue = t }) h.list;
  tied = record { writers = subst (Counts (λ e. e.writes) x) (sym h.list) c.writers; readers = subst (Counts (λ e. e.reads) y) (sym h.list) c.readers; written = c.written; read = c.read; neat = h.neat };
}

module _ {s : State} (t : Tied s) where
  -- an entry joins the back
  pub joins-becomes : {x y v w : List ℕ} {q : Queue} {said : Said} (ms : List Meter) (e : Request) → Stored e.reads e.writes → Raised s.cx e.writes x → Raised s.cs e.reads y → Marks v x → Marks w y → Holds ((view s).queue ++ e ∷ []) q → Becomes (record { meters = map meter_view ms; queue = (view s).queue ++ e ∷ [] }) (record { cx = x; cs = y; maps = record { written = v; read = w }; meters = ms; count = q.count; entries = q.entries; said = said })
  joins-becomes ms e f x y written read h =
      queue-becomes ms h (record {
        writers = counts-raised (λ a. a.writes) e f.writes-rise t.writers x;
        readers = counts-raised (λ a. a.reads) e f.reads-rise t.readers y;
        written = written;
        read = read;
      })

  module _ (i : ℕ) (there : i < length (view s).queue) where
    -- an entry leaves
    module _ (f : Stored (get_or (view s).queue i nobody).reads (get_or (view s).queue i nobody).writes) where
      pub writes-stocked : Stocked s.cx (get_or (view s).queue i nobody).writes
      writes-stocked = counts-stocked (λ a. a.writes) i there f.writes-rise t.writers

      pub reads-stocked : Stocked s.cs (get_or (view s).queue i nobody).reads
      reads-stocked = counts-stocked (λ a. a.reads) i there f.reads-rise t.readers

      pub leaves-becomes : {x y v w : List ℕ} {q : Queue} {said : Said} → Raised x (get_or (view s).queue i nobody).writes s.cx → Raised y (get_or (view s).queue i nobody).reads s.cs → Marks v x → Marks w y → Holds (without_entry i (view s).queue) q → Becomes (with_queue (view s) (without_entry i (view s).queue)) (record { cx = x; cs = y; maps = record { written = v; read = w }; meters = s.meters; count = q.count; entries = q.entries; said = said })
      leaves-becomes x y written read h =
          queue-becomes s.meters h (record {
            writers = counts-lowered (λ a. a.writes) i there f.writes-rise t.writers x;
            readers = counts-lowered (λ a. a.reads) i there f.reads-rise t.readers y;
            written = written;
            read = read;
          })

    -- an entry is changed, its lists the same
    still-counts : (of : Request → List ℕ) {c : List ℕ} (e : Request) → of e ≡ of (get_or (view s).queue i nobody) → Counts of c (view s).queue → Counts of c (set (view s).queue i e)
    still-counts of {c} e same n = record {
      each = λ k b. n.each k b ∙ sym (count_set (λ (a : Request). member k (of a)) (view s).queue i e nobody (ap (member k) same));
    }

    pub changed-becomes : {q : Queue} {said : Said} (e : Request) → SameLists (get_or (view s).queue i nobody) e → Holds (set (view s).queue i e) q → Becomes (with_entry (view s) i e) (record { cx = s.cx; cs = s.cs; maps = s.maps; meters = s.meters; count = q.count; entries = q.entries; said = said })
    changed-becomes e same h =
        queue-becomes s.meters h (record {
          writers = still-counts (λ a. a.writes) e same.writes t.writers;
          readers = still-counts (λ a. a.reads) e same.reads t.readers;
          written = t.written;
          read = t.read;
        })

-- the entry of a slot is changed to what the law book makes of it, and is named so
module _ {s : State} (t : Tied s) (k : Slotted s) (make : Request → Request) (same : (e : Request) → SameLists e (make e)) {i : ℕ} (inside : i < s.count) {p : Entry} (h : Stands (make (request (get_or s.entries i blank))) p) where
  now-is : request p ≡ make (get_or (view s).queue i nobody)
  now-is = h.is ∙ ap make (sym (request-at k.slots inside))

  pub makes-becomes : (said : Said) → Becomes (with_entry (view s) i (make (get_or (view s).queue i nobody))) (record { cx = s.cx; cs = s.cs; maps = s.maps; meters = s.meters; count = s.count; entries = set s.entries i p; said = said })
  makes-becomes said =
      let was = get_or (view s).queue i nobody in
      let there : i < length (view s).queue = omega (arith, requests-length k.slots) in
      changed-becomes t i there (make was) (same was) (rw now-is at (replaced-holds k.slots i p inside h.tidy))

  pub makes-named : named (request p) ≡ named (make (get_or (view s).queue i nobody))
  makes-named = ap named now-is
