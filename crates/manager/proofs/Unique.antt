-- The view of a sound state and what it says are all of it, so any two results that a contract allows are equal.
use Prim.Native.Nat.{ℕ, zero, suc, ◌-◌, ◌≤◌, ◌<◌}
use mathlib.Core.Path.{◌≡◌, refl, sym, ap, subst, ◌∙◌}
use mathlib.Core.List.{List, [], ◌∷◌, ◌++◌, map}
use native.Mathlib.Nat.{not-suc-le-zero}
use native.Mathlib.Omega.{arith}
use lib.ListN.{length, get_or, take, drop, replicate, take-append-drop}
use lib.Seq.{ext_get_or, length-take-le}
use Rattle.rules.specs.Request.{Request}
use Rattle.rules.specs.Table.{Meter as LawMeter, Table}
use Rattle.rules.specs.Calls.{Outcome}
use Rattle.meter.specs.declared.Meter.{Meter}
use Rattle.meter.specs.View.{meter_view}
use Rattle.entry.specs.declared.Entry.{Entry}
use Rattle.entry.specs.Entry.{request, no_entry, blank, Tidy}
use Rattle.counters.specs.Counters.{Counts, Marks}
use Rattle.counters.proofs.Marks.{marks-unique}
use Rattle.queue.specs.Queue.{Queue, requests}
use Rattle.queue.proofs.Views.{requests-length}
use Rattle.manager.specs.declared.State.{State}
use Rattle.manager.specs.State.{queue_of, view}
use Rattle.manager.specs.Tight.{SoundValue, ViewTells, Allowed, OneResult}

-- ---- the meters, read back from the table's
abbrev meter_back : LawMeter → Meter
meter_back m = record { fuel = m.fuel; serials = m.serials; share = m.share }

meters-back : (ms : List Meter) → map meter_back (map meter_view ms) ≡ ms
meters-back [] = refl
meters-back (m ∷ ms) = ap (λ (t : List Meter). m ∷ t) (meters-back ms)

-- ---- an entry, read back from its request: the lists, and zero behind them
abbrev array_back : List ℕ → List ℕ
array_back xs = xs ++ replicate (8 - length xs) 0

abbrev entry_back : Request → Entry
entry_back e = record {
  tenant = e.tenant;
  serial = e.serial;
  mode = e.mode;
  awaited = e.awaited;
  due = e.due;
  nr = length e.reads;
  nw = length e.writes;
  reads = array_back e.reads;
  writes = array_back e.writes;
}

count-back : (n : ℕ) (xs : List ℕ) → length xs ≡ 8 → n ≤ 8 → length (take n xs) ≡ n
count-back n xs size few = length-take-le n xs (omega arith)

array_back_lem : (n : ℕ) (xs : List ℕ) → length xs ≡ 8 → n ≤ 8 → drop n xs ≡ replicate (8 - n) 0 → array_back (take n xs) ≡ xs
array_back_lem n xs size few rest =
    ap (λ (m : ℕ). take n xs ++ replicate (8 - m) 0) (count-back n xs size few) ∙ ap (λ (t : List ℕ). take n xs ++ t) (sym rest) ∙ take-append-drop n xs

-- an entry with other counts and arrays
abbrev refilled : Entry → ℕ → ℕ → List ℕ → List ℕ → Entry
refilled e nr nw reads writes = record {
  tenant = e.tenant;
  serial = e.serial;
  mode = e.mode;
  awaited = e.awaited;
  due = e.due;
  nr = nr;
  nw = nw;
  reads = reads;
  writes = writes;
}

entry-back : (e : Entry) → Tidy e → length e.reads ≡ 8 → length e.writes ≡ 8 → entry_back (request e) ≡ e
entry-back e t eight-reads eight-writes =
    let rs = array_back (take e.nr e.reads) in
    let ws = array_back (take e.nw e.writes) in
    let n = length (take e.nw e.writes) in
    ap (λ (m : ℕ). refilled e m n rs ws) (count-back e.nr e.reads eight-reads t.few-reads)
    ∙ ap (λ (m : ℕ). refilled e e.nr m rs ws) (count-back e.nw e.writes eight-writes t.few-writes)
    ∙ ap (λ (xs : List ℕ). refilled e e.nr e.nw xs ws) (array_back_lem e.nr e.reads eight-reads t.few-reads t.reads-rest)
    ∙ ap (λ (xs : List ℕ). refilled e e.nr e.nw e.reads xs) (array_back_lem e.nw e.writes eight-writes t.few-writes t.writes-rest)

entries-back : (n : ℕ) (es : List Entry) → n ≤ length es → ((i : ℕ) → i < n → let e = get_or es i blank in entry_back (request e) ≡ e) → map entry_back (map request (take n es)) ≡ take n es
entries-back zero es h all = refl
entries-back (suc n) [] h all = absurd (not-suc-le-zero h)
entries-back (suc n) (e ∷ es) h all =
    let rest = entries-back n es (omega arith) (λ i (lt : i < n). all (suc i) (omega arith)) in
    ap (λ (a : Entry). a ∷ map entry_back (map request (take n es))) (all 0 (omega arith)) ∙ ap (λ (t : List Entry). e ∷ t) rest

-- ---- the queue, read back from its list of requests: the entries, and unused slots behind them
abbrev queue_back : List Request → Queue
queue_back l = record { count = length l; entries = map entry_back l ++ replicate (64 - length l) no_entry }

queue-back : (s : State) → SoundValue s → queue_back (view s).queue ≡ queue_of s
queue-back s v =
    let q = queue_of s in
    let n = q.count in
    let neat = v.sound.tied.neat in
    let within : n ≤ length q.entries = omega (arith, v.sized.slots, neat.within) in
    let each : (i : ℕ) → i < n → let e = get_or q.entries i blank in entry_back (request e) ≡ e = λ i (lt : i < n).
    let slot : i < 64 = omega (arith, neat.within) in
    entry-back (get_or q.entries i blank) (neat.tidy i lt) (v.sized.reads i slot) (v.sized.writes i slot) in
    let front : map entry_back (requests q) ≡ take n q.entries = entries-back n q.entries within each in
    let whole : map entry_back (requests q) ++ replicate (64 - n) no_entry ≡ q.entries = ap (λ (t : List Entry). t ++ replicate (64 - n) no_entry) front ∙ ap (λ (t : List Entry). take n q.entries ++ t) (sym neat.rest) ∙ take-append-drop n q.entries in
    ap (λ (m : ℕ). record { count = m; entries = map entry_back (requests q) ++ replicate (64 - m) no_entry }) (requests-length (record { full = v.sized.slots; neat = neat })) ∙ ap (λ (es : List Entry). record { count = n; entries = es }) whole

-- ---- the counters: 256 that are the counts over one queue
counts-unique : (of : Request → List ℕ) (c d : List ℕ) (l : List Request) → length c ≡ 256 → length d ≡ 256 → Counts of c l → Counts of d l → c ≡ d
counts-unique of c d l m n x y =
    ext_get_or 0 c d (m ∙ sym n) (λ i (lt : i < length c). let small : i < 256 = omega arith in x.each i small ∙ sym (y.each i small))

-- ---- the state
pub view-injective : ViewTells
view-injective s u v w same words =
    let list : (view s).queue ≡ (view u).queue = ap (λ (t : Table). t.queue) same in
    let tied = v.sound.tied in
    let writers : s.cx ≡ u.cx = counts-unique (λ e. e.writes) s.cx u.cx (view u).queue v.sized.writers w.sized.writers (subst (Counts (λ e. e.writes) s.cx) list tied.writers) w.sound.tied.writers in
    let readers : s.cs ≡ u.cs = counts-unique (λ e. e.reads) s.cs u.cs (view u).queue v.sized.readers w.sized.readers (subst (Counts (λ e. e.reads) s.cs) list tied.readers) w.sound.tied.readers in
    let written : s.maps.written ≡ u.maps.written = marks-unique v.sized.written w.sized.written (subst (Marks s.maps.written) writers tied.written) w.sound.tied.written in
    let read : s.maps.read ≡ u.maps.read = marks-unique v.sized.read w.sized.read (subst (Marks s.maps.read) readers tied.read) w.sound.tied.read in
    let meters : s.meters ≡ u.meters = sym (meters-back s.meters) ∙ ap (λ (t : Table). map meter_back t.meters) same ∙ meters-back u.meters in
    let queue : queue_of s ≡ queue_of u = sym (queue-back s v) ∙ ap queue_back list ∙ queue-back u w in
    λ i. record { cx = writers i; cs = readers i; maps = record { written = written i; read = read i }; meters = meters i; count = (queue i).count; entries = (queue i).entries; said = words i }

-- ---- a result
did-unique : {o : Outcome} {r r' : State} → Allowed o r → Allowed o r' → r ≡ r'
did-unique {o} {r} {r'} a b =
    let answer : r.said.answer ≡ r'.said.answer = a.did.answer ∙ sym b.did.answer in
    let burnt : r.said.burnt ≡ r'.said.burnt = a.did.burnt ∙ sym b.did.burnt in
    let said : r.said ≡ r'.said = λ i. record { answer = answer i; burnt = burnt i } in
    view-injective r r' (record { sized = a.sized; sound = a.did.sound }) (record { sized = b.sized; sound = b.did.sound }) (a.did.table ∙ sym b.did.table) said

pub one-result : OneResult
one-result t c r r' = did-unique
