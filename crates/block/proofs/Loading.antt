-- A state that is read from a sound block: its slots hold the block's queue, its maps have the queue's records, and its table is
-- the block's.
use Prim.Native.Nat.{ℕ, ◌+◌, ◌-◌, ◌*◌, ◌≤◌, ◌<◌}
use mathlib.Core.Path.{◌≡◌, refl, sym, ap, subst, ◌∙◌}
use mathlib.Core.Bool.{Bool, ◌||◌}
use mathlib.Core.List.{List, [], ◌∷◌, ◌++◌, map}
use native.Mathlib.Omega.{arith}
use native.Mathlib.Numerals.{add-one}
use lib.ListN.{length, get_or, take, drop, set, replicate, length-drop, length-map, length-set, length-replicate}
use lib.Seq.{length-take-le, take-suc, take_all}
use Rattle.rules.specs.Lists.{some}
use Rattle.rules.specs.Records.{member}
use Rattle.rules.specs.Request.{Request, nobody}
use Rattle.rules.proofs.Tests.{or-false}
use Rattle.rules.proofs.Lists.{some-append}
use Rattle.maps.specs.Maps.{in_map, Empty, Grown}
use Rattle.entry.specs.declared.Entry.{Entry}
use Rattle.entry.specs.Entry.{request, no_entry, Stands}
use Rattle.queue.specs.Queue.{Holds as Slots}
use Rattle.queue.proofs.Views.{none-holds, pushed-holds}
use Rattle.rules.specs.Table.{Meter as LawMeter}
use Rattle.rules.specs.Counters.{cx, cs}
use Rattle.rules.specs.Sound.{SoundTable}
use Rattle.meter.specs.View.{meter_view}
use Rattle.manager.specs.declared.State.{State}
use Rattle.counters.specs.Counters.{Counts}
use Rattle.counters.proofs.Marks.{marks-from}
use Rattle.manager.specs.State.{queue_of, view}
use Rattle.block.specs.Block.{tab, block_of, SoundBlock}
use Rattle.block.specs.Clauses.{part, request_in, meters_in, count_in, row_at, rows_in, queue_in, table_in}
use Rattle.block.specs.Read.{Holds, MapsOf}
use Rattle.block.proofs.Places.{cut-part, tab-length, tab-get, map-tab}
use Rattle.block.proofs.Each.{each-tab}
use Rattle.block.proofs.Whole.{read_table}
use Rattle.block.proofs.Exact.{sound-clauses}

-- ---- slots that are filled one after the other: the first i requests of the list stand in them
pub record Slotted (l : List Request) (i : ℕ) (a : List Entry) : Type 0 where
  pub full : length a ≡ 64
  pub holds : Slots (take i l) (record { count = i; entries = a })

pub slotted-none : (l : List Request) {z : Entry} → z ≡ no_entry → Slotted l 0 (replicate 64 z)
slotted-none l {z} e = record { full = length-replicate 64 z; holds = none-holds z e }

pub slotted-more : (l : List Request) {i : ℕ} {a : List Entry} {e : Entry} → Slotted l i a → i < length l → i < 64 → Stands (get_or l i nobody) e → Slotted l (i + 1) (set a i e)
slotted-more l {i} {a} {e} s lt room stands =
    let next : take i l ++ request e ∷ [] ≡ take (i + 1) l = ap (λ (x : Request). take i l ++ x ∷ []) stands.is ∙ sym (take-suc l i nobody lt) ∙ ap (λ (k : ℕ). take k l) (sym (add-one i)) in
    let joined = pushed-holds (record { full = s.full; neat = s.holds.neat }) e room stands.tidy in
    record {
      full = length-set a i e ∙ s.full;
      holds = record { list = joined.list ∙ ap (λ (x : List Request). x ++ request e ∷ []) s.holds.list ∙ next; neat = joined.neat };
    }

pub slotted-all : (l : List Request) {i : ℕ} {a : List Entry} → Slotted l i a → i ≡ length l → Slots l (record { count = i; entries = a })
slotted-all l {i} {a} s all = subst (λ (x : List Request). Slots x (record { count = i; entries = a })) (take_all i l (omega arith)) s.holds

-- ---- maps that grow by one request after the other: they have the records of the first i
pub maps_none : {w r : List ℕ} → Empty w → Empty r → MapsOf [] w r
unfolding some
maps_none e f = record { written = e.each; read = f.each }

more-in : (of : Request → List ℕ) (l : List Request) (i : ℕ) {m next : List ℕ} → i < length l → ((k : ℕ) → in_map m k ≡ some (λ (a : Request). member k (of a)) (take i l)) → Grown m (of (get_or l i nobody)) next → (k : ℕ) → in_map next k ≡ some (λ (a : Request). member k (of a)) (take (i + 1) l)
unfolding some
more-in of l i {m} {next} lt is g k =
    let e = get_or l i nobody in
    let longer : take (i + 1) l ≡ take i l ++ e ∷ [] = ap (λ (n : ℕ). take n l) (add-one i) ∙ take-suc l i nobody lt in
    let last : some (λ (a : Request). member k (of a)) (take i l ++ e ∷ []) ≡ (some (λ (a : Request). member k (of a)) (take i l) || member k (of e)) = some-append (λ (a : Request). member k (of a)) (take i l) (e ∷ []) ∙ ap (λ (t : Bool). some (λ (a : Request). member k (of a)) (take i l) || t) (or-false (member k (of e))) in
    g.each k ∙ ap (λ (t : Bool). t || member k (of e)) (is k) ∙ sym last ∙ ap (some (λ (a : Request). member k (of a))) (sym longer)

pub maps-more : (l : List Request) (i : ℕ) {w r w' r' : List ℕ} → i < length l → MapsOf (take i l) w r → Grown w (get_or l i nobody).writes w' → Grown r (get_or l i nobody).reads r' → MapsOf (take (i + 1) l) w' r'
maps-more l i lt m g h = record { written = more-in (λ a. a.writes) l i lt m.written g; read = more-in (λ a. a.reads) l i lt m.read h }

pub maps-all : (l : List Request) {i : ℕ} {w r : List ℕ} → MapsOf (take i l) w r → i ≡ length l → MapsOf l w r
maps-all l {i} {w} {r} m all = subst (λ (x : List Request). MapsOf x w r) (take_all i l (omega arith)) m

-- ---- the queue in a block, by place
pub queue-length : (b : List ℕ) → length (queue_in b) ≡ count_in b
queue-length b = length-map (rows_in b) request_in ∙ tab-length (row_at b) (count_in b)

pub queue-at : (b : List ℕ) (i : ℕ) → i < count_in b → get_or (queue_in b) i nobody ≡ request_in (row_at b i)
queue-at b i lt = ap (λ (l : List Request). get_or l i nobody) (map-tab request_in (row_at b) (count_in b)) ∙ tab-get (λ j. request_in (row_at b j)) nobody (count_in b) i lt

pub row-length : (b : List ℕ) (i : ℕ) → length b ≡ 2_176 → i < 64 → length (row_at b i) ≡ 24
row-length b i whole lt = length-take-le 24 (drop (640 + i * 24) b) (omega (arith, length-drop (640 + i * 24) b))

-- ---- what a sound block says of its entries: they lie within it, each in 24 bytes, with lists of at most 8 records
pub sound-room : {b : List ℕ} → SoundBlock b → (length b ≡ 2176) × (count_in b ≤ 64)
sound-room s = let k = sound-clauses s in (k.as-above.whole, k.limits.count)

pub record RowIn (b : List ℕ) (i : ℕ) : Type 0 where
  pub size : length (row_at b i) ≡ 24
  pub few-reads : get_or (row_at b i) 6 0 ≤ 8
  pub few-writes : get_or (row_at b i) 7 0 ≤ 8

pub row_in : {b : List ℕ} → SoundBlock b → (i : ℕ) → i < count_in b → RowIn b i
row_in {b} s i used =
    let room = sound-room s in
    let l = each-tab (row_at b) (count_in b) [] (sound-clauses s).lists i used in
    record { size = row-length b i room.0 (omega (arith, room.1)); few-reads = l.few-reads; few-writes = l.few-writes }

-- the code's cut of a row
pub row_cut : (b : List ℕ) (i : ℕ) → take (640 + i * 24 + 24 - (640 + i * 24)) (drop (640 + i * 24) b) ≡ row_at b i
row_cut b i = cut-part b (640 + i * 24) 24 24 refl

-- ---- the state
abbrev counted : (List Request → ℕ → ℕ) → List Request → List ℕ
counted f q = tab (f q) 256

pub loaded : {b : List ℕ} {s : State} → SoundBlock b → s.cx ≡ part b 121 256 → s.cs ≡ part b 380 256 → map meter_view s.meters ≡ meters_in b → Slots (queue_in b) (queue_of s) → MapsOf (queue_in b) s.maps.written s.maps.read → Holds b s
loaded {b} {s} k x y meters slots maps =
    let c = sound-clauses k in
    let same : view s ≡ table_in b = ap (λ (m : List LawMeter). record { meters = m; queue = (view s).queue }) meters ∙ ap (λ (q : List Request). record { meters = meters_in b; queue = q }) slots.list in
    let is : view s ≡ k.of = same ∙ ap table_in k.is ∙ read_table k.of k.sound in
    let writers : s.cx ≡ counted cx (view s).queue = x ∙ c.counters.writers ∙ ap (counted cx) (sym slots.list) in
    let readers : s.cs ≡ counted cs (view s).queue = y ∙ c.counters.readers ∙ ap (counted cs) (sym slots.list) in
    let at-cx : Counts (λ e. e.writes) s.cx (view s).queue = record { each = λ j (lt : j < 256). ap (λ (l : List ℕ). get_or l j 0) writers ∙ tab-get (cx (view s).queue) 0 256 j lt } in
    let at-cs : Counts (λ e. e.reads) s.cs (view s).queue = record { each = λ j (lt : j < 256). ap (λ (l : List ℕ). get_or l j 0) readers ∙ tab-get (cs (view s).queue) 0 256 j lt } in
    let of-queue = subst (λ (q : List Request). MapsOf q s.maps.written s.maps.read) (sym slots.list) maps in
    record {
      sound = record {
        table = subst SoundTable (sym is) k.sound;
        tied = record {
          writers = at-cx;
          readers = at-cs;
          written = marks-from (λ e. e.writes) of-queue.written at-cx;
          read = marks-from (λ e. e.reads) of-queue.read at-cs;
          neat = slots.neat;
        };
      };
      is = k.is ∙ ap block_of (sym is);
    }
