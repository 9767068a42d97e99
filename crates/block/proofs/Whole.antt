-- The block of a sound table, read back: each field stands at its place, and the table in the block is the table.
use Prim.Native.Nat.{ℕ, ◌+◌, ◌-◌, ◌*◌, ◌<◌}
use mathlib.Core.Path.{◌≡◌, refl, sym, ap, ◌∙◌}
use mathlib.Core.List.{List, [], ◌∷◌, ◌++◌, map, append_assoc}
use native.Mathlib.Omega.{arith}
use lib.ListN.{length, get_or, drop, replicate, length-append, length-replicate, length-map, get_or-map}
use lib.Seq.{drop_at, get_or-append-add, get_or-drop, get_or-take}
use Rattle.rules.specs.Request.{Request, nobody}
use Rattle.rules.specs.Table.{Table, Meter, no_meter}
use Rattle.rules.specs.Counters.{cx, cs}
use Rattle.rules.specs.Sound.{Each, SoundTable}
use Rattle.rules.proofs.Room.{sound-count}
use Rattle.block.specs.Bytes.{entry_bytes, meter_bytes, share_byte, head}
use Rattle.block.specs.Block.{flat, tab, block_of, BlockTells}
use Rattle.block.specs.Clauses.{part, meter_at, meters_in, count_in, row_at, rows_in, queue_in, table_in, request_in, meter_from}
use Rattle.block.proofs.Places.{tab-length, tab-is, part-here}
use Rattle.rules.proofs.Order.{each_all, each_map}
use Rattle.block.proofs.Reading.{meter-length, meter-read, entry_length, entry_read, flat-length, rows_at}

-- ---- the block up to each field
abbrev p19 : Table → List ℕ
p19 t = head 17 16 ++ flat share_byte t.meters

abbrev p118 : Table → List ℕ
p118 t = p19 t ++ head 18 96 ++ flat meter_bytes t.meters

abbrev p377 : Table → List ℕ
p377 t = p118 t ++ head 19 256 ++ tab (cx t.queue) 256

abbrev p636 : Table → List ℕ
p636 t = p377 t ++ head 20 256 ++ tab (cs t.queue) 256

abbrev p640 : Table → List ℕ
p640 t = p636 t ++ (head 21 1_537 ++ length t.queue ∷ [])

abbrev pub unused : Table → List ℕ
unused t = replicate ((64 - length t.queue) * 24) 0

-- the fields from Cx on
abbrev pub behind : List Request → List ℕ
behind q =
    head 19 256
    ++ (tab (cx q) 256
    ++ (head 20 256
    ++ (tab (cs q) 256
    ++ ((head 21 1_537 ++ length q ∷ []) ++ (flat entry_bytes q ++ replicate ((64 - length q) * 24) 0)))))

module _ (t : Table) (s : SoundTable t) where
  len19 : length (p19 t) ≡ 19
  len19 = omega (arith, flat-length share_byte 1 t.meters (each_all t.meters (λ m. refl)), s.sixteen)

  len118 : length (p118 t) ≡ 118
  len118 =
      length-append (p19 t ++ head 18 96) _ ∙ rw (length-append (p19 t) (head 18 96)) (omega (arith, len19, flat-length meter_bytes 6 t.meters (each_all t.meters meter-length), s.sixteen))

  len377 : length (p377 t) ≡ 377
  len377 =
      length-append (p118 t ++ head 19 256) _ ∙ rw (length-append (p118 t) (head 19 256)) (omega (arith, len118, tab-length (cx t.queue) 256))

  len636 : length (p636 t) ≡ 636
  len636 =
      length-append (p377 t ++ head 20 256) _ ∙ rw (length-append (p377 t) (head 20 256)) (omega (arith, len377, tab-length (cs t.queue) 256))

  len640 : length (p640 t) ≡ 640
  len640 = length-append (p636 t) _ ∙ omega (arith, len636)

  -- ---- and from each field on
  abbrev r640 : List ℕ
  r640 = flat entry_bytes t.queue ++ unused t

  cut640 : block_of t ≡ p640 t ++ r640
  unfolding block_of
  cut640 = append_assoc (p640 t) (flat entry_bytes t.queue) (unused t)

  abbrev r636 : List ℕ
  r636 = (head 21 1_537 ++ length t.queue ∷ []) ++ r640

  cut636 : block_of t ≡ p636 t ++ r636
  cut636 = cut640 ∙ append_assoc (p636 t) (head 21 1_537 ++ length t.queue ∷ []) r640

  abbrev r377 : List ℕ
  r377 = head 20 256 ++ (tab (cs t.queue) 256 ++ r636)

  cut377 : block_of t ≡ p377 t ++ r377
  cut377 =
      cut636 ∙ append_assoc (p377 t ++ head 20 256) (tab (cs t.queue) 256) r636 ∙ append_assoc (p377 t) (head 20 256) (tab (cs t.queue) 256 ++ r636)

  abbrev r118 : List ℕ
  r118 = head 19 256 ++ (tab (cx t.queue) 256 ++ r377)

  cut118 : block_of t ≡ p118 t ++ r118
  cut118 =
      cut377 ∙ append_assoc (p118 t ++ head 19 256) (tab (cx t.queue) 256) r377 ∙ append_assoc (p118 t) (head 19 256) (tab (cx t.queue) 256 ++ r377)

  abbrev r19 : List ℕ
  r19 = head 18 96 ++ (flat meter_bytes t.meters ++ r118)

  cut19 : block_of t ≡ p19 t ++ r19
  cut19 =
      cut118 ∙ append_assoc (p19 t ++ head 18 96) (flat meter_bytes t.meters) r118 ∙ append_assoc (p19 t) (head 18 96) (flat meter_bytes t.meters ++ r118)

  -- what stands from Cx on is the queue's
  pub read_behind : drop 118 (block_of t) ≡ behind t.queue
  read_behind = ap (drop 118) cut118 ∙ drop_at (p118 t) r118 118 len118

  -- ---- the heads
  head_at : (p h r : List ℕ) (at : ℕ) → block_of t ≡ p ++ (h ++ r) → length p ≡ at → length h ≡ 3 → part (block_of t) at 3 ≡ h
  head_at p h r at cut size three = ap (λ (b : List ℕ). part b at 3) (cut ∙ sym (append_assoc p h r)) ∙ part-here p h r at 3 size three

  pub head11 : part (block_of t) 0 3 ≡ head 17 16
  head11 = head_at [] (head 17 16) (flat share_byte t.meters ++ r19) 0 (cut19 ∙ append_assoc (head 17 16) (flat share_byte t.meters) r19) refl refl

  pub head12 : part (block_of t) 19 3 ≡ head 18 96
  head12 = head_at (p19 t) (head 18 96) (flat meter_bytes t.meters ++ r118) 19 cut19 len19 refl

  pub head13 : part (block_of t) 118 3 ≡ head 19 256
  head13 = head_at (p118 t) (head 19 256) (tab (cx t.queue) 256 ++ r377) 118 cut118 len118 refl

  pub head14 : part (block_of t) 377 3 ≡ head 20 256
  head14 = head_at (p377 t) (head 20 256) (tab (cs t.queue) 256 ++ r636) 377 cut377 len377 refl

  pub head15 : part (block_of t) 636 3 ≡ head 21 1_537
  head15 = head_at (p636 t) (head 21 1_537) ((length t.queue ∷ []) ++ r640) 636 cut636 len636 refl

  -- ---- the fields
  pub read_count : count_in (block_of t) ≡ length t.queue
  read_count =
      let k : 639 ≡ length (p636 t) + 3 = omega (arith, len636) in
      ap (λ (b : List ℕ). get_or b 639 0) cut636 ∙ ap (λ (m : ℕ). get_or (p636 t ++ r636) m 0) k ∙ get_or-append-add (p636 t) r636 3 0

  pub read-cs : part (block_of t) 380 256 ≡ tab (cs t.queue) 256
  read-cs =
      let n : length (p377 t ++ head 20 256) ≡ 380 = length-append (p377 t) (head 20 256) ∙ omega (arith, len377) in
      ap (λ (b : List ℕ). part b 380 256) cut636 ∙ part-here (p377 t ++ head 20 256) (tab (cs t.queue) 256) r636 380 256 n (tab-length (cs t.queue) 256)

  pub read-cx : part (block_of t) 121 256 ≡ tab (cx t.queue) 256
  read-cx =
      let n : length (p118 t ++ head 19 256) ≡ 121 = length-append (p118 t) (head 19 256) ∙ omega (arith, len118) in
      ap (λ (b : List ℕ). part b 121 256) cut377 ∙ part-here (p118 t ++ head 19 256) (tab (cx t.queue) 256) r377 121 256 n (tab-length (cx t.queue) 256)

  sized : Each (λ e. length (entry_bytes e) ≡ 24) t.queue
  sized = each_map (λ e f. entry_length e f.lists.few-reads f.lists.few-writes) s.entries

  read-row : (i : ℕ) → i < length t.queue → row_at (block_of t) i ≡ entry_bytes (get_or t.queue i nobody)
  unfolding block_of
  read-row i lt = rows_at entry_bytes 24 (p640 t) t.queue (unused t) 640 i nobody len640 sized lt

  pub read-meter : (i : ℕ) → i < 16 → part (block_of t) (22 + i * 6) 6 ≡ meter_bytes (get_or t.meters i no_meter)
  read-meter i lt =
      let n : length (p19 t ++ head 18 96) ≡ 22 = length-append (p19 t) (head 18 96) ∙ omega (arith, len19) in
      ap (λ (b : List ℕ). part b (22 + i * 6) 6) cut118 ∙ rows_at meter_bytes 6 (p19 t ++ head 18 96) t.meters r118 22 i no_meter n (each_all t.meters meter-length) (omega (arith, s.sixteen))

  pub read-share : (i : ℕ) → i < 16 → get_or (block_of t) (3 + i) 0 ≡ (get_or t.meters i no_meter).share
  read-share i lt =
      let one : part (block_of t) (3 + i * 1) 1 ≡ share_byte (get_or t.meters i no_meter) = ap (λ (b : List ℕ). part b (3 + i * 1) 1) cut19 ∙ rows_at share_byte 1 (head 17 16) t.meters r19 3 i no_meter refl (each_all t.meters (λ m. refl)) (omega (arith, s.sixteen)) in
      let k : 3 + i ≡ 3 + i * 1 + 0 = omega arith in
      ap (λ (m : ℕ). get_or (block_of t) m 0) k ∙ sym (get_or-drop (3 + i * 1) (block_of t) 0 0) ∙ sym (get_or-take 1 (drop (3 + i * 1) (block_of t)) 0 0 (omega arith)) ∙ ap (λ (l : List ℕ). get_or l 0 0) one

  entries-length : length (flat entry_bytes t.queue) ≡ length t.queue * 24
  entries-length = flat-length entry_bytes 24 t.queue sized

  pub block-length : length (block_of t) ≡ 2_176
  block-length =
      ap length cut640 ∙ length-append (p640 t) r640 ∙ rw (length-append (flat entry_bytes t.queue) (unused t), length-replicate {A = ℕ} ((64 - length t.queue) * 24) 0) (omega (arith, len640, entries-length, sound-count s))

  pub read-unused : drop (640 + count_in (block_of t) * 24) (block_of t) ≡ replicate ((64 - count_in (block_of t)) * 24) 0
  unfolding block_of
  read-unused =
      let size : length (p640 t ++ flat entry_bytes t.queue) ≡ 640 + length t.queue * 24 = length-append (p640 t) (flat entry_bytes t.queue) ∙ omega (arith, len640, entries-length) in
      ap (λ (n : ℕ). drop (640 + n * 24) (block_of t)) read_count ∙ drop_at (p640 t ++ flat entry_bytes t.queue) (unused t) (640 + length t.queue * 24) size ∙ ap (λ (n : ℕ). replicate ((64 - n) * 24) 0) (sym read_count)

  -- ---- the table
  pub read-rows : rows_in (block_of t) ≡ map entry_bytes t.queue
  read-rows =
      let n = length t.queue in
      ap (tab (row_at (block_of t))) read_count
      ∙ tab-is (row_at (block_of t)) (map entry_bytes t.queue) (entry_bytes nobody) n (length-map t.queue entry_bytes) (λ i (lt : i < n). read-row i lt ∙ sym (get_or-map entry_bytes t.queue i nobody))

  pub read-meters : meters_in (block_of t) ≡ t.meters
  read-meters =
      tab-is (meter_at (block_of t)) t.meters no_meter 16 s.sixteen (λ i (lt : i < 16). ap (λ (p : List ℕ). meter_from p (get_or (block_of t) (3 + i) 0)) (read-meter i lt) ∙ ap (meter_from (meter_bytes (get_or t.meters i no_meter))) (read-share i lt) ∙ meter-read (get_or t.meters i no_meter))

  back : {l : List Request} → Each (λ e. request_in (entry_bytes e) ≡ e) l → map request_in (map entry_bytes l) ≡ l
  back Each.none = refl
  back (Each.also {x} {xs} h all) = ap (λ (e : Request). e ∷ map request_in (map entry_bytes xs)) h ∙ ap (λ (l : List Request). x ∷ l) (back all)

  pub read-queue : queue_in (block_of t) ≡ t.queue
  read-queue = ap (map request_in) read-rows ∙ back (each_map (λ e f. entry_read e f.lists.few-reads f.lists.few-writes) s.entries)

  pub read_table : table_in (block_of t) ≡ t
  read_table = ap (λ (m : List Meter). record { meters = m; queue = queue_in (block_of t) }) read-meters ∙ ap (λ (q : List Request). record { meters = t.meters; queue = q }) read-queue

-- a block is that of one sound table
pub block-tells : BlockTells
block-tells t u s h e = sym (read_table t s) ∙ ap table_in e ∙ read_table u h
