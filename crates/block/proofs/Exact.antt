-- The clauses of item 1 and the block of a sound table say the same.
use Prim.Native.Nat.{ℕ, ◌+◌, ◌*◌, ◌≤◌}
use mathlib.Core.Path.{◌≡◌, sym, subst}
use mathlib.Core.List.{List}
use native.Mathlib.Omega.{arith}
use lib.ListN.{get_or}
use Rattle.rules.specs.Records.{Stored}
use Rattle.rules.specs.Request.{Request}
use Rattle.rules.specs.Lists.{total}
use Rattle.rules.specs.Table.{Table, Meter, meter_of, places_of, most_fuel, most_serials}
use Rattle.rules.specs.Counters.{cx, cs}
use Rattle.rules.specs.Sound.{Each, InOrder, Fit, Names, SoundTable, SerialsRise, ClearOf, given_by}
use Rattle.rules.proofs.Room.{sound-count}
use Rattle.block.specs.Bytes.{entry_bytes}
use Rattle.block.specs.Block.{tab, block_of, SoundBlock}
use Rattle.block.specs.Clauses.{part, request_in, meter_at, meter_from, count_in, row_at, rows_in, queue_in, table_in, Clauses, ClausesTell}
use Rattle.block.proofs.Places.{tab-length}
use Rattle.rules.proofs.Order.{each_map, each_both, each-pair}
use Rattle.block.proofs.Each.{each_of, tab-each}
use Rattle.block.proofs.Reading.{entry-state, entry-rest, entry-keeps}
use Rattle.block.proofs.Whole.{head11, head12, head13, head14, head15, block-length, read_count, read-cx, read-cs, read-unused, read-rows, read-meters, read-queue, read_table}
use Rattle.block.proofs.Back.{Small, small-part, small-each, block_back}

-- ---- from the clauses to a sound table
module _ (b : List ℕ) (small : Small b) (k : Clauses b) where
  serials-small : (i : ℕ) → (meter_at b i).serials ≤ most_serials
  unfolding meter_from
  serials-small i =
      let p = small-part b (22 + i * 6) 6 small in
      omega (arith, p 4, p 5)

  -- what a row tells of its request
  fits : Each (Fit (given_by (table_in b))) (queue_in b)
  fits =
      let numbers = each-pair k.limits.awaited k.due in
      let named = each-pair k.tenants.range (each-pair k.serials.from_one k.serials.to-given) in
      let lists : Each (λ e. Stored e.reads e.writes) (queue_in b) = each_of request_in (rows_in b) (each_map (λ p l. l.formed) k.lists) in
      each_both (each-pair numbers named) (each-pair k.suits lists)
      (λ e x y. record {
        awaited = x.0.0;
        due = x.0.1;
        tenant = x.1.0;
        from_one = x.1.1.0;
        to-given = x.1.1.1;
        free = y.0.free;
        waiting = y.0.waiting;
        blocked = y.0.blocked;
        lists = y.1;
      })

  named : (p : List ℕ) → Small p → Names (λ r. r ≤ 255) (request_in p)
  unfolding request_in
  named p z = record { reads = small-each _ (small-part p 8 (get_or p 6 0) z); writes = small-each _ (small-part p (8 + get_or p 6 0) (get_or p 7 0) z) }

  table-sound : SoundTable (table_in b)
  table-sound = record {
    sixteen = tab-length (meter_at b) 16;
    shares = k.shares;
    fuel = k.limits.fuel;
    given = tab-each (meter_at b) 16 (λ i lt. serials-small i);
    places = k.tenants.places;
    entries = fits;
    records = each_of request_in (rows_in b) (tab-each (row_at b) (count_in b) (λ i lt. named (row_at b i) (small-part b (640 + i * 24) 24 small)));
    serials = k.serials.rise;
    clear = k.clear;
  }

  to_block : SoundBlock b
  to_block = record { of = table_in b; sound = table-sound; is = block_back b small k.as-above k.limits.count k.states k.lists k.counters }

-- ---- from a sound table to the clauses
module _ (t : Table) (s : SoundTable t) where
  rows : {P : List ℕ → Type 0} → Each (λ e. P (entry_bytes e)) t.queue → Each P (rows_in (block_of t))
  rows {P} all = subst (Each P) (sym (read-rows t s)) (each_of entry_bytes t.queue all)

  queue : {P : Request → Type 0} → Each P t.queue → Each P (queue_in (block_of t))
  queue {P} all = subst (Each P) (sym (read-queue t s)) all

  to-clauses : Clauses (block_of t)
  to-clauses = record {
    as-above = record {
      whole = block-length t s;
      heads = record { shares = head11 t s; meters = head12 t s; cx = head13 t s; cs = head14 t s; queue = head15 t s };
      records = rows (each_map (λ e f. entry-rest e f.lists.few-reads f.lists.few-writes) s.entries);
      entries = read-unused t s;
    };
    shares = subst (λ (m : List Meter). total (λ x. x.share) m ≤ 64) (sym (read-meters t s)) s.shares;
    limits = record {
      fuel = subst (Each (λ m. m.fuel ≤ most_fuel)) (sym (read-meters t s)) s.fuel;
      awaited = queue (each_map (λ e f. f.awaited) s.entries);
      count = rw (read_count t s) (sound-count s);
    };
    due = queue (each_map (λ e f. f.due) s.entries);
    tenants = record {
      range = queue (each_map (λ e f. f.tenant) s.entries);
      places = λ who one. subst (λ (u : Table). places_of u.queue who ≤ (meter_of u who).share) (sym (read_table t s)) (s.places who one);
    };
    serials = record {
      rise = subst (InOrder SerialsRise) (sym (read-queue t s)) s.serials;
      from_one = queue (each_map (λ e f. f.from_one) s.entries);
      to-given = subst (λ (u : Table). Each (λ e. e.serial ≤ given_by u e.tenant) u.queue) (sym (read_table t s)) (each_map (λ e f. f.to-given) s.entries);
    };
    states = rows (each_map (λ e f. entry-state e f.lists.few-reads f.lists.few-writes) s.entries);
    suits = queue (each_map (λ e f. record { free = f.free; waiting = f.waiting; blocked = f.blocked }) s.entries);
    lists = rows (each_map (λ e f. entry-keeps e f.lists) s.entries);
    counters = record {
      writers = subst (λ (q : List Request). part (block_of t) 121 256 ≡ tab (cx q) 256) (sym (read-queue t s)) (read-cx t s);
      readers = subst (λ (q : List Request). part (block_of t) 380 256 ≡ tab (cs q) 256) (sym (read-queue t s)) (read-cs t s);
    };
    clear = subst (InOrder ClearOf) (sym (read-queue t s)) s.clear;
  }

pub sound-clauses : {b : List ℕ} → SoundBlock b → Clauses b
sound-clauses k = subst Clauses (sym k.is) (to-clauses k.of k.sound)

pub clauses-tell : ClausesTell
clauses-tell b small = record { to = to_block b small; from = sound-clauses }
