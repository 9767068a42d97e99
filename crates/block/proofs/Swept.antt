-- The pass over a block's entries after i of them, and what it has told at its end.
use Prim.Native.Nat.{ℕ, ◌+◌, ◌-◌, ◌≤◌, ◌<◌}
use mathlib.Core.Path.{◌≡◌, refl, sym, ap, subst, ◌∙◌}
use mathlib.Core.Bool.{Bool, true, false, ◌||◌, not, true≢false}
use mathlib.Core.List.{List, [], ◌∷◌, ◌++◌}
use mathlib.Core.Logic.{⊎_elim}
use native.Mathlib.Omega.{arith}
use native.Mathlib.Numerals.{add-one}
use lib.Dec.{eqb, ltb}
use lib.ListN.{length, get_or, take, drop, set, replicate, length-drop, length-set, get_or-replicate, drop_of_length-le, get_or-eq_default}
use lib.Seq.{length-take-le, take-suc, take_all, get_or-take, get_or-drop}
use borrow.Author.Tests.{eqb-true}
use Rattle.rules.specs.Lists.{some, count_if}
use Rattle.rules.specs.Records.{member}
use Rattle.rules.specs.Request.{Request, nobody, conflicts_any, is_blocked}
use Rattle.rules.specs.Table.{Meter, no_meter, is_tenant, meter_of}
use Rattle.rules.specs.Counters.{cx, cs, figure2}
use Rattle.rules.specs.Sound.{Each, InOrder, given_by}
use Rattle.rules.specs.Sound.Each.{none, also}
use Rattle.rules.proofs.Tests.{lt-or-ge, either}
use Rattle.rules.proofs.Lists.{some_in}
use Rattle.rules.proofs.Steps.{list-step}
use Rattle.rules.proofs.Meters.{tenant-range}
use Rattle.rules.proofs.Verdicts.{figure2-conflicts}
use Rattle.counters.specs.Counters.{at, Counts, Raised}
use Rattle.counters.proofs.Laws.{counts-none, counts-raised}
use Rattle.block.specs.Block.{tab}
use Rattle.block.specs.Clauses.{part, request_in, meter_from, meter_at, count_in, row_at, rows_in, queue_in, table_in, Counted, Same}
use Rattle.block.specs.Check.{Tells, RowFits, QueueFits}
use Rattle.block.proofs.Telling.{part-last}
use Rattle.block.proofs.Places.{tab-length, tab-get, tab-of}
use Rattle.rules.proofs.Order.{each_map}
use Rattle.block.proofs.Each.{each_of, each-under}
use Rattle.block.proofs.Back.{Small, small-part, small-each}
use Rattle.block.proofs.Loading.{queue-length, queue-at}
use Rattle.block.proofs.Sweep.{Clear, Rest, Follows, row-tenant, rest-fits, rest-clear, rest-follows, rest-tail, rest-cons, row-place, raised_writes, raised-reads, verdict-of}

-- ---- what is asked at the start is what the clauses ask
abbrev pub First : List ℕ → Type 0
First b = Rest (given_by (table_in b)) (replicate 16 0) (part b 3 16) [] (rows_in b)

no-serial : (j : ℕ) → get_or (replicate {A = ℕ} 16 0) j 0 ≡ 0
no-serial j = ⊎_elim
    (λ (lt : j < 16). get_or-replicate 16 j 0 0 lt)
    (λ (ge : 16 ≤ j). let z : List ℕ = replicate 16 0 in let past : length z ≤ j = ge in get_or-eq_default z 0 past)
    (lt-or-ge j 16)

meter-is : (b : List ℕ) (who : ℕ) → is_tenant who ≡ true → meter_of (table_in b) who ≡ meter_at b (who - 1)
meter-is b who one = let r = tenant-range who one in tab-get (meter_at b) no_meter 16 (who - 1) (omega (arith, r.0, r.1))

share-is : (b : List ℕ) (who : ℕ) → is_tenant who ≡ true → get_or (part b 3 16) (who - 1) 0 ≡ (meter_of (table_in b) who).share
unfolding meter_from
share-is b who one =
    let r = tenant-range who one in
    let lt : who - 1 < 16 = omega (arith, r.0, r.1) in
    get_or-take 16 (drop 3 b) (who - 1) 0 lt ∙ get_or-drop 3 b (who - 1) 0 ∙ sym (ap (λ (m : Meter). m.share) (meter-is b who one))

-- the serials given, as the code reads them
pub given_is : (b p : List ℕ) → RowFits p → given_by (table_in b) (request_in p).tenant ≡ (meter_at b ((request_in p).tenant - 1)).serials
given_is b p f = ap (λ (m : Meter). m.serials) (meter-is b (request_in p).tenant (row-tenant p f))

to-first : (b : List ℕ) → QueueFits b → First b
unfolding some
to-first b q = record {
  fits = q.rows;
  past = each_map (λ p h. omega (arith, no-serial ((request_in p).tenant - 1))) (each-under request_in (rows_in b) q.serials.from_one);
  known = each-under request_in (rows_in b) q.serials.to-given;
  rise = q.serials.rise;
  room = λ who one. rw (share-is b who one) (q.tenants.places who one);
  free = each_map (λ p h z. refl) q.rows;
  clear = q.clear;
}

pub from_first : (b : List ℕ) → First b → Counted b → QueueFits b
from_first b r c = record {
  rows = r.fits;
  tenants = record {
    range = each_of request_in (rows_in b) (each_map (λ p f. row-tenant p f) r.fits);
    places = λ who one. rw (← (share-is b who one)) (r.room who one);
  };
  serials = record {
    rise = r.rise;
    from_one = each_of request_in (rows_in b) (each_map (λ p h. omega (arith, no-serial ((request_in p).tenant - 1))) r.past);
    to-given = each_of request_in (rows_in b) r.known;
  };
  counters = c;
  clear = r.clear;
}

-- ---- the verdict of the counters
member-small : (k : ℕ) (l : List ℕ) → Each (λ r. r ≤ 255) l → member k l ≡ true → k < 256
unfolding member some
member-small k [] none m = let z : ◌≡◌ {A = ℕ} 0 1 = cc in absurd (omega arith)
member-small k (x ∷ l) (also h all) m = ⊎_elim (λ (e : eqb x k ≡ true). omega (arith, eqb-true x k e, h)) (member-small k l all) (either (eqb x k) (member k l) m)

row_small : (p : List ℕ) → Small p → Each (λ r. r ≤ 255) (request_in p).reads × Each (λ r. r ≤ 255) (request_in p).writes
unfolding request_in
row_small p z = (small-each _ (small-part p 8 (get_or p 6 0) z), small-each _ (small-part p (8 + get_or p 6 0) (get_or p 7 0) z))

-- arrays that count a list of requests tell of a request with records below 256 what the counts tell
figure2-by : (x y : List ℕ) (l : List Request) (e : Request) → Each (λ r. r ≤ 255) e.reads → Each (λ r. r ≤ 255) e.writes → ((k : ℕ) → k < 256 → at x k ≡ cx l k) → ((k : ℕ) → k < 256 → at y k ≡ cs l k) → figure2 (at x) (at y) e ≡ figure2 (cx l) (cs l) e
unfolding figure2
figure2-by x y l e r w wx wy =
    let reads : some (λ k. ltb 0 (at x k)) e.reads ≡ some (λ k. ltb 0 (cx l k)) e.reads = some_in e.reads (λ k m. ap (ltb 0) (wx k (member-small k e.reads r m))) in
    let writes : some (λ k. ltb 1 (at x k) || ltb 0 (at y k)) e.writes ≡ some (λ k. ltb 1 (cx l k) || ltb 0 (cs l k)) e.writes = some_in e.writes (λ k m. let z = member-small k e.writes w m in cc (wx k z, wy k z)) in
    cc (reads, writes)

blocked-or : (b c : Bool) → Tells (b || not c) (b ≡ false → c ≡ false)
blocked-or true c = record { yes = λ z e. absurd (true≢false e); other = λ z. absurd (true≢false z) }
blocked-or false true = record { yes = λ z. absurd (true≢false (sym z)); other = λ z f. true≢false (f refl) }
blocked-or false false = record { yes = λ z e. refl; other = λ z. absurd (true≢false z) }

-- ---- after i entries
pub record Swept (b : List ℕ) (i : ℕ) (last left x y : List ℕ) : Type 0 where
  pub within : i ≤ count_in b
  pub last-size : length last ≡ 16
  pub left-size : length left ≡ 16
  pub asks : Same (First b) (Rest (given_by (table_in b)) last left (take i (queue_in b)) (drop i (rows_in b)))
  pub writers : Counts (λ e. e.writes) x (take i (queue_in b))
  pub readers : Counts (λ e. e.reads) y (take i (queue_in b))
  pub wide : length x ≡ 256
  pub wide' : length y ≡ 256

pub swept_none : (b : List ℕ) {left : List ℕ} → length b ≡ 2_176 → left ≡ part b 3 16 → Swept b 0 (replicate 16 0) left (replicate 256 0) (replicate 256 0)
swept_none b {left} whole is = record {
  within = omega arith;
  last-size = refl;
  left-size = ap length is ∙ length-take-le 16 (drop 3 b) (omega (arith, length-drop 3 b));
  asks = rw is (record { to = λ r. r; from = λ r. r });
  writers = counts-none (λ e. e.writes);
  readers = counts-none (λ e. e.reads);
  wide = refl;
  wide' = refl;
}

-- ---- the next entry
module _ {b : List ℕ} {i : ℕ} {last left x y : List ℕ} (s : Swept b i last left x y) (lt : i < count_in b) where
  abbrev p : List ℕ
  p = row_at b i

  abbrev ahead : List Request
  ahead = take i (queue_in b)

  abbrev given : ℕ → ℕ
  given = given_by (table_in b)

  here : drop i (rows_in b) ≡ row_at b i ∷ drop (i + 1) (rows_in b)
  here = list-step (rows_in b) i [] (omega (arith, tab-length (row_at b) (count_in b))) ∙ ap (λ (r : List ℕ). r ∷ drop (i + 1) (rows_in b)) (tab-get (row_at b) [] (count_in b) i lt)

  next : take (i + 1) (queue_in b) ≡ take i (queue_in b) ++ request_in (row_at b i) ∷ []
  next = rw (add-one i) (take-suc (queue_in b) i nobody (omega (arith, queue-length b))) ∙ ap (λ (e : Request). ahead ++ e ∷ []) (queue-at b i lt)

  now : QueueFits b → Rest (given_by (table_in b)) last left (take i (queue_in b)) (row_at b i ∷ drop (i + 1) (rows_in b))
  now q = rw here at (s.asks.to (to-first b q))

  pub asks-fits : QueueFits b → RowFits (row_at b i)
  asks-fits q = rest-fits given last left ahead p _ (now q)

  module _ (fits : RowFits (row_at b i)) where
    pub asks-follows : QueueFits b → Follows (given_by (table_in b)) last left (request_in (row_at b i))
    asks-follows q = rest-follows given last left ahead p _ fits s.last-size s.left-size (now q)

    pub asks-clear : QueueFits b → Clear (take i (queue_in b)) (request_in (row_at b i))
    asks-clear q = rest-clear given last left ahead p _ (now q)

    -- the numbers as the code has them at hand
    follows-row : {r : Bool} {k serial to : ℕ} → k ≡ (request_in (row_at b i)).tenant - 1 → serial ≡ (request_in (row_at b i)).serial → to ≡ (meter_at b k).serials → Tells r ((get_or last k 0 < serial) × (serial ≤ to) × (0 < get_or left k 0)) → Tells r (Follows (given_by (table_in b)) last left (request_in (row_at b i)))
    follows-row {r} {k} {serial} {to} place is known told =
        let known' : given_by (table_in b) (request_in p).tenant ≡ to = given_is b p fits ∙ ap (λ (j : ℕ). (meter_at b j).serials) (sym place) ∙ sym known in
        rw (known', ← place, ← is) told

    -- its records are counted
    module _ {x' y' : List ℕ} (up : Raised x (request_in (row_at b i)).writes x') (up' : Raised y (request_in (row_at b i)).reads y') where
      writers-more : Counts (λ e. e.writes) x' (take i (queue_in b) ++ request_in (row_at b i) ∷ [])
      writers-more = counts-raised (λ e. e.writes) (request_in p) fits.lists.lists.writes-rise s.writers up

      readers-more : Counts (λ e. e.reads) y' (take i (queue_in b) ++ request_in (row_at b i) ∷ [])
      readers-more = counts-raised (λ e. e.reads) (request_in p) fits.lists.lists.reads-rise s.readers up'

      swept-next : length x' ≡ 256 → length y' ≡ 256 → Follows (given_by (table_in b)) last left (request_in (row_at b i)) → Clear (take i (queue_in b)) (request_in (row_at b i)) → let k = (request_in (row_at b i)).tenant - 1 in Swept b (i + 1) (set last k (request_in (row_at b i)).serial) (set left k (get_or left k 0 - 1)) x' y'
      swept-next w w' follows clear = record {
        within = omega arith;
        last-size = length-set last _ _ ∙ s.last-size;
        left-size = length-set left _ _ ∙ s.left-size;
        asks = rw next (record {
          to = λ r. rest-tail given last left ahead p _ fits s.last-size s.left-size follows.0 (rw here at (s.asks.to r));
          from = λ r. s.asks.from (rw here (rest-cons given last left ahead p _ fits s.last-size s.left-size follows clear r));
        });
        writers = rw next writers-more;
        readers = rw next readers-more;
        wide = w;
        wide' = w';
      }

      -- the same, with the numbers as the code has them at hand
      more-row : {k serial : ℕ} → k ≡ (request_in (row_at b i)).tenant - 1 → serial ≡ (request_in (row_at b i)).serial → length x' ≡ 256 → length y' ≡ 256 → Follows (given_by (table_in b)) last left (request_in (row_at b i)) → Clear (take i (queue_in b)) (request_in (row_at b i)) → Swept b (i + 1) (set last k serial) (set left k (get_or left k 0 - 1)) x' y'
      more-row {k} {serial} place is w w' follows clear = rw (place, is) (swept-next w w' follows clear)

      -- figure 2 over the counters, its own counts being in, tells whether it conflicts with one ahead
      verdict-row : Small (row_at b i) → {r : Bool} → r ≡ (is_blocked (request_in (row_at b i)).mode || not (figure2 (at x') (at y') (request_in (row_at b i)))) → Tells r (Clear (take i (queue_in b)) (request_in (row_at b i)))
      verdict-row small {r} is =
          let e = request_in p in
          let l = ahead ++ e ∷ [] in
          let told : figure2 (at x') (at y') e ≡ conflicts_any ahead e = figure2-by x' y' l e (row_small p small).0 (row_small p small).1 writers-more.each readers-more.each ∙ figure2-conflicts ahead e fits.lists.lists in
          subst (λ (t : Bool). Tells t (Clear ahead e)) (sym (is ∙ ap (λ (c : Bool). is_blocked e.mode || not c) told)) (blocked-or (is_blocked e.mode) (conflicts_any ahead e))

    -- the same of the row as the code has it
    module _ {p' : List ℕ} (is : p' ≡ row_at b i) where
      pub follows-told : {r : Bool} {k serial to : ℕ} → k ≡ get_or p' 0 0 → serial ≡ (request_in p').serial → to ≡ (meter_at b (k - 1)).serials → Tells r ((get_or last (k - 1) 0 < serial) × (serial ≤ to) × (0 < get_or left (k - 1) 0)) → Tells r (Follows (given_by (table_in b)) last left (request_in (row_at b i)))
      follows-told place serial known told = follows-row (row-place is place) (rw is at serial) known told

      module _ {x' y' : List ℕ} (up : Raised x (request_in p').writes x') (up' : Raised y (request_in p').reads y') where
        pub verdict : Small (row_at b i) → {r : Bool} → r ≡ (is_blocked (request_in p').mode || not (figure2 (at x') (at y') (request_in p'))) → Tells r (Clear (take i (queue_in b)) (request_in (row_at b i)))
        verdict small told = verdict-row (raised_writes is up) (raised-reads is up') small (verdict-of is x' y' told)

        pub swept-more : {k serial : ℕ} → k ≡ get_or p' 0 0 → serial ≡ (request_in p').serial → length x' ≡ 256 → length y' ≡ 256 → Follows (given_by (table_in b)) last left (request_in (row_at b i)) → Clear (take i (queue_in b)) (request_in (row_at b i)) → Swept b (i + 1) (set last (k - 1) serial) (set left (k - 1) (get_or left (k - 1) 0 - 1)) x' y'
        swept-more place serial w w' follows clear = more-row (raised_writes is up) (raised-reads is up') (row-place is place) (rw is at serial) w w' follows clear

-- ---- at the end
module _ {b : List ℕ} {i : ℕ} {last left x y : List ℕ} (s : Swept b i last left x y) (end : count_in b ≤ i) where
  all : take i (queue_in b) ≡ queue_in b
  all = take_all i (queue_in b) (omega (arith, queue-length b))

  pub swept-first : First b
  unfolding count_if
  swept-first =
      let over : drop i (rows_in b) ≡ [] = drop_of_length-le (rows_in b) (let z : length (rows_in b) ≤ i = omega (arith, tab-length (row_at b) (count_in b)) in z) in
      s.asks.from (rw over (record { fits = none; past = none; known = none; rise = InOrder.none; room = λ who one. omega arith; free = none; clear = InOrder.none }))

  pub swept-writers : x ≡ tab (cx (queue_in b)) 256
  swept-writers = tab-of (cx (queue_in b)) 256 x s.wide (rw all at s.writers.each)

  pub swept-readers : y ≡ tab (cs (queue_in b)) 256
  swept-readers = tab-of (cs (queue_in b)) 256 y s.wide' (rw all at s.readers.each)

  -- and what a comparison with the block's tells
  pub writers-told : {r : Bool} → Tells r (x ≡ part b 121 256) → Tells r (part b 121 256 ≡ tab (cx (queue_in b)) 256)
  writers-told t = part-last t (λ e. sym e ∙ swept-writers) (λ e. swept-writers ∙ sym e)

  pub readers-told : {r : Bool} → Tells r (y ≡ part b 380 256) → Tells r (part b 380 256 ≡ tab (cs (queue_in b)) 256)
  readers-told t = part-last t (λ e. sym e ∙ swept-readers) (λ e. swept-readers ∙ sym e)
