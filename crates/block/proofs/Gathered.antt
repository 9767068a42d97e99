-- What the steps of the check tell, taken together, are the clauses.
use Prim.Native.Nat.{ℕ, ◌+◌, ◌-◌, ◌*◌, ◌≤◌}
use mathlib.Core.Path.{◌≡◌, sym, ap, ◌∙◌}
use mathlib.Core.Bool.{Bool, true}
use mathlib.Core.List.{List}
use native.Mathlib.Omega.{arith}
use lib.ListN.{length, get_or, take, drop, replicate, length-drop}
use lib.Seq.{take_all}
use Rattle.rules.specs.Table.{is_tenant}
use Rattle.rules.specs.Sound.{Each}
use Rattle.block.specs.Clauses.{request_in, count_in, rows_in, queue_in, Suited, Clauses, Heads}
use Rattle.block.specs.Check.{Tells, MetersFit, RowFits, QueueFits}
use Rattle.block.proofs.Telling.{part-last}
use Rattle.rules.proofs.Order.{each_map, each_both, each-pair}
use Rattle.block.proofs.Each.{each_of, each-under}

-- every byte behind the entries in use
abbrev pub Unused : List ℕ → Type 0
Unused b = drop (640 + count_in b * 24) b ≡ replicate ((64 - count_in b) * 24) 0

-- ---- of the rows, by the clauses on the queue
module _ (b : List ℕ) (rows : Each RowFits (rows_in b)) where
  awaited : Each (λ e. e.awaited ≤ 15) (queue_in b)
  unfolding request_in
  awaited = each_of request_in (rows_in b) (each_map (λ p f. f.numbers.awaited) rows)

  due : Each (λ e. e.due ≤ e.awaited) (queue_in b)
  unfolding request_in
  due = each_of request_in (rows_in b) (each_map (λ p f. f.numbers.due) rows)

  suits : Each Suited (queue_in b)
  suits = each_of request_in (rows_in b) (each_map (λ p f. f.numbers.suits) rows)

pub gathered : (b : List ℕ) → length b ≡ 2_176 → Heads b → MetersFit b → count_in b ≤ 64 → Unused b → QueueFits b → Clauses b
gathered b whole heads meters count unused queue =
    let rows = queue.rows in
    record {
      as-above = record {
        whole = whole;
        heads = heads;
        records = each_map (λ p f. f.lists.rest) rows;
        entries = unused;
      };
      shares = meters.shares;
      limits = record { fuel = meters.fuel; awaited = awaited b rows; count = count };
      due = due b rows;
      tenants = queue.tenants;
      serials = queue.serials;
      states = each_map (λ p f. f.numbers.state) rows;
      suits = suits b rows;
      lists = each_map (λ p f. record { few-reads = f.few-reads; few-writes = f.few-writes; formed = f.lists.lists }) rows;
      counters = queue.counters;
      clear = queue.clear;
    }

-- ---- and each step by the clauses
module _ {b : List ℕ} (k : Clauses b) where
  pub meters-of : MetersFit b
  meters-of = record { shares = k.shares; fuel = k.limits.fuel }

  row_of : (p : List ℕ) → is_tenant (request_in p).tenant ≡ true → (request_in p).awaited ≤ 15 → (request_in p).due ≤ (request_in p).awaited → (is_tenant (get_or p 0 0) ≡ true) × (get_or p 4 0 ≤ 15) × (get_or p 5 0 ≤ get_or p 4 0)
  unfolding request_in
  row_of p t a d = (t, a, d)

  pub queue-of : QueueFits b
  queue-of =
      let under = each-pair (each-under request_in (rows_in b) k.tenants.range) (each-pair (each-under request_in (rows_in b) k.limits.awaited) (each-pair (each-under request_in (rows_in b) k.due) (each-under request_in (rows_in b) k.suits))) in
      let bytes = each-pair k.states (each-pair k.lists k.as-above.records) in
      record {
        rows = each_both under bytes (λ p u v. let n = row_of p u.0 u.1.0 u.1.1.0 in record {
          few-reads = v.1.0.few-reads;
          few-writes = v.1.0.few-writes;
          numbers = record { tenant = n.0; awaited = n.1; due = n.2; state = v.0; suits = u.1.1.1 };
          lists = record { lists = v.1.0.formed; rest = v.1.1 };
        });
        tenants = k.tenants;
        serials = k.serials;
        counters = k.counters;
        clear = k.clear;
      }

-- ---- the code's cut of the unused bytes
pub unused-told : (b : List ℕ) {r : Bool} {n : ℕ} → length b ≡ 2_176 → count_in b ≤ 64 → n ≡ count_in b → (let z = take (2_176 - (640 + n * 24)) (drop (640 + n * 24) b) in Tells r (z ≡ replicate (length z) 0)) → Tells r (Unused b)
unused-told b {r} {n} whole few is told =
    let from = 640 + n * 24 in
    let m = 2_176 - from in
    let size = length-drop from b in
    let all : take m (drop from b) ≡ drop from b = take_all m (drop from b) (omega (arith, whole, size)) in
    let count : length (take m (drop from b)) ≡ (64 - count_in b) * 24 = ap length all ∙ size ∙ omega arith in
    let here : take m (drop from b) ≡ drop (640 + count_in b * 24) b = all ∙ ap (λ (k : ℕ). drop (640 + k * 24) b) is in
    let zeros = ap (λ (k : ℕ). replicate {A = ℕ} k 0) count in
    part-last told (λ z. sym here ∙ z ∙ zeros) (λ z. here ∙ z ∙ sym zeros)
