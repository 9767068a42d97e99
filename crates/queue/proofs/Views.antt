-- The queue's slots and its list of requests: how a change of the slots changes the list.
use Rattle.std.specs.Prelude.{if◌then◌else◌}
use Prim.Native.Nat.{ℕ, suc, ◌+◌, ◌-◌, ◌≤◌, ◌<◌}
use mathlib.Core.Path.{◌≡◌, refl, sym, ap, subst, ◌∙◌}
use mathlib.Core.List.{List, [], ◌∷◌, ◌++◌, map, map-append}
use mathlib.Core.Bool.{Bool, true, false}
use native.Mathlib.Nat.{not-suc-le-zero}
use borrow.Author.Tests.{eqb-true, eqb-false}
use native.Mathlib.Numerals.{add-one}
use native.Mathlib.Omega.{arith}
use lib.Dec.{eqb}
use lib.ListN.{length, get_or, take, drop, set, replicate, length-map, length-take, get_or-map}
use lib.Seq.{get_or-take, take-set-lt, take-suc-set, drop-set-lt, get_or-set_same, get_or-set_other}
use Rattle.rules.specs.Lists.{before}
use Rattle.rules.specs.Request.{Request, nobody, is_named}
use Rattle.rules.specs.Refusals.{stands_at}
use Rattle.rules.specs.Calls.{without_entry}
use Rattle.rules.proofs.Arrays.{rest-next}
use Rattle.rules.proofs.Steps.{list-step}
use Rattle.rules.proofs.Mapped.{map-take, map-drop, map-set}
use Rattle.entry.specs.declared.Entry.{Entry}
use Rattle.entry.specs.Entry.{request, no_entry, blank, Tidy}
use Rattle.queue.specs.Queue.{Queue, queued, requests, Neat, Holds}
use lib.Seq.{paste}
use Rattle.queue.proofs.Shift.{shifted, shift-list, shift-rest, shift-all}

-- a neat queue of 64 slots
pub record Slots (q : Queue) : Type 0 where
  pub full : length q.entries ≡ 64
  pub neat : Neat q

module _ {q : Queue} (s : Slots q) where
  pub requests-length : length (requests q) ≡ q.count
  requests-length = length-map (queued q) request ∙ length-take q.count q.entries ∙ omega (arith, s.full, s.neat.within)

  pub request-at : {i : ℕ} → i < q.count → get_or (requests q) i nobody ≡ request (get_or q.entries i blank)
  request-at {i} lt = get_or-map request (queued q) i blank ∙ ap request (get_or-take q.count q.entries i blank lt)

-- ---- changes
pub none-holds : (z : Entry) → z ≡ no_entry → Holds [] (record { count = 0; entries = replicate 64 z })
none-holds z e = record {
  list = refl;
  neat = record { within = omega arith; tidy = λ i (lt : i < 0). absurd (not-suc-le-zero lt); rest = ap (replicate 64) e };
}

-- what holds of each entry and of e holds of each after e is put at a place
put_all : (P : Entry → Type 0) (es : List Entry) (at n : ℕ) (e : Entry) → at < length es → ((i : ℕ) → i < n → (i ≡ at → ⊥) → P (get_or es i blank)) → P e → (i : ℕ) → i < n → P (get_or (set es at e) i blank)
put_all P es at n e there all own i lt = go (eqb i at) refl
  where
    go : (t : Bool) → eqb i at ≡ t → P (get_or (set es at e) i blank)
    go true same =
        let k : get_or (set es at e) i blank ≡ e = ap (λ (j : ℕ). get_or (set es at e) j blank) (eqb-true i at same) ∙ get_or-set_same es at e blank there in
        subst P (sym k) own
    go false other =
        let k : get_or (set es at e) i blank ≡ get_or es i blank = get_or-set_other es at i e blank (eqb-false i at other) in
        subst P (sym k) (all i lt (eqb-false i at other))

module _ {q : Queue} (s : Slots q) where
  pub pushed-holds : (e : Entry) → q.count < 64 → Tidy e → Holds (requests q ++ request e ∷ []) (record { count = q.count + 1; entries = set q.entries q.count e })
  pushed-holds e room t =
      let n = q.count in
      let there : n < length q.entries = omega (arith, s.full) in
      let u : n < n + 1 = omega arith in
      let joined : take (n + 1) (set q.entries n e) ≡ queued q ++ e ∷ [] = rw (add-one n) (take-suc-set q.entries n e there) in
      record {
        list = ap (map request) joined ∙ map-append request (queued q) (e ∷ []);
        neat = record {
          within = omega arith;
          tidy = put_all Tidy q.entries n (n + 1) e there (λ i (lt : i < n + 1) (other : i ≡ n → ⊥). s.neat.tidy i (omega arith)) t;
          rest = drop-set-lt (n + 1) q.entries n e u ∙ rest-next q.entries n 64 no_entry room s.neat.rest;
        };
      }

  pub replaced-holds : (at : ℕ) (e : Entry) → at < q.count → Tidy e → Holds (set (requests q) at (request e)) (record { count = q.count; entries = set q.entries at e })
  replaced-holds at e lt t =
      let there : at < length q.entries = omega (arith, s.full, s.neat.within) in
      record {
        list = ap (map request) (take-set-lt q.count q.entries at e lt) ∙ map-set request (queued q) at e;
        neat = record {
          within = s.neat.within;
          tidy = put_all Tidy q.entries at q.count e there (λ i (lt : i < q.count) other. s.neat.tidy i lt) t;
          rest = drop-set-lt q.count q.entries at e lt ∙ s.neat.rest;
        };
      }

  -- the queue once the entries past `at` have moved up to the last place n, which is then given the empty entry
  pub removed-holds : {at n : ℕ} {next : List Entry} → at ≤ n → n + 1 ≡ q.count → next ≡ paste q.entries at (drop (at + 1) q.entries) (q.count - (at + 1)) → Holds (without_entry at (requests q)) (record { count = n; entries = set next n no_entry })
  removed-holds {at} {n} h e moved =
      let lt : n < length q.entries = omega (arith, s.full, s.neat.within) in
      let below : n < 64 = omega (arith, s.neat.within) in
      let gap : q.count - (at + 1) ≡ n - at = omega arith in
      let rest : drop (n + 1) q.entries ≡ replicate (64 - (n + 1)) no_entry = rw e s.neat.rest in
      let all : (j : ℕ) → j < n + 1 → Tidy (get_or q.entries j blank) = λ j b. s.neat.tidy j (rw e at b) in
      let cut : take n (shifted q.entries at n no_entry h lt) ≡ take at (queued q) ++ drop (at + 1) (queued q) = rw (← e) (shift-list q.entries at n no_entry h lt) in
      rw (moved, gap)
      (record {
        list = ap (map request) cut ∙ map-append request (take at (queued q)) (drop (at + 1) (queued q)) ∙ cc (map-take request at (queued q), map-drop request (at + 1) (queued q));
        neat = record { within = omega arith; tidy = shift-all q.entries at n no_entry h lt Tidy blank all; rest = shift-rest q.entries at n no_entry h lt 64 below rest };
      })

-- ---- where a name stands, one entry on
module _ {q : Queue} (s : Slots q) {i : ℕ} where
  pub requests-step : i < q.count → drop i (requests q) ≡ request (get_or q.entries i blank) ∷ drop (i + 1) (requests q)
  requests-step lt =
      let there : i < length (requests q) = omega (arith, requests-length s) in
      list-step (requests q) i nobody there ∙ ap (λ (e : Request). e ∷ drop (i + 1) (requests q)) (request-at s lt)

  pub stands-step : i < q.count → (who serial : ℕ) → stands_at who serial (drop i (requests q)) ≡ (if is_named who serial (request (get_or q.entries i blank)) then 0 else suc (stands_at who serial (drop (i + 1) (requests q))))
  unfolding before
  stands-step lt who serial = ap (λ (l : List Request). stands_at who serial l) (requests-step lt)
