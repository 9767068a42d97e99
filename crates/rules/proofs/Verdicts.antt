-- The counters and the maps tell conflicts: figure 2's verdict at Begin, Recheck's condition, and the maps of the search; and the
-- state that a Begin gives.
use Rattle.std.specs.Prelude.{if◌then◌else◌}
use Prim.Native.Nat.{ℕ, ◌+◌}
use mathlib.Core.Path.{◌≡◌, refl, sym, ap, ◌∙◌}
use mathlib.Core.Bool.{Bool, true, false, ◌&&◌, ◌||◌, not}
use mathlib.Core.List.{List, [], ◌∷◌, ◌++◌}
use native.Mathlib.Omega.{arith}
use lib.Dec.{eqb, ltb}
use lib.ListN.{get_or}
use Rattle.rules.specs.declared.Mode.TheVariants.{Free, Waiting, Blocked}
use Rattle.rules.specs.Lists.{some, every}
use Rattle.rules.specs.Records.{member, meets}
use Rattle.rules.specs.Request.{Request, nobody, requested, reduced, conflicts_any, with_mode, promoted, admitted}
use Rattle.rules.specs.Counters.{cx, cs, figure2, alone}
use Rattle.rules.specs.Clash.{written_in, read_in}
use Rattle.rules.specs.Calls.{without_entry}
use Rattle.rules.specs.Verdicts.{Figure2Tells, BeginTells, RecheckTells, MapsTell}
use Rattle.rules.specs.Scan.{Maps, no_records, mapped, maps_over, clear_by}
use Rattle.rules.proofs.Tests.{one, or_assoc, or-false, not-or, above-one, zero-above, one-own, and_comm}
use Rattle.rules.proofs.Lists.{some-cong, some_in, every_in, every_some, every-and, some_or, count-above, count-last, count-without, apart-at, meets-sym}
use Rattle.rules.proofs.Reduced.{reduced-clash}
use Rattle.rules.proofs.Conflict.{conflict-spread}

-- ---- the verdicts by one comparison of a list at a time
pub figure2-split : (x s : ℕ → ℕ) (e : Request) → figure2 x s e ≡ (some (λ k. ltb 0 (x k)) e.reads || (some (λ k. ltb 1 (x k)) e.writes || some (λ k. ltb 0 (s k)) e.writes))
unfolding figure2
figure2-split x s e =
    ap (λ (t : Bool). some (λ k. ltb 0 (x k)) e.reads || t) (some_or (λ k. ltb 1 (x k)) (λ k. ltb 0 (s k)) e.writes)

pub alone-split : (x s : ℕ → ℕ) (e : Request) → alone x s e ≡ ((every (λ k. eqb (x k) 1) e.writes && every (λ k. eqb (s k) 0) e.writes) && every (λ k. eqb (x k) 0) e.reads)
unfolding alone
alone-split x s e =
    ap (λ (t : Bool). t && every (λ k. eqb (x k) 0) e.reads) (every-and (λ k. eqb (x k) 1) (λ k. eqb (s k) 0) e.writes)

-- ---- the verdicts by the counts
-- counters that are those of the other entries and a request's own count
pub record Own (e : Request) (x s x' s' : ℕ → ℕ) : Type 0 where
  pub writes : (k : ℕ) → x' k ≡ x k + one (member k e.writes)
  pub reads : (k : ℕ) → s' k ≡ s k + one (member k e.reads)

-- the others' counters show a clash
abbrev clashes : (ℕ → ℕ) → (ℕ → ℕ) → Request → Bool
clashes x s e = some (λ r. ltb 0 (x r)) e.reads || some (λ w. ltb 0 (x w) || ltb 0 (s w)) e.writes

module _ {e : Request} {x s x' s' : ℕ → ℕ} (own : Own e x s x' s') (apart : meets e.reads e.writes ≡ false) where
  -- at a record that the request reads, its own count is in Cs alone; at one that it writes, in Cx alone
  read-cx : (k : ℕ) → member k e.reads ≡ true → x' k ≡ x k
  read-cx k m =
      let n : member k e.writes ≡ false = apart-at k e.reads e.writes apart m in
      own.writes k ∙ rw n (let z : x k + 0 ≡ x k = omega arith in z)

  write-cx : (k : ℕ) → member k e.writes ≡ true → x' k ≡ x k + 1
  write-cx k m = own.writes k ∙ rw m refl

  write-cs : (k : ℕ) → member k e.writes ≡ true → s' k ≡ s k
  write-cs k m =
      let n : member k e.reads ≡ false = apart-at k e.writes e.reads (meets-sym e.writes e.reads ∙ apart) m in
      own.reads k ∙ rw n (let z : s k + 0 ≡ s k = omega arith in z)

  own-figure2 : figure2 x' s' e ≡ clashes x s e
  unfolding figure2
  own-figure2 =
      let r : some (λ k. ltb 0 (x' k)) e.reads ≡ some (λ k. ltb 0 (x k)) e.reads = some_in e.reads (λ k m. ap (ltb 0) (read-cx k m)) in
      let w : some (λ k. ltb 1 (x' k) || ltb 0 (s' k)) e.writes ≡ some (λ k. ltb 0 (x k) || ltb 0 (s k)) e.writes = some_in e.writes (λ k m. simp (write-cx k m, write-cs k m, above-one)) in
      cc

  own_alone : alone x' s' e ≡ not (clashes x s e)
  unfolding alone
  own_alone =
      let w : every (λ k. eqb (x' k) 1 && eqb (s' k) 0) e.writes ≡ every (λ k. not (ltb 0 (x k) || ltb 0 (s k))) e.writes = every_in e.writes (λ k m. simp (write-cx k m, write-cs k m, one-own, zero-above, not-or)) in
      let r : every (λ k. eqb (x' k) 0) e.reads ≡ every (λ k. not (ltb 0 (x k))) e.reads = every_in e.reads (λ k m. simp (read-cx k m, zero-above)) in
      let c : not (clashes x s e) ≡ (not (some (λ k. ltb 0 (x k)) e.reads) && not (some (λ k. ltb 0 (x k) || ltb 0 (s k)) e.writes)) = not-or (some (λ k. ltb 0 (x k)) e.reads) (some (λ k. ltb 0 (x k) || ltb 0 (s k)) e.writes) in
      cc (w, r, c, every_some (λ k. ltb 0 (x k) || ltb 0 (s k)) e.writes, every_some (λ k. ltb 0 (x k)) e.reads, and_comm (not (some (λ k. ltb 0 (x k)) e.reads)) (not (some (λ k. ltb 0 (x k) || ltb 0 (s k)) e.writes)))

-- the counts over a queue show a clash exactly if the request conflicts with some entry of it
counts-clash : (q : List Request) (e : Request) → clashes (cx q) (cs q) e ≡ conflicts_any q e
counts-clash q e =
    let r : some (λ k. ltb 0 (cx q k)) e.reads ≡ some (written_in q) e.reads = some-cong e.reads (λ k. count-above (λ (a : Request). member k a.writes) q) in
    let w : some (λ k. ltb 0 (cx q k) || ltb 0 (cs q k)) e.writes ≡ some (λ k. written_in q k || read_in q k) e.writes = some-cong e.writes (λ k. simp (count-above (λ (a : Request). member k a.writes) q, count-above (λ (a : Request). member k a.reads) q)) in
    cc (conflict-spread q e)

-- Begin: figure 2's verdict, by the counters once the request has joined, is the conflict with the queue before it.
pub figure2-conflicts : Figure2Tells
figure2-conflicts q e f =
    let own : Own e (cx q) (cs q) (cx (q ++ e ∷ [])) (cs (q ++ e ∷ [])) = record { writes = λ k. count-last (λ (a : Request). member k a.writes) q e; reads = λ k. count-last (λ (a : Request). member k a.reads) q e } in
    own-figure2 own f.apart ∙ counts-clash q e

-- and the state that it gives: where nothing conflicts, the rule of a promotion finds all the awaited answers due
pub begin-tells : BeginTells
unfolding admitted promoted
begin-tells q who serial awaited reads writes =
    let e = requested who serial awaited reads writes in
    go (conflicts_any q (reduced e)) ∙ ap (λ (b : Bool). if b then Blocked else (if ltb 0 awaited then Waiting else Free)) (reduced-clash q e)
  where
    go : (b : Bool) → let e = reduced (requested who serial awaited reads writes) in (if b then e else with_mode e (if ltb 0 awaited then Waiting else Free)).mode ≡ (if b then Blocked else (if ltb 0 awaited then Waiting else Free))
    go true = refl
    go false = refl

-- Recheck: its condition is that no other entry, ahead or behind, conflicts.
pub alone-conflicts : RecheckTells
alone-conflicts q at h f =
    let e = get_or q at nobody in
    let rest = without_entry at q in
    let own : Own e (cx rest) (cs rest) (cx q) (cs q) = record { writes = λ k. count-without (λ (a : Request). member k a.writes) q at nobody h; reads = λ k. count-without (λ (a : Request). member k a.reads) q at nobody h } in
    own_alone own f.apart ∙ ap not (counts-clash rest e)

-- ---- the maps
maps-written : (m : Maps) (q : List Request) (r : ℕ) → (maps_over m q).written r ≡ (m.written r || written_in q r)
unfolding maps_over some
maps-written m [] r = sym (or-false (m.written r))
maps-written m (a ∷ q) r = maps-written (mapped m a) q r ∙ or_assoc (m.written r) (member r a.writes) (written_in q r)

maps-read : (m : Maps) (q : List Request) (r : ℕ) → (maps_over m q).read r ≡ (m.read r || read_in q r)
unfolding maps_over some
maps-read m [] r = sym (or-false (m.read r))
maps-read m (a ∷ q) r = maps-read (mapped m a) q r ∙ or_assoc (m.read r) (member r a.reads) (read_in q r)

-- "The map's verdict and the plain comparison must agree on every queue."
pub maps-conflicts : MapsTell
unfolding clear_by
maps-conflicts q e =
    let m = maps_over no_records q in
    let r : some m.written e.reads ≡ some (written_in q) e.reads = some-cong e.reads (maps-written no_records q) in
    let w : some m.written e.writes ≡ some (written_in q) e.writes = some-cong e.writes (maps-written no_records q) in
    let x : some m.read e.writes ≡ some (read_in q) e.writes = some-cong e.writes (maps-read no_records q) in
    let both : some (λ k. written_in q k || read_in q k) e.writes ≡ (some (written_in q) e.writes || some (read_in q) e.writes) = some_or (written_in q) (read_in q) e.writes in
    simp (r, w, x, conflict-spread q e, both, not-or)
