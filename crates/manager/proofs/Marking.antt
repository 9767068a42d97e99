-- What the two maps tell of a request that joins, and how many records they have.
use Prim.Native.Nat.{ℕ, ◌≤◌, ◌<◌}
use mathlib.Core.Path.{◌≡◌, refl, sym, ap, subst, ◌∙◌}
use mathlib.Core.Bool.{Bool, true, false, ◌||◌, true≢false}
use mathlib.Core.List.{List}
use mathlib.Core.Logic.{⊎_elim}
use native.Mathlib.Omega.{arith}
use lib.Dec.{ltb}
use Rattle.rules.specs.declared.Mode.TheVariants.{Blocked}
use Rattle.rules.specs.declared.Answer.TheVariants.{BlockedOn}
use Rattle.rules.specs.Request.{Request, conflicts_any, admitted}
use Rattle.rules.specs.Counters.{cx, cs}
use Rattle.rules.specs.Calls.{begun}
use Rattle.rules.specs.declared.Tally.{Tally}
use Rattle.rules.specs.Clash.{written_in, read_in, clash_at, clashes_on, lowest_clash, how_many, held_of}
use Rattle.rules.specs.Clashing.{IsLowestClash}
use Rattle.rules.proofs.Tests.{lt-or-ge}
use Rattle.rules.proofs.Clashing.{clash-by, clash-named, lowest-reported, lowest-one, conflict-told, joins-blocked, joins-clear}
use Rattle.std.specs.Prelude.{Option, Some, None}
use Rattle.rules.specs.declared.Answer.{Answer}
use Rattle.maps.specs.Maps.{in_map, MapOf, Union, clash_in, IsLowest}
use Rattle.maps.proofs.Records.{count_same}
use Rattle.maps.proofs.OwnMaps.{own-clash, lowest-same}
use Rattle.entry.specs.declared.Entry.{Entry}
use Rattle.entry.specs.Entry.{request, Stands}
use Rattle.entry.proofs.Typed.{Lists, bytes_small}
use Rattle.manager.specs.declared.State.{State}
use Rattle.manager.specs.State.{view, Tied}
use Rattle.manager.specs.Deeds.{AdmittedBy}

-- ---- the request that joins
-- the clash by a request's own maps, made from the lists that the code takes from an entry, is that of its request
pub by-lists : (written read : List ℕ) (low : Option ℕ) (e : Request) {reads writes own own' : List ℕ} → reads ≡ e.reads → writes ≡ e.writes → MapOf reads own → MapOf writes own' → IsLowest (clash_in own own' written read) low → IsLowest (clash_at (in_map written) (in_map read) e) low
unfolding clash_at
by-lists written read low e {reads} {writes} {own} {own'} r w m m' = lowest-same _ _ same low
  where
    same : (q : ℕ) → clash_in own own' written read q ≡ clash_at (in_map written) (in_map read) e q
    same q = own-clash written read m m' q ∙ rw (r, w)

module _ (q : List Request) (written read : ℕ → Bool) (w : (k : ℕ) → k < 256 → written k ≡ written_in q k) (r : (k : ℕ) → k < 256 → read k ≡ read_in q k) (e : Entry) (l : Lists e) where
  abbrev test : ℕ → Bool
  test = clash_at written read (request e)

  same : (k : ℕ) → k < 256 → test k ≡ clashes_on q (request e) k
  same k lt = clash-by written read (written_in q) (read_in q) (request e) k (w k lt) (r k lt)

  -- the lowest by the maps is the lowest by the queue
  found : (k : ℕ) → IsLowest test (Some k) → IsLowestClash q (request e) k
  found k h = record {
    clashes = sym (same k h.0) ∙ h.1;
    lowest = λ x c. ⊎_elim (λ (lt : x < k). let in-range : x < 256 = omega (arith, h.0) in absurd (true≢false (sym c ∙ sym (same x in-range) ∙ h.2 x lt))) (λ (ge : k ≤ x). ge) (lt-or-ge x k);
  }

  -- none by the maps is none by the queue, since the request names none but records
  absent : IsLowest test None → conflicts_any q (request e) ≡ false
  absent h = go (conflicts_any q (request e)) refl
    where
      small : (k : ℕ) → clashes_on q (request e) k ≡ true → k < 256
      small k c = ⊎_elim (bytes_small e.nr l.reads k) (bytes_small e.nw l.writes k) (clash-named (written_in q) (read_in q) (request e) k c)

      go : (t : Bool) → conflicts_any q (request e) ≡ t → t ≡ false
      go true c =
          let k = lowest-reported q (request e) c in
          let n = lowest_clash q (request e) in
          let lt = small n k.clashes in
          sym (sym (h n lt) ∙ same n lt ∙ k.clashes)
      go false c = refl

  pub joining-told : (low : Option ℕ) (j : Entry × Answer) → (request e).mode ≡ Blocked → IsLowest test low → AdmittedBy low (request e) j → Stands (admitted q (request e)) j.0 × (j.1 ≡ begun q (request e))
  joining-told (Some k) j blocked h a =
      let one = found k h in
      let join = joins-blocked q (request e) blocked ((conflict-told q (request e)).1 (k, one)) in
      (subst (λ (x : Request). Stands x j.0) (sym join.entry) a.0, a.1 ∙ ap (λ (n : ℕ). BlockedOn (request e).tenant (request e).serial n) (sym (lowest-one one)) ∙ sym join.answer)
  joining-told None j blocked h a =
      let join = joins-clear q (request e) (absent h) in
      (subst (λ (x : Request). Stands x j.0) (sym join.entry) a.0, a.1 ∙ sym join.answer)

-- ---- how many records are held
pub held-told : {s : State} → Tied s → {both : List ℕ} → Union s.maps.written s.maps.read both → {w r e : ℕ} → w ≡ how_many (in_map s.maps.written) 256 → r ≡ how_many (in_map s.maps.read) 256 → e ≡ how_many (in_map both) 256 → ◌≡◌ {A = Tally} (record { written = w; read = r; either = e }) (held_of (view s))
unfolding held_of
held-told {s} t {both} u {w} {r} {e} ws rs es =
    let q = (view s).queue in
    let written : (k : ℕ) → k < 256 → in_map s.maps.written k ≡ ltb 0 (cx q k) = λ k lt. t.written.each k lt ∙ ap (ltb 0) (t.writers.each k lt) in
    let read : (k : ℕ) → k < 256 → in_map s.maps.read k ≡ ltb 0 (cs q k) = λ k lt. t.read.each k lt ∙ ap (ltb 0) (t.readers.each k lt) in
    let first : w ≡ how_many (λ k. ltb 0 (cx q k)) 256 = ws ∙ count_same (in_map s.maps.written) (λ k. ltb 0 (cx q k)) 256 written in
    let second : r ≡ how_many (λ k. ltb 0 (cs q k)) 256 = rs ∙ count_same (in_map s.maps.read) (λ k. ltb 0 (cs q k)) 256 read in
    let third : e ≡ how_many (λ k. ltb 0 (cx q k) || ltb 0 (cs q k)) 256 = es ∙ count_same (in_map both) (λ k. ltb 0 (cx q k) || ltb 0 (cs q k)) 256 (λ k (lt : k < 256). u.each k lt ∙ cc (written k lt, read k lt)) in
    λ i. record { written = first i; read = second i; either = third i }
