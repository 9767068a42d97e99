-- The records on which a request clashes are among those that it names. It conflicts exactly if there is one, and the lowest of
-- them is what is reported.
use Prim.Native.Nat.{ℕ, ◌≤◌}
use mathlib.Core.Path.{◌≡◌, refl, sym, ap, ◌∙◌}
use mathlib.Core.Bool.{Bool, true, false, ◌&&◌, ◌||◌, not, true≢false}
use mathlib.Core.List.{List, [], ◌∷◌, ◌++◌}
use mathlib.Core.Logic.{◌⊎◌, inl, inr, ⊎_elim}
use native.Mathlib.Omega.{arith}
use lib.Dec.{eqb, ltb}
use borrow.Author.Tests.{eqb-true, eq-eqb, ltb-true, ltb-false}
use Rattle.rules.specs.declared.Mode.{Mode}
use Rattle.rules.specs.declared.Mode.TheVariants.{Blocked}
use Rattle.rules.specs.declared.Answer.{Answer}
use Rattle.rules.specs.declared.Answer.TheVariants.{BlockedOn}
use Rattle.rules.specs.Lists.{some, keep_if}
use Rattle.rules.specs.Records.{member}
use Rattle.rules.specs.Request.{Request, conflicts_any, is_blocked, promoted, admitted}
use Rattle.rules.specs.Clash.{written_in, read_in, clash_at, clashes_on, lower, lowest_from, lowest, lowest_clash}
use Rattle.rules.specs.Calls.{named, begun}
use Rattle.rules.specs.Said.{said}
use Rattle.rules.specs.Clashing.{IsLowestClash, ClashShares, ConflictClashes, LowestReported, ReducedClashes, MapsClash, MapsTellFigure2}
use Rattle.rules.proofs.Tests.{or-true, and-false, and_comm, either, both, if-either, if-cases}
use Rattle.rules.proofs.Lists.{some-append, some-cong, some_or, some-both, some_at, some-here, count-above}
use Rattle.rules.proofs.Conflict.{conflict-spread}
use Rattle.rules.proofs.Reduced.{keep-member, only-read-exact}
use Rattle.rules.proofs.Requests.{admitted-as}
use Rattle.rules.proofs.Verdicts.{figure2-conflicts}

-- ---- the lowest number of a list
record LowestOf (xs : List ℕ) (r : ℕ) : Type 0 where
  among : member r xs ≡ true
  least : (x : ℕ) → member x xs ≡ true → r ≤ x

first_member : (x : ℕ) (xs : List ℕ) → member x (x ∷ xs) ≡ true
unfolding member some
first_member x xs = rw (eq-eqb x x refl)

-- the lower of two numbers is one of them, and stands for both
record Lower (n x m : ℕ) : Type 0 where
  first : m ≤ n
  second : m ≤ x
  one : (m ≡ n) ⊎ (m ≡ x)

lower-is : (n x : ℕ) → Lower n x (lower n x)
lower-is n x = if-cases (Lower n x) (ltb x n)
    (λ e. let lt = ltb-true x n e in record { first = omega arith; second = omega arith; one = inr refl })
    (λ e. let ge = ltb-false x n e in record { first = omega arith; second = omega arith; one = inl refl })

lower_of : (n x : ℕ) (xs : List ℕ) {m r : ℕ} → Lower n x m → LowestOf (m ∷ xs) r → LowestOf (n ∷ x ∷ xs) r
unfolding member some
lower_of n x xs {m} {r} w l =
    let low : r ≤ m = l.least m (first_member m xs) in
    record {
      among = ⊎_elim
          (λ (h : eqb m r ≡ true). let own = eqb-true m r h in ⊎_elim
          (λ (e : m ≡ n). rw (eq-eqb n r (sym e ∙ own)))
          (λ (e : m ≡ x). rw (eq-eqb x r (sym e ∙ own)) (or-true (eqb n r)))
          w.one)
          (λ (h : member r xs ≡ true). rw h (rw (or-true (eqb x r)) (or-true (eqb n r))))
          (either (eqb m r) (member r xs) l.among);
      least = λ y h. ⊎_elim
          (λ (a : eqb n y ≡ true). omega (arith, low, w.first, eqb-true n y a))
          (λ (a : (eqb x y || member y xs) ≡ true). ⊎_elim
          (λ (b : eqb x y ≡ true). omega (arith, low, w.second, eqb-true x y b))
          (λ (b : member y xs ≡ true). l.least y (rw b (or-true (eqb m y))))
          (either (eqb x y) (member y xs) a))
          (either (eqb n y) (eqb x y || member y xs) h);
    }

lowest-from : (n : ℕ) (xs : List ℕ) → LowestOf (n ∷ xs) (lowest_from n xs)
unfolding lowest_from member some
lowest-from n [] = record { among = first_member n []; least = λ x h. alone x h }
  where
    alone : (x : ℕ) → member x (n ∷ []) ≡ true → n ≤ x
    alone x h = ⊎_elim (λ (a : eqb n x ≡ true). let e = eqb-true n x a in omega arith) (λ (z : false ≡ true). absurd (true≢false (sym z))) (either (eqb n x) false h)
lowest-from n (x ∷ xs) = lower_of n x xs (lower-is n x) (lowest-from (lower n x) xs)

lowest-of : (xs : List ℕ) (r : ℕ) → member r xs ≡ true → LowestOf xs (lowest xs)
unfolding lowest member some
lowest-of [] r h = absurd (true≢false (sym h))
lowest-of (x ∷ xs) r h = lowest-from x xs

-- ---- from a conflict to a record, and back
pub clash-conflicts : (q : List Request) (e : Request) (r : ℕ) → clashes_on q e r ≡ true → conflicts_any q e ≡ true
unfolding clash_at
clash-conflicts q e r h =
    let x = some (written_in q) e.reads in
    let y = some (λ k. written_in q k || read_in q k) e.writes in
    conflict-spread q e ∙ ⊎_elim
    (λ (a : (member r e.reads && written_in q r) ≡ true). let w = both (member r e.reads) (written_in q r) a in rw (some-here (written_in q) r e.reads w.0 w.1))
    (λ (a : (member r e.writes && (written_in q r || read_in q r)) ≡ true). let w = both (member r e.writes) (written_in q r || read_in q r) a in rw (some-here (λ k. written_in q k || read_in q k) r e.writes w.0 w.1) (or-true x))
    (either (member r e.reads && written_in q r) (member r e.writes && (written_in q r || read_in q r)) h)

conflict-clashes : (q : List Request) (e : Request) → conflicts_any q e ≡ true → (r : ℕ) × (clashes_on q e r ≡ true)
unfolding clash_at
conflict-clashes q e h =
    let x = some (written_in q) e.reads in
    let y = some (λ k. written_in q k || read_in q k) e.writes in
    ⊎_elim
    (λ (a : x ≡ true). let w = some_at (written_in q) e.reads a in (w.0, simp (w.1, w.2)))
    (λ (a : y ≡ true). let w = some_at (λ k. written_in q k || read_in q k) e.writes a in (w.0, simp (w.1, w.2, or-true)))
    (either x y (sym (conflict-spread q e) ∙ h))

-- ---- the record that is reported
-- a record on which it clashes is one that it names
pub clash-named : (written read : ℕ → Bool) (e : Request) (r : ℕ) → clash_at written read e r ≡ true → (member r e.reads ≡ true) ⊎ (member r e.writes ≡ true)
unfolding clash_at
clash-named written read e r h = ⊎_elim
    (λ (a : (member r e.reads && written r) ≡ true). inl (both (member r e.reads) (written r) a).0)
    (λ (a : (member r e.writes && (written r || read r)) ≡ true). inr (both (member r e.writes) (written r || read r) a).0)
    (either (member r e.reads && written r) (member r e.writes && (written r || read r)) h)

-- the records on which the request clashes are those that are kept
clash-kept : (q : List Request) (e : Request) (r : ℕ) → member r (keep_if (clashes_on q e) (e.reads ++ e.writes)) ≡ clashes_on q e r
unfolding member
clash-kept q e r = keep-member (clashes_on q e) r (e.reads ++ e.writes) ∙ go (clashes_on q e r) refl
  where
    named : clashes_on q e r ≡ true → member r (e.reads ++ e.writes) ≡ true
    named h = some-append (λ (x : ℕ). eqb x r) e.reads e.writes ∙ ⊎_elim
        (λ (a : member r e.reads ≡ true). ap (λ (t : Bool). t || member r e.writes) a)
        (λ (a : member r e.writes ≡ true). ap (λ (t : Bool). member r e.reads || t) a ∙ or-true (member r e.reads))
        (clash-named (written_in q) (read_in q) e r h)

    go : (b : Bool) → clashes_on q e r ≡ b → (member r (e.reads ++ e.writes) && b) ≡ b
    go true h = rw (named h)
    go false h = and-false (member r (e.reads ++ e.writes))

pub lowest-reported : LowestReported
unfolding lowest_clash
lowest-reported q e h =
    let w = conflict-clashes q e h in
    let kept = keep_if (clashes_on q e) (e.reads ++ e.writes) in
    let l = lowest-of kept w.0 (clash-kept q e w.0 ∙ w.1) in
    record { clashes = sym (clash-kept q e (lowest kept)) ∙ l.among; lowest = λ x c. l.least x (clash-kept q e x ∙ c) }

pub conflict-told : ConflictClashes
conflict-told q e = (λ h. (lowest_clash q e, lowest-reported q e h), λ w. clash-conflicts q e w.0 w.1.clashes)

-- there is one such record
pub lowest-one : {q : List Request} {e : Request} {r : ℕ} → IsLowestClash q e r → lowest_clash q e ≡ r
lowest-one {q} {e} {r} l =
    let k = lowest-reported q e (clash-conflicts q e r l.clashes) in
    let up : lowest_clash q e ≤ r = k.lowest r l.clashes in
    let down : r ≤ lowest_clash q e = l.lowest (lowest_clash q e) k.clashes in
    omega arith

-- ---- with whom: the record is shared with some entry
pub clash-shares : ClashShares
unfolding clash_at
clash-shares q e r =
    let reads = member r e.reads in
    let writes = member r e.writes in
    let w = written_in q r in
    let s = read_in q r in
    let theirs : some (λ (a : Request). member r a.writes && (reads || writes)) q ≡ (w && (reads || writes)) = some-both (λ (a : Request). member r a.writes) (reads || writes) q in
    let own : some (λ (a : Request). writes && (member r a.reads || member r a.writes)) q ≡ ((s || w) && writes) = some-cong q (λ a. and_comm writes (member r a.reads || member r a.writes)) ∙ some-both (λ (a : Request). member r a.reads || member r a.writes) writes q ∙ ap (λ (t : Bool). t && writes) (some_or (λ (a : Request). member r a.reads) (λ (a : Request). member r a.writes) q) in
    sym (some_or (λ (a : Request). member r a.writes && (reads || writes)) (λ (a : Request). writes && (member r a.reads || member r a.writes)) q ∙ ap (λ (t : Bool). t || some (λ (a : Request). writes && (member r a.reads || member r a.writes)) q) theirs ∙ ap (λ (t : Bool). (w && (reads || writes)) || t) own ∙ go reads writes w s)
  where
    go : (x y w s : Bool) → ((w && (x || y)) || ((s || w) && y)) ≡ ((x && w) || (y && (w || s)))
    go true true true s = refl
    go true true false true = refl
    go true true false false = refl
    go true false true s = refl
    go true false false true = refl
    go true false false false = refl
    go false true true s = refl
    go false true false true = refl
    go false true false false = refl
    go false false true true = refl
    go false false true false = refl
    go false false false true = refl
    go false false false false = refl

-- ---- from the lists as given
or_self : (w r : Bool) → (w || r) ≡ (w || (w || r))
or_self true r = refl
or_self false r = refl

given : (a b w r : Bool) → (((a && not b) && w) || (b && (w || r))) ≡ ((a && w) || (b && (w || r)))
given true true w r = or_self w r
given false true w r = refl
given true false w r = refl
given false false w r = refl

pub reduced-clashes : ReducedClashes
unfolding clash_at
reduced-clashes q e r =
    ap (λ (b : Bool). (b && written_in q r) || (member r e.writes && (written_in q r || read_in q r))) (only-read-exact r e.reads e.writes) ∙ given (member r e.reads) (member r e.writes) (written_in q r) (read_in q r)

-- ---- by the maps
-- only whether the record itself is written and read is asked
pub clash-by : (written read written' read' : ℕ → Bool) (e : Request) (r : ℕ) → written r ≡ written' r → read r ≡ read' r → clash_at written read e r ≡ clash_at written' read' e r
unfolding clash_at
clash-by written read written' read' e r w s = cc (w, s)

pub maps-clash : MapsClash
maps-clash q e r = clash-by _ _ (written_in q) (read_in q) e r (count-above (λ (a : Request). member r a.writes) q) (count-above (λ (a : Request). member r a.reads) q)

pub maps-tell-figure2 : MapsTellFigure2
maps-tell-figure2 q e f = (
  λ h. let w = conflict-clashes q e (sym (figure2-conflicts q e f) ∙ h) in (w.0, maps-clash q e w.0 ∙ w.1),
  λ w. figure2-conflicts q e f ∙ clash-conflicts q e w.0 (sym (maps-clash q e w.0) ∙ w.1),
)

-- ---- the entry that joins, and what a Begin answers with
promoted-runs : (e : Request) → is_blocked (promoted e).mode ≡ false
unfolding promoted
promoted-runs e = if-either (λ (m : Mode). is_blocked m ≡ false) (ltb 0 e.due) refl refl

pub record Joining (q : List Request) (e joins : Request) (says : Answer) : Type 0 where
  pub entry : admitted q e ≡ joins
  pub answer : begun q e ≡ says

pub joins-blocked : (q : List Request) (e : Request) → e.mode ≡ Blocked → conflicts_any q e ≡ true → Joining q e e (BlockedOn e.tenant e.serial (lowest_clash q e))
unfolding admitted
joins-blocked q e blocked h = record { entry = rw h refl; answer = rw (h, blocked) refl }

pub joins-clear : (q : List Request) (e : Request) → conflicts_any q e ≡ false → Joining q e (promoted e) (named (promoted e))
unfolding admitted
joins-clear q e h = record { entry = rw h refl; answer = rw (h, promoted-runs e) refl }

-- it is no refusal, and names the request
pub begun-said : (q : List Request) (e : Request) → ((said (begun q e)).number ≡ 0) × ((said (begun q e)).values ≡ e.tenant ∷ e.serial ∷ [])
begun-said q e =
    let same = admitted-as q e in
    let name : (said (named (admitted q e))).values ≡ e.tenant ∷ e.serial ∷ [] = ap (λ (a : Request). a.tenant ∷ a.serial ∷ []) same in
    if-either (λ (a : Answer). ((said a).number ≡ 0) × ((said a).values ≡ e.tenant ∷ e.serial ∷ [])) (is_blocked (admitted q e).mode) (refl, refl) (refl, name)
