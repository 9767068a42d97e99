-- The rows of a record's refusals: which number each way gives, and what no refusal means.
use Rattle.std.specs.Prelude.{if◌then◌else◌}
use Prim.Native.Nat.{ℕ, ◌+◌, ◌≤◌, ◌<◌}
use mathlib.Core.Path.{◌≡◌, refl, sym, ◌∙◌}
use mathlib.Core.Bool.{Bool, true, false, not}
use mathlib.Core.List.{List, [], ◌∷◌, ◌++◌}
use native.Mathlib.Omega.{arith}
use lib.Dec.{eqb}
use lib.ListN.{length, take, drop, length-take, length-drop}
use borrow.Author.Tests.{lt-ltb, le-ltb, ltb-false, eq-eqb, ne_eqb, not-true, not-false}
use Rattle.rules.specs.declared.Kind.{Kind}
use Rattle.rules.specs.Lists.{every}
use Rattle.rules.specs.CallTable.{row_of}
use Rattle.rules.specs.Refusals.{Row, first_of}
use Rattle.rules.proofs.Tests.{both}
use Rattle.rules.proofs.Refusals.{pass}
use Rattle.std.specs.Prelude.{Some, None}
use Rattle.rules.specs.Tags.{kind_of}
use Rattle.events.specs.Events.{tag_at, length_at, body_at, next_at, count_in, is_tag, fits, misplaced, body_rows, record_rows, file_rows, standing, Whole}
use Rattle.events.proofs.Tags.{unknown-tag}

module _ (file : List ℕ) (at : ℕ) where
  -- ---- the body
  module _ (k : Kind) where
    abbrev suited : Bool
    suited = fits (row_of k).body (length_at file at) (count_in (body_at file at))

    -- so many bytes behind the head are the record's body
    pub suited-as : {b : Bool} {n : ℕ} → n ≡ length_at file at → next_at file at ≤ length file → b ≡ fits (row_of k).body (length (take n (drop (at + 3) file))) (count_in (take n (drop (at + 3) file))) → suited ≡ b
    suited-as {b} {n} e inside f =
        let long : length (take n (drop (at + 3) file)) ≡ n = simp (length-take, length-drop) (omega arith) in
        sym (f ∙ cc (e, long))

    pub no_body : length file < next_at file at → first_of (body_rows file at (Some k)) ≡ 21
    unfolding body_rows first_of
    no_body h = simp (lt-ltb (length file) (next_at file at) h)

    pub no-fit : next_at file at ≤ length file → suited ≡ false → first_of (body_rows file at (Some k)) ≡ 22
    unfolding body_rows first_of
    no-fit h f = simp (le-ltb (length file) (next_at file at) h, f)

    pub body-whole : next_at file at ≤ length file → suited ≡ true → first_of (body_rows file at (Some k)) ≡ 0
    unfolding body_rows first_of
    body-whole h f = simp (le-ltb (length file) (next_at file at) h, f)

  -- ---- the record
  pub no-head : length file < at + 3 → first_of (record_rows file at) ≡ 21
  unfolding record_rows first_of
  no-head h = simp (lt-ltb (length file) (at + 3) h)

  module _ (h : at + 3 ≤ length file) where
    pub no-tag : kind_of (tag_at file at) ≡ None → first_of (record_rows file at) ≡ 20
    unfolding record_rows first_of
    no-tag e = simp (le-ltb (length file) (at + 3) h, unknown-tag (tag_at file at) e)

    pub tag-known : {k : Kind} → kind_of (tag_at file at) ≡ Some k → first_of (record_rows file at) ≡ first_of (body_rows file at (Some k))
    unfolding record_rows first_of
    tag-known e = simp (le-ltb (length file) (at + 3) h, e)

  -- a record with nothing wrong: its head is there, and the rest by its kind
  pub record Sound : Type 0 where
    pub head : at + 3 ≤ length file
    pub tag : is_tag (tag_at file at) ≡ true
    pub body : first_of (body_rows file at (kind_of (tag_at file at))) ≡ 0

  pub unbroken : first_of (record_rows file at) ≡ 0 → Sound
  unfolding record_rows
  unbroken z =
      let a = pass _ 21 _ refl z in
      let b = pass _ 20 _ refl a.1 in
      record { head = ltb-false (length file) (at + 3) a.0; tag = not-false (is_tag (tag_at file at)) b.0; body = b.1 }

  pub whole : first_of (record_rows file at) ≡ 0 → {k : Kind} → kind_of (tag_at file at) ≡ Some k → Whole file at k
  unfolding body_rows
  whole z {k} e =
      let rows : first_of (body_rows file at (Some k)) ≡ 0 = rw e at (unbroken z).body in
      let a = pass _ 21 _ refl rows in
      let b = pass _ 22 _ refl a.1 in
      record { inside = ltb-false (length file) (next_at file at) a.0; tag = e; suited = not-false (suited k) b.0 }

-- ---- what stands
module _ (file : List ℕ) (at : ℕ) where
  abbrev wrong : ℕ
  wrong = first_of (record_rows file at)

  pub stands : wrong ≡ 0 → standing file at ≡ kind_of (tag_at file at)
  stands z = rw (eq-eqb wrong 0 z)

-- ---- with the row of 23 behind
-- rows behind others that have numbers: the first that applies of those, or else of these
append-by : (b : Bool) (n m k l : ℕ) → eqb n 0 ≡ false → l ≡ (if eqb m 0 then k else m) → (if b then n else l) ≡ (if eqb (if b then n else m) 0 then k else (if b then n else m))
append-by true n m k l h e = rw h refl
append-by false n m k l h e = e

first-append : (xs ys : List Row) → every (λ row. not (eqb row.number 0)) xs ≡ true → first_of (xs ++ ys) ≡ (if eqb (first_of xs) 0 then first_of ys else first_of xs)
unfolding first_of every
first-append [] ys h = refl
first-append (x ∷ xs) ys h =
    let p = both (not (eqb x.number 0)) (every (λ (row : Row). not (eqb row.number 0)) xs) h in
    append-by x.when x.number (first_of xs) (first_of ys) (first_of (xs ++ ys)) (not-true (eqb x.number 0) p.0) (first-append xs ys p.1)

module _ (file : List ℕ) (at : ℕ) (first : Bool) where
  numbered : every (λ row. not (eqb row.number 0)) (record_rows file at) ≡ true
  unfolding record_rows body_rows every
  numbered = refl

  pub file-broken : (first_of (record_rows file at) ≡ 0 → ⊥) → first_of (file_rows file at first) ≡ first_of (record_rows file at)
  unfolding file_rows
  file-broken n = first-append (record_rows file at) _ numbered ∙ rw (ne_eqb (first_of (record_rows file at)) 0 n) refl

  pub file-whole : first_of (record_rows file at) ≡ 0 → first_of (file_rows file at first) ≡ (if misplaced (kind_of (tag_at file at)) first then 23 else 0)
  unfolding file_rows first_of
  file-whole z = first-append (record_rows file at) _ numbered ∙ rw (eq-eqb (first_of (record_rows file at)) 0 z) refl
