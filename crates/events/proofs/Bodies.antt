-- The body of a whole record with lists: how long it is, and where its lists stand in the file.
use Prim.Native.Nat.{ℕ, ◌+◌, ◌-◌, ◌≤◌}
use mathlib.Core.Path.{◌≡◌, refl, sym, ap, ◌∙◌}
use mathlib.Core.Bool.{true, false, true≢false}
use mathlib.Core.List.{List}
use native.Mathlib.Omega.{arith}
use lib.Dec.{leb}
use lib.ListN.{take, drop}
use lib.Seq.{take-take}
use borrow.Author.Tests.{leb-true}
use Rattle.rules.specs.declared.Kind.{Kind}
use Rattle.std.specs.Prelude.{Option}
use Rattle.std.specs.Option.{is_some}
use Rattle.rules.specs.CallTable.{Body, bytes, lists, row_of}
use Rattle.rules.proofs.Tests.{both}
use Rattle.events.specs.Events.{byte_at, length_at, body_at, count_in, fits, length_of, Whole}
use Rattle.events.proofs.Parts.{rest-of-part, third-byte}

pub same_body : {k kind : Kind} → k ≡ kind → (row_of k).body ≡ (row_of kind).body
same_body e = ap (λ (x : Kind). (row_of x).body) e

-- a body that has no length of its own has lists
pub has-lists : {n : Option ℕ} {b : Body} → n ≡ length_of b → is_some n ≡ false → b ≡ lists
has-lists {b = bytes m} e none = absurd (true≢false (sym (ap is_some e) ∙ none))
has-lists {b = lists} e none = refl

module _ {file : List ℕ} {at : ℕ} {k : Kind} (w : Whole file at k) where
  abbrev body : List ℕ
  body = body_at file at

  -- ---- its length, by the table
  suits-as : (b : Body) → (row_of k).body ≡ b → fits b (length_at file at) (count_in body) ≡ true
  suits-as b e = rw e at w.suited

  -- the head of three bytes, and r reads
  pub has-head : (row_of k).body ≡ lists → 3 ≤ length_at file at
  has-head e = leb-true 3 (length_at file at) (both (leb 3 (length_at file at)) (leb (count_in body) (length_at file at - 3)) (suits-as lists e)).0

  pub count-is : (row_of k).body ≡ lists → count_in body ≡ byte_at file (at + 5)
  count-is e = third-byte file at (length_at file at) (has-head e)

  pub has-reads : (row_of k).body ≡ lists → byte_at file (at + 5) ≤ length_at file at - 3
  has-reads e =
      let n = length_at file at in
      rw (count-is e) at (leb-true (count_in body) (n - 3) (both (leb 3 n) (leb (count_in body) (n - 3)) (suits-as lists e)).1)

  -- ---- its lists
  pub reads-are : (row_of k).body ≡ lists → take (count_in body) (drop 3 body) ≡ take (byte_at file (at + 5)) (drop (at + 6) file)
  reads-are e =
      let n = length_at file at in
      let r = byte_at file (at + 5) in
      let place : at + 3 + 3 ≡ at + 6 = omega arith in
      ap (λ (c : ℕ). take c (drop 3 body)) (count-is e)
      ∙ ap (take r) (rest-of-part file (at + 3) n 3 (at + 6) (has-head e) place)
      ∙ take-take r (n - 3) (drop (at + 6) file) (has-reads e)

  pub writes_are : (row_of k).body ≡ lists → drop (3 + count_in body) body ≡ take (length_at file at - 3 - byte_at file (at + 5)) (drop (at + 6 + byte_at file (at + 5)) file)
  writes_are e =
      let n = length_at file at in
      let r = byte_at file (at + 5) in
      let within : 3 + r ≤ n = omega (arith, has-head e, has-reads e) in
      let place : at + 3 + (3 + r) ≡ at + 6 + r = omega arith in
      let left : n - (3 + r) ≡ n - 3 - r = omega arith in
      ap (λ (c : ℕ). drop (3 + c) body) (count-is e)
      ∙ rest-of-part file (at + 3) n (3 + r) (at + 6 + r) within place
      ∙ ap (λ (c : ℕ). take c (drop (at + 6 + r) file)) left
