-- The parts that the readers hand back: the body of a whole record, or its lists.
use Prim.Native.Nat.{ℕ, ◌+◌}
use mathlib.Core.Path.{◌≡◌, refl, sym, ap, ◌∙◌}
use mathlib.Core.Bool.{true, false}
use mathlib.Core.List.{List}
use lib.ListN.{length, take, drop}
use Rattle.rules.specs.declared.Kind.{Kind}
use Rattle.rules.specs.CallTable.{lists, row_of, is_opening}
use Rattle.rules.specs.Refusals.{first_of}
use Rattle.events.specs.Events.{body_at, count_in, record_rows, standing, is_lists, has_lists, part, within, shares_part, reads_part, writes_part, Whole}
use Rattle.events.proofs.Rows.{stands}
use Rattle.events.proofs.Bodies.{count-is, reads-are, writes_are}

module _ {file : List ℕ} {at : ℕ} {k : Kind} (w : Whole file at k) (z : first_of (record_rows file at) ≡ 0) where
  pub its_shares : is_opening (row_of k).role ≡ true → body_at file at ≡ within file (shares_part file at)
  unfolding shares_part
  its_shares o = rw (stands file at z, w.tag, o) refl

  module _ (l : (row_of k).body ≡ lists) where
    listed : has_lists (standing file at) ≡ true
    listed = ap has_lists (stands file at z ∙ w.tag) ∙ ap is_lists l

    pub its_reads : take (count_in (body_at file at)) (drop 3 (body_at file at)) ≡ within file (reads_part file at)
    unfolding reads_part
    its_reads = reads-are w l ∙ sym (rw listed refl)

    pub its_writes : drop (3 + count_in (body_at file at)) (body_at file at) ≡ within file (writes_part file at)
    unfolding writes_part
    its_writes = writes_are w l ∙ sym (rw listed refl)

    pub writes-from : (writes_part file at).from ≡ at + 6 + count_in (body_at file at)
    unfolding writes_part
    writes-from = rw listed (ap (λ (c : ℕ). at + 6 + c) (sym (count-is w l)))

-- where no record of the right kind stands
module _ (file : List ℕ) (at : ℕ) where
  pub no_reads : has_lists (standing file at) ≡ false → reads_part file at ≡ part (length file) 0
  unfolding reads_part
  no_reads e = rw e refl
