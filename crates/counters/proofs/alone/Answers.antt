-- Recheck's condition by three comparisons, each of one list with one array of counters.
use Rattle.std.proofs.Common.{sym, ap, ◌∙◌}
use Rattle.rules.specs.Lists.{every}
use Rattle.rules.proofs.Verdicts.{alone-split}
use Rattle.counters.proofs.alone.Goals as goal
use Rattle.counters.proofs.alone.Goals.{then-all_equal, else-all_equal}

pub returns-then-all_equal-2 : goal.returns-then-all_equal-2
returns-then-all_equal-2 c = elim c.if-all_equal.branch [
  | then-all_equal w ↦
      let first = ap (every _) (sym c.writes.ensures.value) ∙ sym c.all_equal.ensures ∙ w.if-all_equal.true in
      let second = ap (every _) (sym w.writes-then-all_equal.ensures.value) ∙ sym w.all_equal-then-all_equal.ensures ∙ sym w.value-is ∙ c.if-all_equal-2.true in
      c.all_equal-then-all_equal-2.ensures ∙ ap (every _) c.reads.ensures.value ∙ sym (alone-split _ _ _ ∙ simp (first, second))
  | else-all_equal w ↦ cc (w.value-is, c.if-all_equal-2.true)
]

pub returns-else-all_equal-2 : goal.returns-else-all_equal-2
returns-else-all_equal-2 c = elim c.if-all_equal.branch [
  | then-all_equal w ↦
      let first = ap (every _) (sym c.writes.ensures.value) ∙ sym c.all_equal.ensures ∙ w.if-all_equal.true in
      let second = ap (every _) (sym w.writes-then-all_equal.ensures.value) ∙ sym w.all_equal-then-all_equal.ensures ∙ sym w.value-is ∙ c.if-all_equal-2.false in
      c.if-all_equal-2.false ∙ sym (alone-split _ _ _ ∙ simp (first, second))
  | else-all_equal w ↦
      let first = ap (every _) (sym c.writes.ensures.value) ∙ sym c.all_equal.ensures ∙ w.if-all_equal.false in
      c.if-all_equal-2.false ∙ sym (alone-split _ _ _ ∙ simp first)
]
