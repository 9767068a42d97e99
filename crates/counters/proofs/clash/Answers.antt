-- Figure 2 by three comparisons, each of one list with one array of counters.
use Rattle.std.proofs.Common.{sym, ◌∙◌}
use Rattle.rules.proofs.Verdicts.{figure2-split}
use Rattle.counters.proofs.clash.Goals as goal
use Rattle.counters.proofs.clash.Goals.{then-some_above, else-some_above}

pub returns-then-some_above-2 : goal.returns-then-some_above-2
returns-then-some_above-2 c = elim c.if-some_above.branch [
  | then-some_above w ↦ c.if-some_above-2.true ∙ sym (figure2-split _ _ _ ∙ simp (sym c.some_above.ensures ∙ w.if-some_above.true))
  | else-some_above w ↦
      let second = sym w.some_above-else-some_above.ensures ∙ sym w.value-is ∙ c.if-some_above-2.true in
      c.if-some_above-2.true ∙ sym (figure2-split _ _ _ ∙ simp (sym c.some_above.ensures ∙ w.if-some_above.false, second))
]

pub returns-else-some_above-2 : goal.returns-else-some_above-2
returns-else-some_above-2 c = elim c.if-some_above.branch [
  | then-some_above w ↦ cc (w.value-is, c.if-some_above-2.false)
  | else-some_above w ↦
      let second = sym w.some_above-else-some_above.ensures ∙ sym w.value-is ∙ c.if-some_above-2.false in
      c.some_above-else-some_above-2.ensures ∙ sym (figure2-split _ _ _ ∙ simp (sym c.some_above.ensures ∙ w.if-some_above.false, second))
]
