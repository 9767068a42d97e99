-- Each record is below the next, or one is not.
use Rattle.std.proofs.Common.{rules, ltb}
use Rattle.std.proofs.lemmas.List.Sorted.{answers_always}
use Rattle.entry.proofs.Lists.{rises-told}
use Rattle.entry.proofs.rises.Goals as goal

pub returns : goal.returns
returns c = let cases = c.is_sorted_by.ensures.cases ltb (answers_always _ _ _ (λ f a r g h. search rules)) in rises-told c.args.list.now c.is_sorted_by.result (search rules) (search rules)
