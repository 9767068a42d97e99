-- The slots that a tenant holds are the places that the law book counts.
use Rattle.std.specs.Prelude.{if◌then◌else◌}
use Rattle.std.proofs.Common.{rules, ◌≡◌, refl, sym, ◌∙◌, ℕ, ◌+◌, Bool, true, false, cond, List, map, take, arith}
use Rattle.std.specs.List.{count_by}
use Rattle.std.proofs.lemmas.List.Recursion.{is_count_by}
use lib.Dec.{eqb}
use Rattle.rules.specs.Lists.{count_if}
use Rattle.rules.specs.Table.{places_of}
use Rattle.entry.specs.declared.Entry.{Entry}
use Rattle.entry.specs.Entry.{request}
use Rattle.manager.proofs.begin.places.Goals as goal

one-more : (b : Bool) (n : ℕ) → (if b then 1 else 0) + n ≡ cond b (1 + n) n
one-more true n = refl
one-more false n = omega arith

places-told : (who : ℕ) (es : List Entry) → places_of (map request es) who ≡ count_by (λ (e : Entry). eqb e.tenant who) es
unfolding count_if
places-told who = is_count_by (λ (l : List Entry). places_of (map request l) who) (λ (e : Entry). eqb e.tenant who) refl (λ e l. one-more (eqb e.tenant who) (places_of (map request l) who))

pub returns : goal.returns
returns c =
    let held = take c.args.s.now.count c.args.s.now.entries in
    let counted : c.count.result ≡ count_by (λ (e : Entry). eqb e.tenant c.args.who) held = search rules in
    counted ∙ sym (places-told c.args.who held)
