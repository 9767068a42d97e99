-- An entry ahead clashes, or none does.
use Rattle.std.proofs.Common.{rules, take, ◌∙◌, sym}
use Rattle.rules.specs.Request.{conflict}
use Rattle.rules.proofs.Chains.{some-told}
use Rattle.entry.specs.Entry.{request, blank}
use Rattle.entry.proofs.Lists.{some-map}
use Rattle.entry.proofs.clash_before.Goals as goal

pub returns : goal.returns
returns c =
    let e = request c.args.e.now in
    let ahead = take c.args.at c.args.entries.now in
    some-told (λ a. conflict (request a) e) ahead blank c.any.result (search rules) (search rules) ∙ sym (some-map (λ a. conflict a e) request ahead)
