-- Behind the last entry stands nobody. Else the entries ahead are lent, and their requests are those of the list.
use Rattle.std.proofs.Common.{rules, ◌≡◌, sym, ap, ◌∙◌, not, ◌≤◌, take, map, arith}
use lib.Seq.{take-take}
use borrow.Author.Tests.{le-leb}
use Rattle.rules.proofs.Conflict.{past-clear}
use Rattle.rules.proofs.Mapped.{map-take}
use Rattle.entry.specs.Entry.{request}
use Rattle.queue.specs.Queue.{queued}
use Rattle.queue.proofs.Views.{Slots, requests-length, request-at}
use Rattle.manager.specs.State.{queue_of, view}
use Rattle.manager.proofs.scan.clear_by_pairs.Goals as goal

pub returns-then-s-at : goal.returns-then-s-at
returns-then-s-at c =
    let slots : Slots (queue_of c.args.s.now) = record { full = search rules; neat = c.requires.tied.neat } in
    let none = past-clear (view c.args.s.now).queue c.args.at (omega (arith, requests-length slots)) in
    le-leb _ _ c.if-s-at.true ∙ ap not (sym none)

pub returns-else-s-at : goal.returns-else-s-at
returns-else-s-at c =
    let q = queue_of c.args.s.now in
    let slots : Slots q = record { full = search rules; neat = c.requires.tied.neat } in
    let le : c.args.at ≤ q.count = omega arith in
    let same : map request (take c.args.at q.entries) ≡ take c.args.at (view c.args.s.now).queue = ap (map request) (sym (take-take c.args.at q.count q.entries le)) ∙ map-take request c.args.at (queued q) in
    ap not (c.clash_before.ensures ∙ cc (same, request-at slots c.if-s-at.false))
