-- What the shares so far add up to, and what is left to add.
use Rattle.std.proofs.Common.{◌≤◌, ◌≡◌, ◌+◌, ◌*◌, drop}
use Rattle.rules.specs.Lists.{total}
use Rattle.manager.proofs.open.sum.Given as goal

abbrev pub invariant-loop-share : goal.invariant-loop-share
invariant-loop-share l =
    (l.places ≤ 255 * l.share-index) × (total (λ n. n) l.shares ≡ l.places + total (λ n. n) (drop l.share-index l.shares))
