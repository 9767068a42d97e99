-- Only the length is tested.
use Rattle.std.proofs.Common.{arith, ◌≡◌, length}
use Rattle.damsonpouch.proofs.Linking.{short-linked, opened-linked}
use Rattle.damsonpouch.proofs.damsonpouch_open.Goals as goal

pub returns-then-b-ne2176 : goal.returns-then-b-ne2176
returns-then-b-ne2176 c = short-linked (λ (whole : length c.args.b.now ≡ 2_176). omega arith) c.refused.ensures

pub returns : goal.returns
returns c =
    let whole : length c.args.b.now ≡ 2_176 = omega arith in
    opened-linked _ whole c.open.ensures c.stored.ensures.b_after c.stored.ensures.value
