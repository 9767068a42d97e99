-- A head and the shares, a head and the meters, each behind what stands before it.
use Rattle.std.proofs.Common.{arith, List, ℕ, ◌++◌, map, ap, ◌∙◌}
use Rattle.meter.specs.View.{meter_view}
use Rattle.block.specs.Bytes.{meter_bytes, share_byte, head}
use Rattle.block.specs.Block.{flat}
use Rattle.block.proofs.Writing.{put_first}
use Rattle.block.proofs.write.put_tenants.Goals as goal

pub returns : goal.returns
returns c =
    let ms = map meter_view c.args.meters.now in
    c.put_meters.ensures
    ∙ ap (λ (t : List ℕ). t ++ flat meter_bytes ms) (put_first c.put_shares.new.b (head 18 96) 19 (omega arith) c.put-2.ensures ∙ ap (λ (t : List ℕ). t ++ head 18 96) (c.put_shares.ensures ∙ ap (λ (t : List ℕ). t ++ flat share_byte ms) (put_first c.args.b.now (head 17 16) 0 (omega arith) c.put.ensures)))
