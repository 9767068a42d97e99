-- After all turns all shares are written.
use Rattle.std.proofs.Common.{arith, ◌<◌, ◌∙◌, length, map, refl, ap, sym}
use Rattle.std.proofs.Math.ListN.{length-map, get_or-map}
use Rattle.meter.specs.View.{meter_view, no_meter}
use Rattle.block.specs.Bytes.{share_byte}
use Rattle.block.proofs.Writing.{rows_none, rows-put, rows-all}
use Rattle.block.proofs.write.put_shares.Goals as goal

pub loop-i-init : goal.loop-i-init
loop-i-init c = rows_none _ _ _ _ _

pub loop-i-preserved : goal.loop-i-preserved
loop-i-preserved c =
    let ms = c.args.meters.now in
    let there : c.loop-i.i < length (map meter_view ms) = omega (arith, length-map ms meter_view) in
    rows-put _ _ _ _ c.loop-i.invariant _ (omega arith) (meter_view no_meter) there (ap share_byte (sym (get_or-map meter_view ms c.loop-i.i no_meter))) refl (omega arith) c.put.ensures

pub returns : goal.returns
returns c = rows-all _ _ _ _ c.loop-i.invariant 16 (length-map c.args.meters.now meter_view ∙ c.told-meters) c.loop-i-test.false c.loop-i.auto.i-end
