-- After all turns all meters are written.
use Rattle.std.proofs.Common.{arith, ◌≡◌, ◌<◌, ◌∙◌, length, map, refl, ap, sym}
use Rattle.std.proofs.Math.ListN.{length-map, get_or-map}
use Rattle.meter.specs.View.{meter_view, no_meter}
use Rattle.block.specs.Bytes.{meter_bytes}
use Rattle.block.proofs.Reading.{meter-length}
use Rattle.block.proofs.Writing.{rows_none, rows-put, rows-all}
use Rattle.block.proofs.write.put_meters.Goals as goal

pub loop-i-init : goal.loop-i-init
loop-i-init c = rows_none _ _ _ _ _

pub loop-i-preserved : goal.loop-i-preserved
loop-i-preserved c =
    let ms = c.args.meters.now in
    let there : c.loop-i.i < length (map meter_view ms) = omega (arith, length-map ms meter_view) in
    let six : length c.meter_bytes.result ≡ 6 = ap length c.meter_bytes.ensures ∙ meter-length _ in
    rows-put _ _ _ _ c.loop-i.invariant _ refl (meter_view no_meter) there (c.meter_bytes.ensures ∙ ap meter_bytes (sym (get_or-map meter_view ms c.loop-i.i no_meter))) six (omega arith) c.put.ensures

pub returns : goal.returns
returns c = rows-all _ _ _ _ c.loop-i.invariant 16 (length-map c.args.meters.now meter_view ∙ c.told-meters) c.loop-i-test.false c.loop-i.auto.i-end
