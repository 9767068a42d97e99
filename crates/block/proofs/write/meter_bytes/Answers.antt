-- Each number's bytes are its digits in base 256.
use Rattle.std.proofs.Common.{arith, ◌∙◌}
use Rattle.block.specs.Bytes.{meter_bytes}
use Rattle.block.proofs.Writing.{two-bytes, four-bytes}
use Rattle.block.proofs.write.meter_bytes.Goals as goal

pub returns : goal.returns
unfolding meter_bytes
returns c =
    let fuel = c.to_be_bytes.ensures ∙ four-bytes c.args.m.fuel (omega arith) in
    let serials = c.to_be_bytes-2.ensures ∙ two-bytes c.args.m.serials (omega arith) in
    rw (fuel, serials)
