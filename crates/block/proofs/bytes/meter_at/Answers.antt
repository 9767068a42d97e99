-- Each number is the sum of its bytes, the high one first.
use Rattle.std.proofs.Common.{ℕ, ◌+◌, ◌-◌, ◌*◌, ◌≡◌, List, take, drop, arith}
use Rattle.block.specs.Clauses.{two_at, four_at, meter_from}
use Rattle.block.proofs.Passing.{meter-cut}
use Rattle.block.proofs.bytes.meter_at.Goals as goal

pub returns : goal.returns
unfolding meter_from
returns c =
    let at = 22 + c.args.i * 6 in
    let p : List ℕ = take (at + 6 - at) (drop at c.args.b.now) in
    let fuel : c.from_be_bytes.result ≡ four_at p 0 = omega (arith, c.from_be_bytes.ensures) in
    let serials : c.from_be_bytes-2.result ≡ two_at p 4 = omega (arith, c.from_be_bytes-2.ensures) in
    meter-cut c.args.b.now c.args.i (rw (fuel, serials))
