-- The first word with a bit has the lowest record, at its lowest bit.
use Rattle.std.proofs.Common.{arith, ◌≡◌, ap, ◌∙◌, ℕ}
use Rattle.maps.specs.Maps.{bit_set, clash_in}
use Rattle.maps.proofs.Words.{zero_bit}
use Rattle.maps.proofs.Records.{up_to, passes, clash-word}
use Rattle.maps.proofs.Maps.lowest_clash.Goals as goal

pub returns-then-w-gt0 : goal.returns-then-w-gt0
returns-then-w-gt0 c =
    let s = c.args in
    let clashes = clash_in s.self.now.read s.self.now.written s.ahead.now.written s.ahead.now.read in
    let by_bit = clash-word s.self.now.read s.self.now.written s.ahead.now.written s.ahead.now.read c.loop-i.i c.clash_bits-w.result c.clash_bits-w.ensures in
    let low = c.low_bit.ensures in
    let k = c.low_bit.result in (
      omega (arith, low.small, c.loop-i-test.true),
      passes clashes c.loop-i.i c.clash_bits-w.result by_bit k low.small low.is,
      up_to clashes c.loop-i.i c.clash_bits-w.result by_bit k (omega (arith, low.small)) low.below c.loop-i.invariant,
    )

pub loop-i-preserved : goal.loop-i-preserved
loop-i-preserved c =
    let s = c.args in
    let clashes = clash_in s.self.now.read s.self.now.written s.ahead.now.written s.ahead.now.read in
    let word = c.clash_bits-w.result in
    let by_bit = clash-word s.self.now.read s.self.now.written s.ahead.now.written s.ahead.now.read c.loop-i.i word c.clash_bits-w.ensures in
    let none : word ≡ 0 = omega (arith, c.if-w-gt0.false) in
    let clear = up_to clashes c.loop-i.i word by_bit 64 (omega arith) (λ j lt. ap (λ (x : ℕ). bit_set x j) none ∙ zero_bit j) c.loop-i.invariant in
    λ q h. clear q (omega (arith, h))
