-- Bit by bit.
use mathlib.Core.Path.{◌∙◌}
use lib.Bits.{bit_and, bit_or}
use Rattle.maps.proofs.Words.{or-bit, and-bit}
use Rattle.maps.proofs.clash_bits.Goals as goal

pub returns : goal.returns
returns c =
    let a = c.args in
    record {
      each = λ k. or-bit (bit_and a.reads a.written) (bit_and a.writes (bit_or a.written a.read)) k ∙ rw (and-bit a.reads a.written k, and-bit a.writes (bit_or a.written a.read) k, or-bit a.written a.read k);
    }
