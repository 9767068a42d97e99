-- A read that is not written is sifted in, another one is left out.
use Rattle.std.proofs.Common.{arith, ◌≤◌, sym, ◌∙◌}
use Rattle.entry.proofs.Sieving.{sifted-out, sifted-in, sifted-count, sifted-kept}
use Rattle.entry.proofs.only_read.Goals as goal
use Rattle.entry.proofs.only_read.Goals.{then-not-holds, else-not-holds}

pub loop-r-preserved : goal.loop-r-preserved
loop-r-preserved c =
    let s = c.loop-r.invariant.1 in
    elim c.if-not-holds.branch [
      | then-not-holds w ↦
          let absent = sym c.holds.ensures ∙ w.if-not-holds.true in
          (omega (arith, w.k-is), rw (w.list-is, w.k-is) (sifted-in s c.loop-r-test.true (omega arith) absent))
      | else-not-holds w ↦
          let present = sym c.holds.ensures ∙ w.if-not-holds.false in
          (omega (arith, w.k-is), rw (w.list-is, w.k-is) (sifted-out s c.loop-r-test.true present))
    ]

pub returns : goal.returns
returns c =
    let end = c.loop-r-test.false in
    let fits : c.loop-r.k ≤ 8 = omega arith in
    record { count = sifted-count c.loop-r.invariant.1 end fits; kept = sifted-kept c.loop-r.invariant.1 end fits }
