-- Each step tells a part of the clauses, and the clauses are a sound block.
use Rattle.std.proofs.Common.{arith, ◌≤◌}
use Rattle.block.specs.Clauses.{count_in}
use Rattle.block.proofs.Telling.{tells-no, part-fails, part-holds, part-last}
use Rattle.block.proofs.Exact.{clauses-tell, sound-clauses}
use Rattle.block.proofs.Gathered.{gathered, meters-of, queue-of, unused-told}
use Rattle.block.proofs.check.sound.Goals as goal
use Rattle.block.proofs.check.sound.Goals.{then-not-heads-via-then-not-heads, then-not-heads-via-else-not-heads+then-not-tenants, then-n-gt64-via-then-n-gt64, then-n-gt64-via-else-n-gt64+then-not-zeros}

pub returns-in_default : goal.returns-in_default
returns-in_default c = tells-no (λ k. c.in_default.ensures.cases (sound-clauses k).as-above.whole)

pub returns-then-not-heads : goal.returns-then-not-heads
returns-then-not-heads c =
    let same = c.in-Some.ensures.cases.same in
    elim c.then-not-heads.branch [
      | then-not-heads-via-then-not-heads w ↦ part-fails (rw same at c.heads.ensures) w.if-not-heads.true (λ k. (sound-clauses k).as-above.heads)
      | then-not-heads-via-else-not-heads+then-not-tenants w ↦ part-fails (rw same at w.tenants.ensures) w.if-not-tenants.true (λ k. meters-of (sound-clauses k))
    ]

pub returns-then-n-gt64 : goal.returns-then-n-gt64
returns-then-n-gt64 c =
    let array = c.in-Some.ensures.cases in
    let count = rw array.same at c.from-n.ensures in
    elim c.then-n-gt64.branch [
      | then-n-gt64-via-then-n-gt64 w ↦ tells-no (λ k. omega (arith, w.if-n-gt64.true, count, (sound-clauses k).limits.count))
      | then-n-gt64-via-else-n-gt64+then-not-zeros w ↦
          part-fails (unused-told c.args.b.now array.long (omega (arith, w.if-n-gt64.false, count)) count (rw array.same at w.zeros.ensures)) w.if-not-zeros.true (λ k. (sound-clauses k).as-above.entries)
    ]

pub returns : goal.returns
returns c =
    let b = c.args.b.now in
    let array = c.in-Some.ensures.cases in
    let tell = clauses-tell b (λ k. omega (arith, c.type_inv.b k)) in
    let count = rw array.same at c.from-n.ensures in
    let few : count_in b ≤ 64 = omega (arith, c.if-n-gt64.false, count) in
    let heads = part-holds (rw array.same at c.heads.ensures) c.if-not-heads.false in
    let meters = part-holds (rw array.same at c.tenants.ensures) c.if-not-tenants.false in
    let unused = part-holds (unused-told b array.long few count (rw array.same at c.zeros.ensures)) c.if-not-zeros.false in
    part-last (rw array.same at c.entries.ensures) (λ q. tell.to (gathered b array.long heads meters few unused q)) (λ k. queue-of (tell.from k))
