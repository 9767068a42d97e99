-- The reads with the zeros behind them, zeros, and the writes over the zeros behind the reads.
use Rattle.std.proofs.Common.{ℕ, ◌+◌, ◌≡◌, arith, List, length, take, sym, ap, ◌∙◌}
use Rattle.std.proofs.Math.Seq.{paste, length-take-le}
use Rattle.block.specs.Bytes.{padded}
use Rattle.block.proofs.Writing.{lists-written, row-padded}
use Rattle.block.proofs.write.put_lists.Goals as goal

pub returns : goal.returns
returns c =
    let e = c.args.e.now in
    let at = c.args.at in
    let t = c.requires.tidy in
    let eight : length e.reads ≡ 8 = omega arith in
    let eight' : length e.writes ≡ 8 = omega arith in
    let reads = row-padded e.reads e.nr eight t.few-reads t.reads-rest in
    let writes = row-padded e.writes e.nw eight' t.few-writes t.writes-rest in
    let n : length (take e.nr e.reads) ≡ e.nr = length-take-le e.nr e.reads (omega arith) in
    let m : length (take e.nw e.writes) ≡ e.nw = length-take-le e.nw e.writes (omega arith) in
    lists-written c.args.b.now (take e.nr e.reads) (take e.nw e.writes) at (omega arith) (omega arith) c.requires.at_in_bounds
    (c.put.ensures ∙ ap (λ (x : List ℕ). paste c.args.b.now at x (length x)) reads)
    c.put-2.ensures
    (rw c.from.ensures at c.put-3.ensures ∙ ap (λ (x : List ℕ). paste c.put-2.new.b (at + e.nr) x (length x)) writes ∙ ap (λ (k : ℕ). paste c.put-2.new.b (at + k) (padded 8 (take e.nw e.writes)) (length (padded 8 (take e.nw e.writes)))) (sym n))
