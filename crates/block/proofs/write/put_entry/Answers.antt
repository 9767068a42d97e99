-- The eight numbers, and the lists behind them.
use Rattle.std.proofs.Common.{ℕ, ◌+◌, ◌≡◌, arith, List, [], ◌∷◌, ◌++◌, length, get_or, take, ap, ◌∙◌, append_assoc}
use Rattle.std.proofs.Math.Seq.{length-take-le}
use Rattle.entry.specs.Entry.{request}
use Rattle.block.specs.Bytes.{padded, entry_bytes}
use Rattle.block.proofs.Writing.{put_first, two-bytes}
use Rattle.block.proofs.write.put_entry.Goals as goal

pub returns : goal.returns
unfolding entry_bytes
returns c =
    let e = c.args.e.now in
    let at = c.args.at in
    let eight : length e.reads ≡ 8 = omega arith in
    let eight' : length e.writes ≡ 8 = omega arith in
    let nr : length (take e.nr e.reads) ≡ e.nr = length-take-le e.nr e.reads (omega (arith, c.requires.tidy.few-reads)) in
    let nw : length (take e.nw e.writes) ≡ e.nw = length-take-le e.nw e.writes (omega (arith, c.requires.tidy.few-writes)) in
    let serial = c.to_be_bytes.ensures ∙ two-bytes e.serial (omega arith) in
    let h = e.tenant ∷ get_or c.to_be_bytes.result 0 0 ∷ get_or c.to_be_bytes.result 1 0 ∷ c.mode_byte-mode.result ∷ e.awaited ∷ e.due ∷ e.nr ∷ e.nw ∷ [] in
    let x = padded 16 ((request e).reads ++ (request e).writes) in
    let n : at + 24 ≡ at + 8 + 16 = omega arith in
    ap (λ (k : ℕ). take k c.put_lists.new.b) n
    ∙ c.put_lists.ensures
    ∙ ap (λ (t : List ℕ). t ++ x) (put_first c.args.b.now h at (omega arith) c.put.ensures)
    ∙ append_assoc (take at c.args.b.now) h x
    ∙ rw (serial, c.mode_byte-mode.ensures, nr, nw)
