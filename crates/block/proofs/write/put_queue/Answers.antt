-- A head with the count, the entries, and zeros up to the end.
use Rattle.std.proofs.Common.{arith, List, ℕ, [], ◌∷◌, ◌++◌, ◌+◌, ◌-◌, ◌*◌, ◌≡◌, length, length-take, length-drop, drop, map, replicate, take, ap, ◌∙◌}
use Rattle.entry.specs.Entry.{request}
use Rattle.block.specs.Bytes.{entry_bytes, head}
use Rattle.block.specs.Block.{flat}
use Rattle.block.proofs.Writing.{put_first, put-to-end}
use Rattle.block.proofs.write.put_queue.Goals as goal

pub returns : goal.returns
returns c =
    let es = c.args.entries.now in
    let at = 640 + length es * 24 in
    let size : length c.put_entries.new.b ≡ 2176 = omega arith in
    let left : length (take (2176 - at) (drop at c.put_entries.new.b)) ≡ 2176 - at = simp (length-take, length-drop) (omega arith) in
    put-to-end c.put_entries.new.b c.fill.new.self at size
    ∙ ap (λ (t : List ℕ). take at c.put_entries.new.b ++ t) (c.fill.ensures.after (λ y h. h) ∙ ap (λ (k : ℕ). replicate {A = ℕ} k 0) left)
    ∙ ap (λ (t : List ℕ). t ++ replicate (2176 - at) 0) (c.put_entries.ensures ∙ ap (λ (t : List ℕ). t ++ flat entry_bytes (map request es)) (put_first c.args.b.now (head 21 1_537 ++ length es ∷ []) 636 (omega arith) c.put.ensures))
