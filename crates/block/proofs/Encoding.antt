-- A sound state, written field by field, is the block of its table.
use Prim.Native.Nat.{ℕ, ◌+◌, ◌-◌, ◌*◌}
use mathlib.Core.Path.{◌≡◌, sym, ap, ◌∙◌}
use mathlib.Core.List.{List, [], ◌∷◌, ◌++◌, map}
use native.Mathlib.Omega.{arith}
use lib.ListN.{length, replicate}
use Rattle.rules.specs.Table.{Table}
use Rattle.rules.specs.Counters.{cx, cs}
use Rattle.meter.specs.View.{meter_view}
use Rattle.queue.specs.Queue.{requests}
use Rattle.queue.proofs.Views.{Slots, requests-length}
use Rattle.manager.specs.declared.State.{State}
use Rattle.manager.specs.State.{view, queue_of, Sound}
use Rattle.manager.specs.Tight.{Sized}
use Rattle.block.specs.Bytes.{meter_bytes, entry_bytes, share_byte, head}
use Rattle.block.specs.Block.{flat, tab, block_of}
use Rattle.block.proofs.Places.{tab-of}

-- the block by its parts: the counters, the count and the number of zeros apart
abbrev laid : Table → List ℕ → List ℕ → ℕ → ℕ → List ℕ
laid t x y n z =
    head 17 16 ++ flat share_byte t.meters
    ++ head 18 96 ++ flat meter_bytes t.meters
    ++ head 19 256 ++ x
    ++ head 20 256 ++ y
    ++ (head 21 1_537 ++ n ∷ []) ++ flat entry_bytes t.queue ++ replicate z 0

pub state-laid : (s : State) → Sized s → Sound s → laid (view s) s.cx s.cs s.count (2176 - (640 + s.count * 24)) ≡ block_of (view s)
unfolding block_of
state-laid s z h =
    let t = view s in
    let n = s.count in
    let x : s.cx ≡ tab (cx t.queue) 256 = tab-of (cx t.queue) 256 s.cx z.writers h.tied.writers.each in
    let y : s.cs ≡ tab (cs t.queue) 256 = tab-of (cs t.queue) 256 s.cs z.readers h.tied.readers.each in
    let slots : Slots (queue_of s) = record { full = z.slots; neat = h.tied.neat } in
    let m : n ≡ length t.queue = sym (requests-length slots) in
    let k : 2176 - (640 + n * 24) ≡ (64 - length t.queue) * 24 = omega (arith, m, h.tied.neat.within) in
    ap (λ (c : List ℕ). laid t c s.cs n (2176 - (640 + n * 24))) x
    ∙ ap (λ (c : List ℕ). laid t (tab (cx t.queue) 256) c n (2176 - (640 + n * 24))) y
    ∙ ap (λ (c : ℕ). laid t (tab (cx t.queue) 256) (tab (cs t.queue) 256) n c) k
    ∙ ap (λ (c : ℕ). laid t (tab (cx t.queue) 256) (tab (cs t.queue) 256) c ((64 - length t.queue) * 24)) m

pub encoded : (s : State) {p₁ p₂ p₃ b : List ℕ} → Sized s → Sound s
    → p₁ ≡ head 17 16 ++ flat share_byte (map meter_view s.meters) ++ head 18 96 ++ flat meter_bytes (map meter_view s.meters)
    → p₂ ≡ p₁ ++ head 19 256 ++ s.cx
    → p₃ ≡ p₂ ++ head 20 256 ++ s.cs
    → b ≡ p₃ ++ (head 21 1_537 ++ s.count ∷ []) ++ flat entry_bytes (requests (queue_of s)) ++ replicate (2176 - (640 + s.count * 24)) 0
    → b ≡ block_of (view s)
encoded s z h e₁ e₂ e₃ e₄ =
    e₄
    ∙ ap (λ (t : List ℕ). t ++ (head 21 1_537 ++ s.count ∷ []) ++ flat entry_bytes (requests (queue_of s)) ++ replicate (2176 - (640 + s.count * 24)) 0)
    (e₃ ∙ ap (λ (t : List ℕ). t ++ head 20 256 ++ s.cs) (e₂ ∙ ap (λ (t : List ℕ). t ++ head 19 256 ++ s.cx) e₁))
    ∙ state-laid s z h
