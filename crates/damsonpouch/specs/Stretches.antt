-- Calls on a block, with the host overwriting it as it likes. Between two overwritings lies a stretch of calls, which begins with
-- any bytes. A stretch that begins sound is a run of the law book, and so is what follows an Open, whatever stood there before;
-- calls on a block that is not sound change nothing. A call answered 15 is no step of a run: demand 3, which speaks of runs,
-- "neither counts a call answered 15 nor promises its admission".
use Rattle.std.specs.Prelude.{ℕ, ◌≡◌, true, not, List, [], ◌∷◌, map, length}
use Rattle.rules.specs.Lists.{every}
use Rattle.rules.specs.Table.{Table}
use Rattle.rules.specs.Prices.{clause9, prices_of}
use Rattle.rules.specs.Calls.{Outcome, open_of}
use Rattle.rules.specs.Sound.{Each, SoundTable}
use Rattle.rules.specs.Runs.{Call, Run, step, is_open, from, opened, run_of}
use Rattle.rules.specs.Runs.Call.{Begin, Finish, Recheck, Scan, Open, Grant, Pick, Deliver, Evict, Cancel}
use Rattle.manager.specs.Runs.{outcomes_of}
use Rattle.block.specs.Block.{block_of, SoundBlock}
use Rattle.damsonpouch.specs.declared.Reply.{Reply}
use Rattle.damsonpouch.specs.Reply.{reply_of, refused15}
use Rattle.damsonpouch.specs.Linked.{Linked, On, Anew}

-- the outcome that a call has on a block, whichever of the calls it is
abbrev pub Has : Call → List ℕ → Outcome → Type 0
Has (Begin who awaited reads writes) = On (λ t. step (prices_of t) t (Begin who awaited reads writes))
Has (Finish who serial) = On (λ t. step (prices_of t) t (Finish who serial))
Has (Recheck who serial) = On (λ t. step (prices_of t) t (Recheck who serial))
Has (Scan who) = On (λ t. step (prices_of t) t (Scan who))
Has (Open shares) = Anew (open_of shares)
Has (Grant who amount) = On (λ t. step (prices_of t) t (Grant who amount))
Has Pick = On (λ t. step (prices_of t) t Pick)
Has (Deliver who serial) = On (λ t. step (prices_of t) t (Deliver who serial))
Has (Evict who serial) = On (λ t. step (prices_of t) t (Evict who serial))
Has (Cancel who serial) = On (λ t. step (prices_of t) t (Cancel who serial))

-- calls one after the other, each on the bytes that the one before left: of each, the contract holds
pub data Made : List ℕ → List Call → List Reply → List ℕ → Type 0 where
  uncalled : {b : List ℕ} → Made b [] [] b
  called :
      {b next last : List ℕ} {cs : List Call} {rs : List Reply} (c : Call) (r : Reply) →
      Linked (Has c) b next r →
      Made next cs rs last →
      Made b (c ∷ cs) (r ∷ rs) last

pub record Stretch : Type 0 where
  pub first : List ℕ
  pub calls : List Call
  pub replies : List Reply
  pub last : List ℕ
  pub made : Made first calls replies last

-- the calls are the law book's from that table on: each reply, and the block at the end
pub record IsRun (run : Run) (calls : List Call) (rs : List Reply) (last : List ℕ) : Type 0 where
  pub block : last ≡ block_of (run_of clause9 run calls).table
  pub replies : rs ≡ map (λ o. reply_of o.answer o.burnt) (outcomes_of clause9 run.table calls)

pub record OfStretch (s : Stretch) : Type 0 where
  pub sound : (t : Table) → SoundTable t → s.first ≡ block_of t → IsRun (from t) s.calls s.replies s.last
  pub opened :
      (shares : List ℕ) (cs : List Call) (r : Reply) (rs : List Reply) →
      length s.first ≡ 2_176 →
      s.calls ≡ Open shares ∷ cs →
      s.replies ≡ r ∷ rs →
      IsRun (opened shares) cs rs s.last
  pub block-kept : (SoundBlock s.first → ⊥) → every (λ c. not (is_open c)) s.calls ≡ true → s.last ≡ s.first
  pub refused : (SoundBlock s.first → ⊥) → every (λ c. not (is_open c)) s.calls ≡ true → Each (λ r. r ≡ refused15) s.replies

-- over any sequence of calls on a block, interleaved with overwritings: any stretches, one after the other
abbrev pub EveryStretch : Type 0
EveryStretch = (history : List Stretch) → Each OfStretch history
