-- What a linked call does to a block, and what it replies.
use Rattle.std.specs.Prelude.{ℕ, ◌≡◌, Bool, List, length}
use Rattle.rules.specs.Table.{Table}
use Rattle.rules.specs.Clash.{held_of}
use Rattle.rules.specs.Calls.{Outcome}
use Rattle.rules.specs.Sound.{SoundTable}
use Rattle.block.specs.Block.{block_of, SoundBlock}
use Rattle.block.specs.Check.{Tells}
use Rattle.damsonpouch.specs.declared.Reply.{Reply}
use Rattle.damsonpouch.specs.declared.Held.{Held}
use Rattle.damsonpouch.specs.Reply.{reply_of, refused15, held_reply, held15}

-- the outcome of a call on a sound block: the law book's, on the table whose block it is
pub record On (call : Table → Outcome) (b : List ℕ) (o : Outcome) : Type 0 where
  pub of : Table
  pub sound : SoundTable of
  pub is : b ≡ block_of of
  pub outcome : o ≡ call of

-- the outcome of an Open, on any block of the right length
pub record Anew (made : Outcome) (b : List ℕ) (o : Outcome) : Type 0 where
  pub whole : length b ≡ 2_176
  pub outcome : o ≡ made

-- a call on a block; `has` says which outcome it has on it, if any
pub record Linked (has : List ℕ → Outcome → Type 0) (before after : List ℕ) (r : Reply) : Type 0 where
  -- "A call does to the block what it does to the state"
  pub block : (o : Outcome) → has before o → after ≡ block_of o.table
  pub sound : (o : Outcome) → has before o → SoundTable o.table
  pub reply : (o : Outcome) → has before o → r ≡ reply_of o.answer o.burnt
  -- "Any other block is refused unchanged", with 15, "burning nothing"
  pub kept : ((o : Outcome) → has before o → ⊥) → after ≡ before
  pub refused : ((o : Outcome) → has before o → ⊥) → r ≡ refused15

-- held on a block: the counts of the table whose block it is, and "15 for a block not sound". It is only read.
pub record Counted (b : List ℕ) (r : Held) : Type 0 where
  pub counts : (t : Table) → SoundTable t → b ≡ block_of t → r ≡ held_reply (held_of t)
  pub refused : (SoundBlock b → ⊥) → r ≡ held15

-- two results that a contract allows are equal
abbrev pub OneResult : Type 1
OneResult =
    (has : List ℕ → Outcome → Type 0) (before after after' : List ℕ) (r r' : Reply) →
    Linked has before after r →
    Linked has before after' r' →
    (after ≡ after') × (r ≡ r')

-- and so are two verdicts on a block
abbrev pub OneVerdict : Type 0
OneVerdict = (b : List ℕ) (r r' : Bool) → Tells r (SoundBlock b) → Tells r' (SoundBlock b) → r ≡ r'

-- and two counts
abbrev pub OneCount : Type 0
OneCount = (b : List ℕ) (r r' : Held) → Counted b r → Counted b r' → r ≡ r'
