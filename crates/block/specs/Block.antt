-- The block: the whole table in 2,176 bytes.
use Rattle.std.specs.Prelude.{ℕ, zero, suc, ◌-◌, ◌*◌, ◌≡◌, List, [], ◌∷◌, ◌++◌, length, replicate}
use Rattle.rules.specs.Table.{Table}
use Rattle.rules.specs.Counters.{cx, cs}
use Rattle.rules.specs.Sound.{SoundTable}
use Rattle.block.specs.Bytes.{entry_bytes, meter_bytes, share_byte, head}

-- the list of f 0, f 1, .. f (n - 1)
unfoldable pub tab : {A : Type 0} → (ℕ → A) → ℕ → List A
tab f zero = []
tab f (suc n) = tab f n ++ f n ∷ []

-- the bytes of each element, one after the other
unfoldable pub flat : {A : Type 0} → (A → List ℕ) → List A → List ℕ
flat f [] = []
flat f (x ∷ xs) = f x ++ flat f xs

-- The five fields, in this order. Tags are hexadecimal: 11 is 17. "15 a count byte and 64 entries of 24 bytes": 1,537 bytes.
unfoldable pub block_of : Table → List ℕ
block_of t =
    head 17 16 ++ flat share_byte t.meters
    ++ head 18 96 ++ flat meter_bytes t.meters
    ++ head 19 256 ++ tab (cx t.queue) 256
    ++ head 20 256 ++ tab (cs t.queue) 256
    ++ (head 21 1_537 ++ length t.queue ∷ []) ++ flat entry_bytes t.queue ++ replicate ((64 - length t.queue) * 24) 0

-- sound: it is the block of a sound table
pub record SoundBlock (b : List ℕ) : Type 0 where
  pub of : Table
  pub sound : SoundTable of
  pub is : b ≡ block_of of

-- a table has one block by definition; a block is that of one sound table
abbrev pub BlockTells : Type 0
BlockTells = (t u : Table) → SoundTable t → SoundTable u → block_of t ≡ block_of u → t ≡ u
