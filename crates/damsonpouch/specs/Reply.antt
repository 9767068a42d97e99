-- A reply in numbers: document 01's number and values for an answer (`said`), its kind, its state, and the record of a Blocked
-- Begin; and what held replies.
use Rattle.std.specs.Prelude.{ℕ, ◌≡◌, List, [], length, get_or}
use Rattle.rules.specs.declared.Mode.TheVariants.{Blocked}
use Rattle.rules.specs.declared.Answer.{Answer}
use Rattle.rules.specs.declared.Answer.TheVariants.{Ok, Done, Still, Nothing, Refused, Named, BlockedOn}
use Rattle.rules.specs.Said.{said}
use Rattle.block.specs.Bytes.{code}
use Rattle.rules.specs.declared.Tally.{Tally}
use Rattle.damsonpouch.specs.declared.Reply.{Reply}
use Rattle.damsonpouch.specs.declared.Held.{Held}

-- what kind of answer
abbrev pub kind_of : Answer → ℕ
kind_of Ok = 0
kind_of Done = 1
kind_of Still = 2
kind_of Nothing = 3
kind_of (Refused number) = 4
kind_of (Named mode who serial) = 5
kind_of (BlockedOn who serial r) = 5

-- an entry's state, as the block has it
abbrev pub state_of : Answer → ℕ
state_of Ok = 0
state_of Done = 0
state_of Still = 0
state_of Nothing = 0
state_of (Refused number) = 0
state_of (Named mode who serial) = code mode
state_of (BlockedOn who serial r) = code Blocked

-- the values of an entry's name
abbrev pub name_of : Answer → List ℕ
name_of Ok = []
name_of Done = []
name_of Still = []
name_of Nothing = []
name_of (Refused number) = []
name_of (Named mode who serial) = (said (Named mode who serial)).values
name_of (BlockedOn who serial r) = (said (BlockedOn who serial r)).values

abbrev pub reply_of : Answer → ℕ → Reply
reply_of a burnt = record {
  kind = kind_of a;
  number = (said a).number;
  state = state_of a;
  tenant = get_or (name_of a) 0 0;
  serial = get_or (name_of a) 1 0;
  clashed = length (said a).clash;
  lowest = get_or (said a).clash 0 0;
  burnt = burnt;
}

-- "15 for a block not sound", "burning nothing"
abbrev pub refused15 : Reply
refused15 = reply_of (Refused 15) 0

-- a reply tells its answer and the units burnt
abbrev pub ReplyTells : Type 0
ReplyTells = (a a' : Answer) (n n' : ℕ) → reply_of a n ≡ reply_of a' n' → (a ≡ a') × (n ≡ n')

-- held: three counts, or 15
abbrev pub held_reply : Tally → Held
held_reply n = record { number = 0; written = n.written; read = n.read; either = n.either }

abbrev pub held15 : Held
held15 = record { number = 15; written = 0; read = 0; either = 0 }
