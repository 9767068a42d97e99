-- What document 01 writes for an answer: its number in the table (0 where it is no refusal), the listing's word as bytes,
-- and the values behind it: a refusal's number, or an entry's tenant and serial; and a record, which only a Blocked Begin has.
use Rattle.std.specs.Prelude.{ℕ, List, [], ◌∷◌}
use Rattle.rules.specs.declared.Mode.{Mode}
use Rattle.rules.specs.declared.Mode.TheVariants.{Free, Waiting, Blocked}
use Rattle.rules.specs.declared.Answer.{Answer}
use Rattle.rules.specs.declared.Answer.TheVariants.{Ok, Done, Still, Nothing, Refused, Named, BlockedOn}

pub record Said : Type 0 where
  pub number : ℕ
  pub word : List ℕ
  pub values : List ℕ
  pub clash : List ℕ

-- free, waiting, blocked
unfoldable pub word_of : Mode → List ℕ
word_of Free = 102 ∷ 114 ∷ 101 ∷ 101 ∷ []
word_of Waiting = 119 ∷ 97 ∷ 105 ∷ 116 ∷ 105 ∷ 110 ∷ 103 ∷ []
word_of Blocked = 98 ∷ 108 ∷ 111 ∷ 99 ∷ 107 ∷ 101 ∷ 100 ∷ []

-- ok, done, still, nothing, refused
abbrev pub said : Answer → Said
said Ok = record { number = 0; word = 111 ∷ 107 ∷ []; values = []; clash = [] }
said Done = record { number = 0; word = 100 ∷ 111 ∷ 110 ∷ 101 ∷ []; values = []; clash = [] }
said Still = record { number = 0; word = 115 ∷ 116 ∷ 105 ∷ 108 ∷ 108 ∷ []; values = []; clash = [] }
said Nothing = record { number = 0; word = 110 ∷ 111 ∷ 116 ∷ 104 ∷ 105 ∷ 110 ∷ 103 ∷ []; values = []; clash = [] }
said (Refused number) = record { number = number; word = 114 ∷ 101 ∷ 102 ∷ 117 ∷ 115 ∷ 101 ∷ 100 ∷ []; values = number ∷ []; clash = [] }
said (Named mode tenant serial) = record { number = 0; word = word_of mode; values = tenant ∷ serial ∷ []; clash = [] }
said (BlockedOn tenant serial r) = record { number = 0; word = word_of Blocked; values = tenant ∷ serial ∷ []; clash = r ∷ [] }
