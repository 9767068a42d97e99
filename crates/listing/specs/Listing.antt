-- The listing, its header and one line a record, as bytes.
use Rattle.std.specs.Prelude.{ℕ, List, [], ◌∷◌, ◌++◌, Option, Some, None}
use Rattle.rules.specs.declared.Answer.{Answer}
use Rattle.rules.specs.CallTable.{row_of}
use Rattle.rules.specs.Said.{said}
use Rattle.listing.specs.declared.Name.{Name}
use Rattle.listing.specs.declared.Name.TheVariants.{Call, File}
use Rattle.listing.specs.Decimal.{decimal}

-- the bytes of the marks
abbrev pub space : ℕ
space = 32

abbrev pub line_feed : ℕ
line_feed = 10

abbrev pub colon : ℕ
colon = 58

abbrev pub point : ℕ
point = 46

abbrev pub dash : ℕ
dash = 45

abbrev pub at_sign : ℕ
at_sign = 64

-- "call (its name in small letters; a second tag for the same call prints the same name)", by the table of calls; "A file
-- refusal prints the call file"
abbrev pub name_of : Name → List ℕ
name_of (Call kind) = (row_of kind).name
name_of File = 102 ∷ 105 ∷ 108 ∷ 101 ∷ []

-- a point before each number, and a text behind them
abbrev pub dotted : List ℕ → List ℕ → List ℕ
dotted [] text = text
dotted (n ∷ ns) text = point ∷ decimal n ++ dotted ns text

-- a colon before the first number, and a point before each later one
abbrev pub behind : List ℕ → List ℕ → List ℕ
behind [] text = text
behind (n ∷ ns) text = colon ∷ decimal n ++ dotted ns text

-- document 02, item 5: "The listing's blocked answer at Begin gains @ and the record"
abbrev pub clash_text : List ℕ → List ℕ
clash_text [] = []
clash_text (r ∷ rs) = at_sign ∷ decimal r

-- "answer (ok, done, still, nothing, refused: and number, or state:tenant.serial)"
unfoldable pub answer_text : Answer → List ℕ
answer_text answer = (said answer).word ++ behind (said answer).values (clash_text (said answer).clash)

-- "the named tenant's fuel afterwards, or - with no valid tenant named"
unfoldable pub left_text : Option ℕ → List ℕ
left_text (Some units) = decimal units
left_text None = dash ∷ []

-- "fields parted by one space and each line ended by a line feed: record number; call; answer; units burnt; the named
-- tenant's fuel afterwards"
unfoldable pub line_of : ℕ → Name → Answer → ℕ → Option ℕ → List ℕ
line_of number name answer burnt left =
    decimal number ++
    space ∷ name_of name ++
    space ∷ answer_text answer ++
    space ∷ decimal burnt ++
    space ∷ left_text left ++
    line_feed ∷ []

-- "prints a header": no call answer burnt left
unfoldable pub header_text : List ℕ
header_text =
    110 ∷ 111 ∷ 32 ∷ 99 ∷ 97 ∷ 108 ∷ 108 ∷ 32 ∷ 97 ∷ 110 ∷ 115 ∷ 119 ∷ 101 ∷ 114 ∷ 32 ∷ 98 ∷ 117 ∷ 114 ∷ 110 ∷ 116 ∷ 32 ∷ 108 ∷ 101 ∷ 102 ∷ 116 ∷ 10 ∷ []
