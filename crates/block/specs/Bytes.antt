-- How numbers, lists, an entry and a meter stand in bytes.
use Rattle.std.specs.Prelude.{ℕ, ◌-◌, ◌/◌, ◌%◌, List, [], ◌∷◌, ◌++◌, length, replicate}
use Rattle.rules.specs.declared.Mode.{Mode}
use Rattle.rules.specs.declared.Mode.TheVariants.{Free, Waiting, Blocked}
use Rattle.rules.specs.Request.{Request}
use Rattle.rules.specs.Table.{Meter}

-- "numbers have the high byte first"
abbrev pub two : ℕ → List ℕ
two n = n / 256 ∷ n % 256 ∷ []

abbrev pub four : ℕ → List ℕ
four n = two (n / 65_536) ++ two (n % 65_536)

-- the list, and zeros behind it up to n bytes: "unused ones zero"
abbrev pub padded : ℕ → List ℕ → List ℕ
padded n xs = xs ++ replicate (n - length xs) 0

-- "state 0 Free, 1 Waiting or 2 Blocked"
abbrev pub code : Mode → ℕ
code Free = 0
code Waiting = 1
code Blocked = 2

-- "tenant, serial in two, state .., awaited, still due, number of reads, number of writes, then 16 record bytes"
unfoldable pub entry_bytes : Request → List ℕ
entry_bytes e =
    e.tenant ∷ two e.serial
    ++ (code e.mode ∷ e.awaited ∷ e.due ∷ length e.reads ∷ length e.writes ∷ [])
    ++ padded 16 (e.reads ++ e.writes)

-- "for each tenant fuel in four bytes and serials given in two"
unfoldable pub meter_bytes : Meter → List ℕ
meter_bytes m = four m.fuel ++ two m.serials

abbrev pub share_byte : Meter → List ℕ
share_byte m = m.share ∷ []

-- "tagged fields as in the event file": the tag, and the length of the field in two bytes
abbrev pub head : ℕ → ℕ → List ℕ
head tag n = tag ∷ two n
