-- A number in decimal digits, and the number that digits are read as.
use Rattle.std.specs.Prelude.{ℕ, zero, suc, ◌+◌, ◌*◌, ◌-◌, ◌/◌, ◌%◌, Bool, ◌&&◌, List, [], ◌∷◌, ◌++◌, ltb, leb, if◌then◌else◌}

-- the digits of a number that has at most k, as bytes, highest first and with no leading zero
unfoldable pub digits : ℕ → ℕ → List ℕ
digits zero n = []
digits (suc k) n = (if ltb n 10 then [] else digits k (n / 10)) ++ (48 + n % 10) ∷ []

-- the decimal digits of a number; n has at most n + 1
unfoldable pub decimal : ℕ → List ℕ
decimal n = digits (suc n) n

-- the number that the digits behind those of v are read as
unfoldable pub value_from : ℕ → List ℕ → ℕ
value_from v [] = v
value_from v (b ∷ bs) = value_from (10 * v + (b - 48)) bs

abbrev pub value : List ℕ → ℕ
value = value_from 0

-- 0 to 9
abbrev pub is_digit : ℕ → Bool
is_digit b = leb 48 b && leb b 57
