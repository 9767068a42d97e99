-- What a test of a call's refusals answers, by the law book's rows.
use Rattle.std.specs.Prelude.{◌≡◌, List, Result, Ok, Err}
use Rattle.rules.specs.declared.Refusal.{Refusal}
use Rattle.rules.specs.Numbers.{number_of}
use Rattle.rules.specs.Refusals.{Row, first_of}

-- the first row that applies refuses, by its number; where none does, what the call goes on with is as it should be
abbrev pub RefusedOr : {A : Type 0} → List Row → (A → Type 0) → Result A Refusal → Type 0
RefusedOr rows Good (Ok x) = (first_of rows ≡ 0) × Good x
RefusedOr rows Good (Err why) = first_of rows ≡ number_of why
