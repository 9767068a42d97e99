-- How tight the contracts are: a sound state is told by its view and what it says, so what a contract allows is one result.
use Rattle.std.specs.Prelude.{ℕ, ◌<◌, ◌≡◌, length, get_or}
use Rattle.rules.specs.Table.{Table}
use Rattle.rules.specs.Prices.{prices_of}
use Rattle.rules.specs.Calls.{Outcome}
use Rattle.rules.specs.Runs.{Call, step}
use Rattle.maps.specs.Maps.{Words}
use Rattle.entry.specs.Entry.{blank}
use Rattle.manager.specs.declared.State.{State}
use Rattle.manager.specs.State.{view, Sound, Did}

-- What every value of the type is (`state-sized`): 256 counters of each kind, four words for each of two maps, and 64 slots with 8
-- bytes for each of two lists.
-- That the meters are 16, a sound table says.
pub record Sized (s : State) : Type 0 where
  pub writers : length s.cx ≡ 256
  pub readers : length s.cs ≡ 256
  pub written : Words s.maps.written
  pub read : Words s.maps.read
  pub slots : length s.entries ≡ 64
  pub reads : (i : ℕ) → i < 64 → length (get_or s.entries i blank).reads ≡ 8
  pub writes : (i : ℕ) → i < 64 → length (get_or s.entries i blank).writes ≡ 8

pub record SoundValue (s : State) : Type 0 where
  pub sized : Sized s
  pub sound : Sound s

abbrev pub ViewTells : Type 0
ViewTells =
    (s u : State) →
    SoundValue s →
    SoundValue u →
    view s ≡ view u →
    s.said ≡ u.said →
    s ≡ u

-- a result that a contract allows
pub record Allowed (o : Outcome) (r : State) : Type 0 where
  pub sized : Sized r
  pub did : Did r o

-- "two results allowed by it are equal": of any call, whatever the table that it met
abbrev pub OneResult : Type 0
OneResult =
    (t : Table) (c : Call) (r r' : State) →
    Allowed (step (prices_of t) t c) r →
    Allowed (step (prices_of t) t c) r' →
    r ≡ r'
