-- A listing in pieces.
use Rattle.std.specs.Prelude.{ℕ, ◌+◌, ◌≤◌, ◌<◌, ◌≡◌, List, ◌++◌, length, take, Some}
use Rattle.manager.specs.State.{view, Sound}
use Rattle.replay.specs.Replay.{lines_at}
use Rattle.replay.specs.declared.piece.Place.{Place}

-- what is left of the listing
abbrev pub rest : List ℕ → Place → List ℕ
rest file p = lines_at file (view p.state) p.at p.first p.number

-- a place that a listing can go on from: the file is not too long, and each record before had a byte at least
pub record Within (file : List ℕ) (at number : ℕ) : Type 0 where
  pub short : length file ≤ 65_536
  pub inside : at ≤ length file
  pub numbered : number ≤ at + 1

pub record Ready (file : List ℕ) (p : Place) : Type 0 where
  pub sound : Sound p.state
  pub within : (at : ℕ) → p.at ≡ Some at → Within file at p.number

-- the array that a program lends for the pieces
abbrev pub Room : List ℕ → Type 0
Room out = length out ≡ 65_536

-- the text is the piece in the array `out` and then what is left at the place r
pub record Piece (file text out : List ℕ) (r : Place) : Type 0 where
  pub ready : Ready file r
  pub room : Room out
  pub fits : r.len ≤ 65_536
  pub is : take r.len out ++ rest file r ≡ text

-- a listing that is not at its end has gone on
abbrev pub Onward : Place → Place → Type 0
Onward p r = (to : ℕ) → r.at ≡ Some to → (from : ℕ) × (p.at ≡ Some from) × (from < to)
