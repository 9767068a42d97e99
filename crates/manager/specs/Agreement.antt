-- "The map's verdict and the plain comparison must agree on every queue."
use Rattle.std.specs.Prelude.{ℕ, ◌≡◌, Bool, not, List, [], ◌∷◌, ◌++◌, get_or, take}
use Rattle.rules.specs.Request.{Request, nobody, conflicts_any}
use Rattle.rules.specs.Scan.{clear_by}
use Rattle.maps.specs.declared.Maps.{Maps}
use Rattle.maps.specs.Maps.{maps_of, Empty, Grown}
use Rattle.entry.specs.declared.Entry.{Entry}
use Rattle.entry.specs.Entry.{request}
use Rattle.queue.specs.Queue.{Queue, requests}

-- The law book's maps and its plain comparison do so (`MapsTell`); here the code's two functions, `clear_by_maps` and
-- `clear_by_pairs`.
-- the two maps once the entries of a list have been looked at: none at first, and each entry's records with them
pub data Seen : List Request → Maps → Type 0 where
  none :
      {ahead : Maps} →
      Empty ahead.written →
      Empty ahead.read →
      Seen [] ahead
  more :
      {q : List Request} {ahead next : Maps} (e : Request) →
      Seen q ahead →
      Grown ahead.written e.writes next.written →
      Grown ahead.read e.reads next.read →
      Seen (q ++ e ∷ []) next

-- the entry at a place of a queue, and the maps of the entries ahead of it
pub record AtPlace (q : Queue) (at : ℕ) (e : Entry) (ahead : Maps) : Type 0 where
  pub entry : request e ≡ get_or (requests q) at nobody
  pub seen : Seen (take at (requests q)) ahead

-- what the two contracts say of the answers there
pub record Answers (q : Queue) (at : ℕ) (e : Entry) (ahead : Maps) (by-maps by-pairs : Bool) : Type 0 where
  pub maps : by-maps ≡ clear_by (maps_of ahead) (request e)
  pub pairs : by-pairs ≡ not (conflicts_any (take at (requests q)) (get_or (requests q) at nobody))

abbrev pub VerdictsAgree : Type 0
VerdictsAgree =
    (q : Queue) (at : ℕ) (e : Entry) (ahead : Maps) (by-maps by-pairs : Bool) →
    AtPlace q at e ahead →
    Answers q at e ahead by-maps by-pairs →
    by-maps ≡ by-pairs
