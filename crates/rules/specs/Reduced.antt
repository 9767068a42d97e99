-- Theorems on document 02, item 4: what becomes of a record that a request has in both lists.
use Rattle.std.specs.Prelude.{ℕ, ◌+◌, ◌≡◌, Bool, false, ◌&&◌, not, List, [], ◌∷◌, ◌++◌, if◌then◌else◌}
use Rattle.rules.specs.Records.{member, meets, only_read, WellFormed, Stored}
use Rattle.rules.specs.Request.{Request, reduced, conflict}
use Rattle.rules.specs.Counters.{cx, cs}

-- "A record in both lists shall count as written only"
abbrev pub OnlyReadExact : Type 0
OnlyReadExact =
    (r : ℕ) (reads writes : List ℕ) →
    member r (only_read reads writes) ≡ (member r reads && not (member r writes))

-- "it raises Cx and not Cs": what a request adds to the two counters of a record, told from its lists as given
abbrev rise : Bool → ℕ
rise b = if b then 1 else 0

pub record Raises (q : List Request) (e : Request) (r : ℕ) : Type 0 where
  pub exclusive : cx (q ++ reduced e ∷ []) r ≡ cx q r + rise (member r e.writes)
  pub shared : cs (q ++ reduced e ∷ []) r ≡ cs q r + rise (member r e.reads && not (member r e.writes))

abbrev pub ReducedRaises : Type 0
ReducedRaises =
    (q : List Request) (e : Request) (r : ℕ) →
    Raises q e r

-- whom it conflicts with is the same, told from the lists as given or from the reduced ones
abbrev pub ReducedConflicts : Type 0
ReducedConflicts =
    (a e : Request) →
    conflict a (reduced e) ≡ conflict a e

-- lists that are let pass give lists that an entry may keep
abbrev pub ReducedStored : Type 0
ReducedStored =
    (reads writes : List ℕ) →
    WellFormed reads writes →
    Stored (only_read reads writes) writes

-- and lists without a record in both are stored as they were given
abbrev pub ReducedSame : Type 0
ReducedSame =
    (reads writes : List ℕ) →
    meets reads writes ≡ false →
    only_read reads writes ≡ reads
