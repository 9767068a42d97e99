-- Theorems on document 02, item 5: a Begin is Blocked exactly if it clashes on some record, and what it then reports.
use Rattle.std.specs.Prelude.{ℕ, ◌≤◌, ◌≡◌, true, List, [], ◌∷◌, ◌++◌, ◌↔◌, ltb}
use Rattle.rules.specs.Lists.{some}
use Rattle.rules.specs.Records.{Stored}
use Rattle.rules.specs.Request.{Request, reduced, conflicts_any}
use Rattle.rules.specs.Counters.{cx, cs, figure2}
use Rattle.rules.specs.Clash.{clash_at, clashes_on, lowest_clash}
use Rattle.rules.specs.Verdicts.{shares_at}

-- the request clashes on the record, and on no lower one
pub record IsLowestClash (q : List Request) (e : Request) (r : ℕ) : Type 0 where
  pub clashes : clashes_on q e r ≡ true
  pub lowest : (x : ℕ) → clashes_on q e x ≡ true → r ≤ x

-- it clashes on the record exactly if the record is "written by one of them and read or written by the other", the one being the
-- request and the other some entry
abbrev pub ClashShares : Type 0
ClashShares =
    (q : List Request) (e : Request) (r : ℕ) →
    clashes_on q e r ≡ some (λ a. shares_at a e r) q

-- "It is Blocked exactly if it conflicts with some entry queued before it", and so exactly if there is such a record
abbrev pub ConflictClashes : Type 0
ConflictClashes =
    (q : List Request) (e : Request) →
    (conflicts_any q e ≡ true) ↔ ((r : ℕ) × IsLowestClash q e r)

-- what is reported is that record
abbrev pub LowestReported : Type 0
LowestReported =
    (q : List Request) (e : Request) →
    conflicts_any q e ≡ true →
    IsLowestClash q e (lowest_clash q e)

-- on which records it clashes is the same, told from the lists as given or from the reduced ones
abbrev pub ReducedClashes : Type 0
ReducedClashes =
    (q : List Request) (e : Request) (r : ℕ) →
    clashes_on q (reduced e) r ≡ clashes_on q e r

-- the maps "of records with Cx above 0 and with Cs above 0" tell it
abbrev pub MapsClash : Type 0
MapsClash =
    (q : List Request) (e : Request) (r : ℕ) →
    clash_at (λ k. ltb 0 (cx q k)) (λ k. ltb 0 (cs q k)) e r ≡ clashes_on q e r

-- and so, before its own counts, they tell the verdict that figure 2 tells with them
abbrev pub MapsTellFigure2 : Type 0
MapsTellFigure2 =
    (q : List Request) (e : Request) →
    Stored e.reads e.writes →
    (figure2 (cx (q ++ e ∷ [])) (cs (q ++ e ∷ [])) e ≡ true) ↔
    ((r : ℕ) × (clash_at (λ k. ltb 0 (cx q k)) (λ k. ltb 0 (cs q k)) e r ≡ true))
