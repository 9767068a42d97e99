-- Theorems of the law book: what a conflict is, record by record, that the counters and the maps tell it, and the state that a
-- Begin gives.
use Rattle.std.specs.Prelude.{ℕ, ◌<◌, ◌≡◌, Bool, true, ◌&&◌, ◌||◌, not, List, [], ◌∷◌, ◌++◌, ◌↔◌, ltb, length, get_or, if◌then◌else◌}
use Rattle.rules.specs.declared.Mode.TheVariants.{Free, Waiting, Blocked}
use Rattle.rules.specs.Records.{member, Stored}
use Rattle.rules.specs.Request.{Request, nobody, requested, reduced, conflict, conflicts_any, admitted}
use Rattle.rules.specs.Counters.{cx, cs, figure2, alone}
use Rattle.rules.specs.Scan.{no_records, maps_over, clear_by}
use Rattle.rules.specs.Calls.{without_entry}

-- "some record is written by one of them and read or written by the other"
abbrev pub shares_at : Request → Request → ℕ → Bool
shares_at a b r =
    (member r a.writes && (member r b.reads || member r b.writes)) ||
    (member r b.writes && (member r a.reads || member r a.writes))

abbrev pub ConflictExact : Type 0
ConflictExact =
    (a b : Request) →
    (conflict a b ≡ true) ↔ ((r : ℕ) × (shares_at a b r ≡ true))

-- Begin: "The counters must tell this as figure 2 of source document 002 does", its own count included
abbrev pub Figure2Tells : Type 0
Figure2Tells =
    (q : List Request) (e : Request) →
    Stored e.reads e.writes →
    figure2 (cx (q ++ e ∷ [])) (cs (q ++ e ∷ [])) e ≡ conflicts_any q e

-- "It is Blocked exactly if it conflicts with some entry queued before it; otherwise it is Waiting if awaited is above 0, and Free if
-- awaited is 0": told from the lists as given, and all its answers are due at admission
abbrev pub BeginTells : Type 0
BeginTells =
    (q : List Request) (who serial awaited : ℕ) (reads writes : List ℕ) →
    let e = requested who serial awaited reads writes in
    (admitted q (reduced e)).mode ≡ (if conflicts_any q e then Blocked else (if ltb 0 awaited then Waiting else Free))

-- Recheck goes by the counters, and so by all other entries, ahead and behind
abbrev pub RecheckTells : Type 0
RecheckTells =
    (q : List Request) (at : ℕ) →
    let e = get_or q at nobody in
    at < length q →
    Stored e.reads e.writes →
    alone (cx q) (cs q) e ≡ not (conflicts_any (without_entry at q) e)

-- Scan: "The map's verdict and the plain comparison must agree on every queue"
abbrev pub MapsTell : Type 0
MapsTell =
    (q : List Request) (e : Request) →
    clear_by (maps_over no_records q) e ≡ not (conflicts_any q e)
