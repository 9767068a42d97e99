-- Demand 2 and 3, searches: which entry one promotes, when it reports none, and what it costs.
use Rattle.std.specs.Prelude.{ℕ, ◌+◌, ◌*◌, ◌≤◌, ◌<◌, ◌≡◌, Bool, true, false, List, length, get_or, set, take}
use Rattle.rules.specs.declared.Mode.{Mode}
use Rattle.rules.specs.declared.Answer.TheVariants.{Nothing, Refused, Named}
use Rattle.rules.specs.Lists.{total}
use Rattle.rules.specs.Request.{Request, nobody, size, promoted}
use Rattle.rules.specs.Table.{Table, is_tenant}
use Rattle.rules.specs.Prices.{Prices, clause9, searching}
use Rattle.rules.specs.Scan.{qualifies}
use Rattle.rules.specs.Calls.{Outcome, named, search, scan_of}
use Rattle.rules.specs.Sound.{SoundAny}
use Rattle.promises.specs.Fuel.{fuel_of, records_in}

-- ---- which entries are ready
-- the entry at that place is the tenant's, is Blocked, and conflicts with nothing ahead of it
abbrev pub ready : ℕ → List Request → ℕ → Bool
ready who q at = qualifies who (take at q) (get_or q at nobody)

pub record FirstReady (who : ℕ) (q : List Request) (at : ℕ) : Type 0 where
  pub there : at < length q
  pub fits : ready who q at ≡ true
  pub first : (i : ℕ) → i < at → ready who q i ≡ false

abbrev pub NoneReady : ℕ → List Request → Type 0
NoneReady who q = (i : ℕ) → i < length q → ready who q i ≡ false

-- ---- how a search ends
-- it promotes the first ready entry, which stands at that place, and "is looked at and paid for"
pub record Promoting (p : Prices) (who : ℕ) (t : Table) (at : ℕ) (o : Outcome) : Type 0 where
  pub first : FirstReady who t.queue at
  pub answer : o.answer ≡ named (promoted (get_or t.queue at nobody))
  pub queue : o.table.queue ≡ set t.queue at (promoted (get_or t.queue at nobody))
  pub burnt : o.burnt ≡ searching p (take (at + 1) t.queue)

-- it has looked at all entries, and none was ready
pub record LookedAtAll (p : Prices) (who : ℕ) (t : Table) (o : Outcome) : Type 0 where
  pub none : NoneReady who t.queue
  pub burnt : o.burnt ≡ searching p t.queue

-- it is cut short before the entry at that place, which the fuel left does not pay for
pub record CutShort (p : Prices) (who : ℕ) (t : Table) (at : ℕ) (o : Outcome) : Type 0 where
  pub there : at < length t.queue
  pub burnt : o.burnt ≡ searching p (take at t.queue)
  pub poor : fuel_of t who < o.burnt + p.look (size (get_or t.queue at nobody))

-- ---- 7 "A search with fuel to finish promotes the caller's first blocked request that conflicts with nothing ahead of it":
-- the fuel pays for the looks up to that entry
abbrev pub SearchPromotes : Prices → Type 0
SearchPromotes p =
    (t : Table) (who at : ℕ) →
    is_tenant who ≡ true →
    FirstReady who t.queue at →
    searching p (take (at + 1) t.queue) ≤ fuel_of t who →
    Promoting p who t at (scan_of p t who)

-- or, if there is none, at all of them
abbrev pub SearchEnds : Prices → Type 0
SearchEnds p =
    (t : Table) (who : ℕ) →
    is_tenant who ≡ true →
    NoneReady who t.queue →
    searching p t.queue ≤ fuel_of t who →
    (scan_of p t who).answer ≡ Nothing

-- "and reports none only if there is none"
abbrev pub SearchNothing : Prices → Type 0
SearchNothing p =
    (t : Table) (who : ℕ) →
    let o = scan_of p t who in
    o.answer ≡ Nothing →
    LookedAtAll p who t o

-- whatever the fuel, it promotes no other entry, and is cut short only where the fuel does not pay
abbrev pub SearchNames : Prices → Type 0
SearchNames p =
    (t : Table) (who : ℕ) (mode : Mode) (tenant serial : ℕ) →
    let o = scan_of p t who in
    o.answer ≡ Named mode tenant serial →
    (at : ℕ) × Promoting p who t at o

abbrev pub SearchCut : Prices → Type 0
SearchCut p =
    (t : Table) (who : ℕ) →
    let o = scan_of p t who in
    o.answer ≡ Refused 9 →
    (at : ℕ) × CutShort p who t at o

-- ---- 3 what it costs, where it is not refused with 1 or 2
abbrev pub SearchPrice : Prices → Type 0
SearchPrice p =
    (t : Table) (who : ℕ) →
    is_tenant who ≡ true →
    0 < fuel_of t who →
    (scan_of p t who).burnt ≡ searching p (search p t who).looked

-- at most: 64 entries, where none of 16 records or fewer costs more than `most` to look at
abbrev pub SearchMost : Prices → Type 0
SearchMost p =
    (t : Table) (who most : ℕ) →
    SoundAny t →
    ((n : ℕ) → n ≤ 16 → p.look n ≤ most) →
    (scan_of p t who).burnt ≤ p.search + 64 * most

-- at document 01's prices: "A search costs 1 plus, for each entry looked at, 1 plus its records: at most 1,089"
abbrev pub SearchPrice9 : Type 0
SearchPrice9 =
    (t : Table) (who : ℕ) →
    is_tenant who ≡ true →
    0 < fuel_of t who →
    (scan_of clause9 t who).burnt ≡ 1 + total (λ e. 1 + records_in e) (search clause9 t who).looked

abbrev pub SearchMost9 : Type 0
SearchMost9 =
    (t : Table) (who : ℕ) →
    SoundAny t →
    (scan_of clause9 t who).burnt ≤ 1089
