-- When a call is refused, and with which number: a list for each call, in the order of the paragraph "Order".
use Rattle.std.specs.Prelude.{ℕ, ◌+◌, Bool, ◌&&◌, ◌||◌, not, List, [], ◌∷◌, eqb, ltb, leb, length, get_or, if◌then◌else◌}
use Rattle.rules.specs.Lists.{before, total}
use Rattle.rules.specs.Records.{rising}
use Rattle.rules.specs.Request.{Request, nobody, reduced, size, is_named, is_free, is_blocked}
use Rattle.rules.specs.Table.{Table, meter_of, is_tenant, places_of, most_fuel, most_serials}
use Rattle.rules.specs.Prices.{Prices, admission}

infix 70 ◌gives◌
-- a row: "Given when", and the number
pub record Row : Type 0 where
  pub when : Bool
  pub number : ℕ

abbrev pub ◌gives◌ : Bool → ℕ → Row
test gives number = record { when = test; number = number }

-- "where several apply, the first in the order below"; 0 where none does
unfoldable pub first_of : List Row → ℕ
first_of [] = 0
first_of (row ∷ rows) = if row.when then row.number else first_of rows

-- 2: "fuel is 0"
abbrev pub is_dry : Table → ℕ → Bool
is_dry t who = eqb (meter_of t who).fuel 0

-- where the entry of that name stands, counted from the front; the queue's length if there is none
abbrev pub stands_at : ℕ → ℕ → List Request → ℕ
stands_at who serial q = before (is_named who serial) q

-- 10: "no such entry of that tenant in the queue"
abbrev pub is_absent : ℕ → ℕ → List Request → Bool
is_absent who serial q = leb (length q) (stands_at who serial q)

abbrev pub entry_of : ℕ → ℕ → List Request → Request
entry_of who serial q = get_or q (stands_at who serial q) nobody

-- "Begin takes 1 to 9 in number order"; asked is the request with its lists as given. Document 02, item 4: "The limits of 8 apply
-- to the lists as given", "All else uses the reduced lists", and "5 is no longer given".
unfoldable pub begin_rows : Prices → Table → Request → List Row
begin_rows p t asked =
    let e = reduced asked in
    not (is_tenant e.tenant) gives 1 ∷
    is_dry t e.tenant gives 2 ∷
    (ltb 8 (length asked.reads) || ltb 8 (length asked.writes)) gives 3 ∷
    not (rising e.reads && rising e.writes) gives 4 ∷
    ltb 15 e.awaited gives 6 ∷
    leb (meter_of t e.tenant).share (places_of t.queue e.tenant) gives 7 ∷
    leb most_serials (meter_of t e.tenant).serials gives 8 ∷
    ltb (meter_of t e.tenant).fuel (admission p e) gives 9 ∷
    []

-- "Finish: 1; then a Free entry of that name succeeds even on a dry tank; then 2, 10, 11"
unfoldable pub finish_rows : Table → ℕ → ℕ → List Row
finish_rows t who serial =
    let absent = is_absent who serial t.queue in
    let free = is_free (entry_of who serial t.queue).mode in
    not (is_tenant who) gives 1 ∷
    (is_dry t who && (absent || not free)) gives 2 ∷
    absent gives 10 ∷
    not free gives 11 ∷
    []

-- "Recheck: 1, 2, 10, 11, 9"
unfoldable pub recheck_rows : Prices → Table → ℕ → ℕ → List Row
recheck_rows p t who serial =
    let e = entry_of who serial t.queue in
    not (is_tenant who) gives 1 ∷
    is_dry t who gives 2 ∷
    is_absent who serial t.queue gives 10 ∷
    not (is_blocked e.mode) gives 11 ∷
    ltb (meter_of t who).fuel (p.recheck (size e)) gives 9 ∷
    []

-- "Scan: 1, 2, then it walks"
unfoldable pub scan_rows : Table → ℕ → List Row
scan_rows t who = not (is_tenant who) gives 1 ∷ is_dry t who gives 2 ∷ []

-- "Deliver: 1, 10, 12"
unfoldable pub deliver_rows : Table → ℕ → ℕ → List Row
deliver_rows t who serial =
    not (is_tenant who) gives 1 ∷
    is_absent who serial t.queue gives 10 ∷
    eqb (entry_of who serial t.queue).due 0 gives 12 ∷
    []

-- document 02, item 7: "evict 1, 10, burning 0"; "cancel 1, 2, 10, then 11 for an entry not Blocked"
unfoldable pub evict_rows : Table → ℕ → ℕ → List Row
evict_rows t who serial = not (is_tenant who) gives 1 ∷ is_absent who serial t.queue gives 10 ∷ []

unfoldable pub cancel_rows : Table → ℕ → ℕ → List Row
cancel_rows t who serial =
    not (is_tenant who) gives 1 ∷
    is_dry t who gives 2 ∷
    is_absent who serial t.queue gives 10 ∷
    not (is_blocked (entry_of who serial t.queue).mode) gives 11 ∷
    []

-- "Grant: 1, 13"
unfoldable pub grant_rows : Table → ℕ → ℕ → List Row
grant_rows t who amount =
    not (is_tenant who) gives 1 ∷ ltb most_fuel ((meter_of t who).fuel + amount) gives 13 ∷ []

-- 14: "Open without exactly 16 shares, or their sum above 64"
unfoldable pub open_rows : List ℕ → List Row
open_rows shares = (not (eqb (length shares) 16) || ltb 64 (total (λ n. n) shares)) gives 14 ∷ []
