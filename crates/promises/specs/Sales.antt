-- Document 02, item 4, as plugins that sell rely on it: who reads a record and writes it back has it alone. All is told from the
-- lists as given, so it is the same whether a record stands in both lists or among the writes alone.
use Rattle.std.specs.Prelude.{ℕ, ◌+◌, ◌≤◌, ◌≡◌, Bool, true, ◌&&◌, ◌||◌, not, List, ◌∷◌}
use Rattle.rules.specs.declared.Answer.{Answer}
use Rattle.rules.specs.declared.Answer.TheVariants.{BlockedOn}
use Rattle.rules.specs.Lists.{every}
use Rattle.rules.specs.Records.{member}
use Rattle.rules.specs.Request.{Request, reduced, conflict}
use Rattle.rules.specs.Table.{Table}
use Rattle.rules.specs.Prices.{Prices}
use Rattle.rules.specs.Calls.{asked}
use Rattle.rules.specs.Sound.{given_by}
use Rattle.rules.specs.Runs.{Call, Begin, Run, step, is_open, number, run_of}
use Rattle.promises.specs.Fuel.{reached}
use Rattle.promises.specs.Names.{is_queued}

-- a request, as a Begin asks for it
pub record Ask : Type 0 where
  pub who : ℕ
  pub awaited : ℕ
  pub reads : List ℕ
  pub writes : List ℕ

abbrev pub begin : Ask → Call
begin a = Begin a.who a.awaited a.reads a.writes

abbrev pub asked_at : Table → Ask → Request
asked_at t a = asked t a.who a.awaited a.reads a.writes

-- it sells the record if it writes it, be it read too or not; it uses the record if it reads or writes it
abbrev pub sells : ℕ → Ask → Bool
sells r a = member r a.writes

abbrev pub uses : ℕ → Ask → Bool
uses r a = member r a.reads || member r a.writes

-- one of the two sells the record, which the other sells too or only reads
abbrev pub share_one : ℕ → Ask → Ask → Bool
share_one r a b = (sells r a && uses r b) || (sells r b && uses r a)

-- ---- the two conflict, as they are stored
abbrev pub SellersConflict : Type 0
SellersConflict =
    (t u : Table) (a b : Ask) (r : ℕ) →
    share_one r a b ≡ true →
    conflict (reduced (asked_at t a)) (reduced (asked_at u b)) ≡ true

-- ---- and the second is Blocked: it is told of that record, or of a lower one
-- what b's Begin answers at a table, where record r is between them
abbrev pub HeldUp : Ask → Table → ℕ → Answer → Type 0
HeldUp b t r answer = (x : ℕ) × (answer ≡ BlockedOn b.who (given_by t b.who + 1) x) × (x ≤ r)

-- the table at which b's request is made: after a's, and any calls up to then
abbrev pub meeting : Prices → Run → Ask → List Call → Table
meeting p r a between = (run_of p r (begin a ∷ between)).table

-- both are admitted, and a's request is still in the queue when b's is made
pub record Meet (p : Prices) (r : Run) (a b : Ask) (between : List Call) : Type 0 where
  pub first : number (step p r.table (begin a)) ≡ 0
  pub shut : every (λ c. not (is_open c)) between ≡ true
  pub queued : is_queued a.who (given_by r.table a.who + 1) (meeting p r a between) ≡ true
  pub second : number (step p (meeting p r a between) (begin b)) ≡ 0

abbrev pub SecondWaits : Prices → Type 0
SecondWaits p =
    (shares : List ℕ) (calls between : List Call) (a b : Ask) (r : ℕ) →
    let before = reached p shares calls in
    let t = meeting p before a between in
    Meet p before a b between →
    share_one r a b ≡ true →
    HeldUp b t r (step p t (begin b)).answer
