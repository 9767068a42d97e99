-- Document 02, item 5, as plugin writers rely on it: what a Begin reports of the record that held it up, and that no other call
-- reports one. All is told from the lists as given, and from those of the queued entries.
use Rattle.std.specs.Prelude.{ℕ, ◌≤◌, ◌≡◌, Bool, true, false, List, [], ltb, if◌then◌else◌}
use Rattle.rules.specs.declared.Mode.TheVariants.{Free, Waiting}
use Rattle.rules.specs.declared.Answer.{Answer}
use Rattle.rules.specs.declared.Answer.TheVariants.{Named, BlockedOn}
use Rattle.rules.specs.Lists.{some}
use Rattle.rules.specs.Request.{Request}
use Rattle.rules.specs.Table.{Table}
use Rattle.rules.specs.CallTable.{is_request}
use Rattle.rules.specs.Prices.{Prices}
use Rattle.rules.specs.Calls.{asked, begin_of}
use Rattle.rules.specs.Said.{said}
use Rattle.rules.specs.Verdicts.{shares_at}
use Rattle.rules.specs.Runs.{Call, step, role_of, number}

-- the record is written by the request and read or written by some entry of the list, or the other way about
abbrev pub held_up_on : List Request → Request → ℕ → Bool
held_up_on q e r = some (λ a. shares_at a e r) q

pub record LowestOf (q : List Request) (e : Request) (r : ℕ) : Type 0 where
  pub held_up : held_up_on q e r ≡ true
  pub lowest : (x : ℕ) → held_up_on q e x ≡ true → r ≤ x

-- the answer of an admitted Begin, where the request e meets the queue q
pub record ReportOf (q : List Request) (e : Request) (answer : Answer) : Type 0 where
  -- Blocked exactly if there is such a record, and "the lowest-numbered" of them is reported
  pub blocked : (x : ℕ) → held_up_on q e x ≡ true → (r : ℕ) × (answer ≡ BlockedOn e.tenant e.serial r) × LowestOf q e r
  pub clear : ((x : ℕ) → held_up_on q e x ≡ false) → answer ≡ Named (if ltb 0 e.awaited then Waiting else Free) e.tenant e.serial

abbrev pub Reports : Prices → Type 0
Reports p =
    (t : Table) (who awaited : ℕ) (reads writes : List ℕ) →
    let o = begin_of p t who awaited reads writes in
    number o ≡ 0 →
    ReportOf t.queue (asked t who awaited reads writes) o.answer

-- "The listing's blocked answer at Begin gains @ and the record", and no other does
abbrev pub BeginAlone : Prices → Type 0
BeginAlone p =
    (t : Table) (c : Call) →
    is_request (role_of c) ≡ false →
    (said (step p t c).answer).clash ≡ []
