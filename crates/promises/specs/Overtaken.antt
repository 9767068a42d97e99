-- What `KeepsOrder` rules out: by each of two wrong rules of the law book a run of a few calls breaks it, and by the law book's own
-- no calls do.
use Rattle.std.specs.Prelude.{ℕ, ◌≡◌, Bool, true, ◌&&◌, not, List, [], ◌∷◌, ◌++◌, eqb, length, if◌then◌else◌}
use Rattle.rules.specs.declared.Answer.TheVariants.{Nothing, BlockedOn}
use Rattle.rules.specs.Lists.{some, every}
use Rattle.rules.specs.Request.{Request, reduced, conflict, is_free, is_blocked, promoted, admitted}
use Rattle.rules.specs.Table.{Table}
use Rattle.rules.specs.Prices.{clause9, admission, searching}
use Rattle.rules.specs.Refusals.{first_of, begin_rows, scan_rows}
use Rattle.rules.specs.Clash.{lowest_clash}
use Rattle.rules.specs.Scan.{found, nothing, Walk, qualifies}
use Rattle.rules.specs.Calls.{Outcome, tenant_call, named, asked, joined, found-table, found-answer, begin_of, scan_of}
use Rattle.rules.specs.Runs.{Call, Run, is_open, run_of}
use Rattle.rules.specs.Runs.Call.{Begin, Finish, Scan, Grant, Pick}
use Rattle.promises.specs.Fuel.{reached}
use Rattle.promises.specs.Names.{HasLeft}
use Rattle.promises.specs.Order.{is_at_work, KeepsOrder}
use Rattle.promises.specs.Hung.{four_each}

-- ---- three shops: 1.1 writes record 7 and runs; 2.1 writes 7 and 9, and is Blocked behind it; 3.1 writes 9
abbrev pub first_calls : List Call → List Call
first_calls more = Grant 1 100 ∷ Grant 2 100 ∷ Grant 3 100 ∷ Begin 1 0 [] (7 ∷ []) ∷ more

abbrev pub second : Call
second = Begin 2 0 [] (7 ∷ 9 ∷ [])

abbrev pub third : Call
third = Begin 3 0 [] (9 ∷ [])

abbrev pub two : Run
two = reached clause9 four_each (first_calls (second ∷ []))

abbrev pub three : Run
three = reached clause9 four_each (first_calls (second ∷ third ∷ []))

-- ---- the law book's Begin and Scan with another rule, and all else as it is: the state in which a request joins; whether an entry may be
-- promoted, by those ahead of it, told by a search with fuel to finish
abbrev pub begin_by : (List Request → Request → Request) → Table → ℕ → List ℕ → List ℕ → Outcome
begin_by rule t who reads writes =
    let e = asked t who 0 reads writes in
    let entry = rule t.queue (reduced e) in
    let answer = if is_blocked entry.mode then BlockedOn who e.serial (lowest_clash t.queue (reduced e)) else named entry in
    tenant_call clause9 t who (first_of (begin_rows clause9 t e)) (admission clause9 (reduced e)) (joined t entry) answer

unfoldable pub walk_by : (List Request → Request → Bool) → List Request → List Request → Walk
walk_by rule ahead [] = record { looked = ahead; end = nothing }
walk_by rule ahead (e ∷ es) =
    if rule ahead e
    then record { looked = ahead ++ e ∷ []; end = found (length ahead) }
    else walk_by rule (ahead ++ e ∷ []) es

abbrev pub scan_by : (ℕ → List Request → Request → Bool) → Table → ℕ → Outcome
scan_by rule t who =
    let w = walk_by (rule who) [] t.queue in
    tenant_call clause9 t who (first_of (scan_rows t who)) (searching clause9 w.looked) (found-table t w.end) (found-answer t.queue w.end)

-- a Begin that is Blocked by Free entries only
abbrev pub by_free : List Request → Request → Request
by_free q e = if some (λ a. is_free a.mode && conflict a e) q then e else promoted e

-- a Scan that compares with running ones only: "Blocked ones ahead count too"
abbrev pub by_running : ℕ → List Request → Request → Bool
by_running who ahead e = (eqb e.tenant who && is_blocked e.mode) && not (some (λ a. not (is_blocked a.mode) && conflict a e) ahead)

-- the run with one call more, that came to this
abbrev pub and_then : Run → Call → Outcome → Run
and_then r c o = record { table = o.table; steps = record { met = r.table; call = c; outcome = o } ∷ r.steps }

pub record Overtaken : Type 0 where
  -- by the wrong rules 3.1 is Free while 2.1, which was admitted before it, is in the queue
  pub begin-breaks : KeepsOrder (and_then two third (begin_by by_free two.table 3 [] (9 ∷ []))) → ⊥
  pub scan-breaks : KeepsOrder (and_then three (Scan 3) (scan_by by_running three.table 3)) → ⊥
  -- nothing but the rule is wrong: by the law book's own the one is its Begin, and the other its Scan here, where the fuel is enough
  pub begin-else : (t : Table) (who : ℕ) (reads writes : List ℕ) → begin_by admitted t who reads writes ≡ begin_of clause9 t who 0 reads writes
  pub scan-else : scan_by qualifies three.table 3 ≡ scan_of clause9 three.table 3
  -- by which 3.1 is Blocked on record 9, and the search finds nothing
  pub blocked : (begin_of clause9 two.table 3 0 [] (9 ∷ [])).answer ≡ BlockedOn 3 1 9
  pub none_found : (scan_of clause9 three.table 3).answer ≡ Nothing
  -- there are no calls, of whomever, by which it starts before 2.1 has left
  pub never :
      (more : List Call) →
      every (λ c. not (is_open c)) more ≡ true →
      let end = run_of clause9 three more in
      is_at_work 3 1 end.table ≡ true →
      HasLeft 2 1 end
  -- and once it has left, there are
  pub at_last : is_at_work 3 1 (run_of clause9 three (Finish 1 1 ∷ Pick ∷ Finish 2 1 ∷ Scan 3 ∷ [])).table ≡ true
