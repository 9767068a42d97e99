-- The ten bench examples of document 01, as one statement.
use Rattle.std.specs.Prelude.{ℕ, ◌+◌, ◌*◌, ◌≤◌, ◌≡◌, true, List, [], ◌∷◌, eqb, length, take, if◌then◌else◌}
use Rattle.rules.specs.declared.Mode.{Mode}
use Rattle.rules.specs.declared.Mode.TheVariants.{Free, Blocked}
use Rattle.rules.specs.declared.Answer.TheVariants.{Ok, Done, Nothing, BlockedOn}
use Rattle.rules.specs.Lists.{total}
use Rattle.rules.specs.Records.{rising}
use Rattle.rules.specs.Request.{Request, requested, with_mode}
use Rattle.rules.specs.Table.{Meter, Table, is_tenant, meter_of}
use Rattle.rules.specs.Prices.{clause9}
use Rattle.rules.specs.Counters.{cx, cs}
use Rattle.rules.specs.Calls.{Outcome, named, begin_of, finish_of, scan_of, open_of}
use Rattle.rules.specs.Runs.{Call, Run, run_of, step, number}
use Rattle.rules.specs.Runs.Call.{Begin, Finish, Recheck, Scan, Open, Grant, Pick}

-- ---- the twelve lines
shares : List ℕ
shares = 2 ∷ 2 ∷ 0 ∷ 0 ∷ 0 ∷ 0 ∷ 0 ∷ 0 ∷ 0 ∷ 0 ∷ 0 ∷ 0 ∷ 0 ∷ 0 ∷ 0 ∷ 0 ∷ []

unfoldable pub twelve_lines : List Call
unfolding shares
twelve_lines =
    Open shares ∷
    Grant 1 40 ∷
    Grant 2 40 ∷
    Begin 1 0 [] (10 ∷ []) ∷
    Begin 1 0 [] (11 ∷ []) ∷
    Begin 2 0 [] (10 ∷ 12 ∷ []) ∷
    Begin 2 0 [] (12 ∷ []) ∷
    Finish 1 1 ∷
    Recheck 2 1 ∷
    Scan 2 ∷
    Pick ∷
    Finish 2 2 ∷
    []

-- the table after so many lines, whatever stood before the first
abbrev pub after_line : ℕ → Run → Table
after_line n r = (run_of clause9 r (take n twelve_lines)).table

-- ---- "from an empty queue ... and with places and fuel to spare"
abbrev pub idle : List Meter → Table
idle meters = record { meters = meters; queue = [] }

pub record Tenant (meters : List Meter) (who : ℕ) : Type 0 where
  pub sixteen : length meters ≡ 16
  pub valid : is_tenant who ≡ true

pub record Spare (meters : List Meter) (who requests units : ℕ) : Type 0 where
  pub tenant : Tenant meters who
  pub places : requests ≤ (meter_of (idle meters) who).share
  pub serials : (meter_of (idle meters) who).serials + requests ≤ 65535
  pub fuel : units ≤ (meter_of (idle meters) who).fuel

-- of two requests, one of tenant a and one of tenant b, those that are a tenant's own: both, if the two are the same
abbrev pub own : ℕ → ℕ → ℕ
own a b = if eqb a b then 2 else 1

-- each has what its own of two requests of 4 units need
pub record SpareTwo (meters : List Meter) (a b : ℕ) : Type 0 where
  pub first : Spare meters a (own a b) (4 * own a b)
  pub second : Spare meters b (own a b) (4 * own a b)

-- an entry that awaits no answers, under a name that is so many serials on
abbrev pub entry : List Meter → ℕ → ℕ → Mode → List ℕ → List ℕ → Request
entry meters who on mode reads writes = with_mode (requested who ((meter_of (idle meters) who).serials + on) 0 reads writes) mode

-- the tenant's fuel after a call
abbrev pub left : Outcome → ℕ → ℕ
left o who = (meter_of o.table who).fuel

abbrev pub begins : Table → ℕ → List ℕ → List ℕ → Outcome
begins t who reads writes = begin_of clause9 t who 0 reads writes

abbrev pub scans : List Meter → List Request → ℕ → Outcome
scans meters q who = scan_of clause9 (record { meters = meters; queue = q }) who

-- a reader of 5 and then a request of a tenant, who may be the same
abbrev pub reader : List Meter → ℕ → Outcome
reader meters a = begins (idle meters) a (5 ∷ []) []

abbrev pub reader_then : List Meter → ℕ → ℕ → List ℕ → List ℕ → Outcome
reader_then meters a b reads writes = begins (reader meters a).table b reads writes

pub record TenExamples : Type 0 where
  -- E1 After line 7, Cx of 10, 11, 12 is 2, 1, 2.
  pub e1 : (r : Run) →
      let q = (after_line 7 r).queue in
      (cx q 10 ≡ 2) × (cx q 11 ≡ 1) × (cx q 12 ≡ 2)
  -- E2 After line 8, Cx of 10 is 1; line 10 costs 1 + 2 + 3.
  pub e2 : (r : Run) →
      (cx (after_line 8 r).queue 10 ≡ 1) ×
      ((step clause9 (after_line 9 r) (Scan 2)).burnt ≡ 1 + 2 + 3)
  -- E3 Two readers of 5: both Free, Cs 2.
  pub e3 : (meters : List Meter) (a b : ℕ) →
      SpareTwo meters a b →
      let first = entry meters a 1 Free (5 ∷ []) [] in
      let second = entry meters b (own a b) Free (5 ∷ []) [] in
      let o = reader_then meters a b (5 ∷ []) [] in
      ((reader meters a).answer ≡ named first) ×
      (o.answer ≡ named second) ×
      (o.table.queue ≡ first ∷ second ∷ []) ×
      (cs o.table.queue 5 ≡ 2)
  -- E4 A reader of 5, then a writer of 5: the second is Blocked. By document 02, item 5, it reports 5.
  pub e4 : (meters : List Meter) (a b : ℕ) →
      SpareTwo meters a b →
      let first = entry meters a 1 Free (5 ∷ []) [] in
      let second = entry meters b (own a b) Blocked [] (5 ∷ []) in
      let o = reader_then meters a b [] (5 ∷ []) in
      (o.answer ≡ BlockedOn second.tenant second.serial 5) ×
      (o.table.queue ≡ first ∷ second ∷ [])
  -- E5 Both lists empty: Free, price 2.
  pub e5 : (meters : List Meter) (who : ℕ) →
      Spare meters who 1 2 →
      let e = entry meters who 1 Free [] [] in
      let o = begins (idle meters) who [] [] in
      (o.answer ≡ named e) ×
      (o.table.queue ≡ e ∷ []) ×
      (o.burnt ≡ 2)
  -- E6 Writes 7, 7: refusal 4. Reads 7 and writes 7, by document 02, item 4: "Free at price 4, given the fuel"; it "raises Cx and
  -- not Cs".
  pub e6 : (meters : List Meter) (who : ℕ) →
      (Spare meters who 1 1 → number (begins (idle meters) who [] (7 ∷ 7 ∷ [])) ≡ 4) ×
      (Spare meters who 1 4 →
      let e = entry meters who 1 Free [] (7 ∷ []) in
      let o = begins (idle meters) who (7 ∷ []) (7 ∷ []) in
      (o.answer ≡ named e) ×
      (o.table.queue ≡ e ∷ []) ×
      (o.burnt ≡ 4) ×
      (cx o.table.queue 7 ≡ 1) ×
      (cs o.table.queue 7 ≡ 0))
  -- E7 Fuel 3, one write: refusal 9, fuel 2. Fuel 4: admitted, fuel 0, and Finish succeeds.
  pub e7 : (meters : List Meter) (who r : ℕ) →
      Spare meters who 1 0 →
      let fuel = (meter_of (idle meters) who).fuel in
      let e = entry meters who 1 Free [] (r ∷ []) in
      let o = begins (idle meters) who [] (r ∷ []) in
      (fuel ≡ 3 → (number o ≡ 9) × (left o who ≡ 2)) ×
      (fuel ≡ 4 → (o.answer ≡ named e) × (left o who ≡ 0) × ((finish_of clause9 o.table who e.serial).answer ≡ Done))
  -- E8 Scan on fuel 1: "nothing" on an empty queue; refusal 9 on any other. Fuel 0 after both.
  pub e8 : (meters : List Meter) (who : ℕ) →
      Tenant meters who →
      (meter_of (idle meters) who).fuel ≡ 1 →
      let empty = scans meters [] who in
      ((empty.answer ≡ Nothing) × (left empty who ≡ 0)) ×
      ((e : Request) (q : List Request) → let other = scans meters (e ∷ q) who in (number other ≡ 9) × (left other who ≡ 0))
  -- E9 Eight rising reads pass; nine give 3.
  pub e9 : (meters : List Meter) (who : ℕ) (reads : List ℕ) →
      Spare meters who 1 18 →
      let o = begins (idle meters) who reads [] in
      (length reads ≡ 8 → rising reads ≡ true → o.answer ≡ named (entry meters who 1 Free reads [])) ×
      (length reads ≡ 9 → number o ≡ 3)
  -- E10 Shares adding to 64 open; 65 gives 14.
  pub e10 : (shares : List ℕ) →
      length shares ≡ 16 →
      (total (λ n. n) shares ≡ 64 → (open_of shares).answer ≡ Ok) ×
      (total (λ n. n) shares ≡ 65 → number (open_of shares) ≡ 14)
