-- Why document 01's rule of promotion had to go: by it a run reaches a queue that no Pick, Deliver or Finish ever changes.
use Rattle.std.specs.Prelude.{ℕ, ◌≡◌, true, List, [], ◌∷◌, ltb, replicate, if◌then◌else◌}
use Rattle.rules.specs.declared.Mode.TheVariants.{Free, Waiting}
use Rattle.rules.specs.Lists.{every}
use Rattle.rules.specs.Request.{Request, requested, with_mode, is_blocked, promoted}
use Rattle.rules.specs.Table.{Table}
use Rattle.rules.specs.Prices.{Prices, clause9}
use Rattle.rules.specs.Runs.{Call, from, run_of}
use Rattle.rules.specs.Runs.Call.{Begin, Finish, Grant, Pick, Deliver}
use Rattle.promises.specs.Fuel.{reached}
use Rattle.promises.specs.Drains.{is_draining}

-- document 01: "A promoted entry becomes Waiting if it was opened with awaited above 0, and Free if not"
abbrev pub promoted_by01 : Request → Request
promoted_by01 e = with_mode e (if ltb 0 e.awaited then Waiting else Free)

-- the queue after a Pick by that rule
abbrev pub picked_by01 : List Request → List Request
picked_by01 [] = []
picked_by01 (e ∷ q) = (if is_blocked e.mode then promoted_by01 e else e) ∷ q

-- tenant 1's second request awaits one answer, has it while it is Blocked, and is the front then
abbrev pub four_each : List ℕ
four_each = replicate 16 4

abbrev pub early_answer : List Call
early_answer = Grant 1 100 ∷ Begin 1 0 [] (7 ∷ []) ∷ Begin 1 1 [] (7 ∷ []) ∷ Deliver 1 2 ∷ Finish 1 1 ∷ []

-- as it stands once it is picked by document 01's rule
abbrev pub hung : Request
hung = record { tenant = 1; serial = 2; mode = Waiting; awaited = 1; due = 0; reads = []; writes = 7 ∷ [] }

pub record Hangs : Type 0 where
  -- the run is one by either rule: at a Begin they say the same, and no other call of it promotes
  pub begins :
      (who serial awaited : ℕ) (reads writes : List ℕ) →
      let e = requested who serial awaited reads writes in
      promoted_by01 e ≡ promoted e
  pub reaches : picked_by01 (reached clause9 four_each early_answer).table.queue ≡ hung ∷ []
  -- there it stays, whatever of the three calls is made; of these only Pick promotes, and it leaves a Waiting front alone by either rule
  pub stays :
      (p : Prices) (t : Table) (calls : List Call) →
      t.queue ≡ hung ∷ [] →
      every is_draining calls ≡ true →
      (run_of p (from t) calls).table.queue ≡ hung ∷ []
  -- by item 2's rule two calls empty the queue
  pub leaves : (run_of clause9 (reached clause9 four_each early_answer) (Pick ∷ Finish 1 2 ∷ [])).table.queue ≡ []
