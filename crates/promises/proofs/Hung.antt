-- The other side of promise 12: an entry that waits for nothing is let go by none of Pick, Deliver and Finish, since Pick finds it running,
-- Deliver finds no answer due and Finish finds it not Free.
use Prim.Native.Nat.{ℕ, ◌<◌}
use mathlib.Core.Path.{◌≡◌, refl, sym, ap, ◌∙◌}
use mathlib.Core.Bool.{true, false, true≢false, false≢true}
use mathlib.Core.List.{List, [], ◌∷◌}
use native.Mathlib.Omega.{arith}
use lib.Dec.{eqb}
use lib.ListN.{length, get_or}
use borrow.Author.Tests.{eqb-true}
use Rattle.rules.specs.Lists.{every, some, total, count_if, before, keep_if}
use Rattle.rules.specs.Records.{member, meets, only_read, rising, rising_past}
use Rattle.rules.specs.Request.{Request, nobody, is_free, conflict, size, promoted, admitted, delivered}
use Rattle.rules.specs.Table.{Table, fresh}
use Rattle.rules.specs.Prices.{Prices, charge, costly}
use Rattle.rules.specs.Refusals.{first_of, stands_at, entry_of, is_absent, open_rows, grant_rows, begin_rows, finish_rows, deliver_rows}
use Rattle.rules.specs.Calls.{open_of, grant_of, begin_of, finish_of, pick_of, deliver_of}
use Rattle.rules.specs.Runs.{Call, Run, step, from, after, run_of}
use Rattle.rules.specs.Runs.Call.{Begin, Finish, Recheck, Scan, Open, Grant, Pick, Deliver, Evict, Cancel}
use Rattle.rules.proofs.Tests.{both, if-cases}
use Rattle.rules.proofs.Refusals.{finish-passes, deliver-passes, here}
use Rattle.promises.specs.Drains.{is_draining}
use Rattle.promises.specs.Hung.{hung, Hangs}

module _ (p : Prices) (t : Table) (is : t.queue ≡ hung ∷ []) where
  -- a name that is there is its own
  only-entry : (who serial : ℕ) → is_absent who serial t.queue ≡ false → entry_of who serial t.queue ≡ hung
  only-entry who serial h =
      let lt : stands_at who serial t.queue < length t.queue = here who serial t.queue h in
      let one : length t.queue ≡ 1 = ap length is in
      let front : stands_at who serial t.queue ≡ 0 = omega (arith, lt, one) in
      ap (λ (n : ℕ). get_or t.queue n nobody) front ∙ ap (λ (q : List Request). get_or q 0 nobody) is

  stays_at : (c : Call) → is_draining c ≡ true → (step p t c).table.queue ≡ hung ∷ []
  unfolding finish_of deliver_of pick_of
  stays_at (Begin who awaited reads writes) d = absurd (false≢true d)
  stays_at (Finish who serial) d =
      if-cases (λ (u : Table). u.queue ≡ hung ∷ []) (eqb (first_of (finish_rows t who serial)) 0)
      (λ z. let k = finish-passes t who serial (eqb-true _ 0 z) in absurd (false≢true (ap (λ (r : Request). is_free r.mode) (sym (only-entry who serial k.1)) ∙ k.2)))
      (λ z. is)
  stays_at (Recheck who serial) d = absurd (false≢true d)
  stays_at (Scan who) d = absurd (false≢true d)
  stays_at (Open given) d = absurd (false≢true d)
  stays_at (Grant who amount) d = absurd (false≢true d)
  stays_at Pick d = rw is refl
  stays_at (Evict who serial) d = absurd (false≢true d)
  stays_at (Cancel who serial) d = absurd (false≢true d)
  stays_at (Deliver who serial) d =
      if-cases (λ (u : Table). u.queue ≡ hung ∷ []) (eqb (first_of (deliver_rows t who serial)) 0)
      (λ z. let k = deliver-passes t who serial (eqb-true _ 0 z) in absurd (true≢false (ap (λ (r : Request). eqb r.due 0) (sym (only-entry who serial k.0)) ∙ k.1)))
      (λ z. is)

stays_on : (p : Prices) (calls : List Call) (r : Run) → r.table.queue ≡ hung ∷ [] → every is_draining calls ≡ true → (run_of p r calls).table.queue ≡ hung ∷ []
unfolding run_of every after
stays_on p [] r is d = is
stays_on p (c ∷ calls) r is d =
    let k = both (is_draining c) (every is_draining calls) d in
    stays_on p calls (after p r c) (stays_at p r.table is c k.0) k.1

pub hangs : Hangs
unfolding run_of after open_of open_rows first_of fresh grant_of grant_rows begin_of begin_rows finish_of finish_rows pick_of deliver_of deliver_rows admitted promoted delivered conflict meets member some only_read rising rising_past total count_if keep_if before size charge costly
hangs = record {
  begins = λ who serial awaited reads writes. refl;
  reaches = refl;
  stays = λ p t calls is d. stays_on p calls (from t) is d;
  leaves = refl;
}
