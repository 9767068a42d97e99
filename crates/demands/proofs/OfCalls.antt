-- What the promises say of the law book's step, they say of the real call, whose outcome is that step's seen through the view.
use Prim.Native.Nat.{ℕ, ◌+◌, ◌≤◌}
use mathlib.Core.Path.{◌≡◌, sym, ap, subst, ◌∙◌}
use mathlib.Core.Bool.{false}
use mathlib.Core.List.{[]}
use lib.Dec.{eqb, ltb}
use Rattle.rules.specs.declared.Answer.TheVariants.{Nothing, Refused, Named}
use Rattle.rules.specs.Lists.{total}
use Rattle.rules.specs.Table.{Table}
use Rattle.rules.specs.Prices.{clause9, searching}
use Rattle.rules.specs.Calls.{Outcome as LawOutcome, asked, search}
use Rattle.rules.specs.Said.{said}
use Rattle.rules.specs.Runs.{Call, step, caller_of, is_open, number}
use Rattle.rules.specs.Runs.Call.{Begin, Finish, Scan, Open, Pick, Evict, Cancel}
use Rattle.rules.specs.Sound.{SoundAny}
use Rattle.rules.proofs.Sound.{sound-any}
use Rattle.promises.specs.Fuel.{records_in, Costs9, Pays, Gains}
use Rattle.promises.specs.Refused.{SameButFuel, Refusal, RefusedOpen}
use Rattle.promises.specs.Searches.{Promoting, LookedAtAll, CutShort}
use Rattle.promises.specs.Places.{Joins, Leaves, FrontRuns}
use Rattle.promises.specs.Reports.{ReportOf}
use Rattle.promises.specs.TakingOut.{Takes, LowersNeither, TakenOut}
use Rattle.promises.specs.Promises.{Promises}
use Rattle.promises.proofs.Promises.{at-clause9}
use Rattle.manager.specs.declared.State.{State}
use Rattle.manager.specs.State.{view, Sound}
use Rattle.manager.specs.Runs.{CodeStep}
use Rattle.manager.proofs.Runs.{did-seen}
use Rattle.demands.specs.OfCalls.{Made, table_of, outcome_of, Untouched, OfCall, EveryCall}

-- the promises at document 01's prices
abbrev promised : Promises clause9
promised = at-clause9.all

-- the arrays of counters are told by the list of requests, so where that is the same they are too
untouched : {a b : State} → Sound a → Sound b → SameButFuel (view a) (view b) → Untouched a b
untouched {a} {b} h k same = record {
  exclusive = λ r lt. k.tied.writers.each r lt ∙ same.exclusive r ∙ sym (h.tied.writers.each r lt);
  shared = λ r lt. k.tied.readers.each r lt ∙ same.shared r ∙ sym (h.tied.readers.each r lt);
  entries = same.entries;
  places = same.places;
  serials = same.serials;
  shares = same.shares;
}

module _ (s : CodeStep) (m : Made s) where
  abbrev t : Table
  t = table_of s

  -- what holds of the law book's step holds of the call's outcome
  seen_as : (P : LawOutcome → Type 0) (c : Call) → s.call ≡ c → P (step clause9 t c) → P (outcome_of s)
  seen_as P c is h = subst P (sym (did-seen m.did ∙ ap (step clause9 t) is)) h

  seen_by : (P : LawOutcome → Type 0) → P (step clause9 t s.call) → P (outcome_of s)
  seen_by P h = subst P (sym (did-seen m.did)) h

  sound : SoundAny t
  sound = sound-any m.sound.table

  -- a refused call: the law book's refusal, and the same of the arrays
  refused : is_open s.call ≡ false → eqb (number (outcome_of s)) 0 ≡ false → Refusal 1 (searching clause9 (search clause9 t (caller_of s.call)).looked) t s.call (outcome_of s)
  refused shut =
      seen_by (λ o. eqb (number o) 0 ≡ false → Refusal 1 (searching clause9 (search clause9 t (caller_of s.call)).looked) t s.call o)
      (at-clause9.refuses t s.call shut)

  of-call : OfCall s
  of-call = record {
    refusals = λ shut h. let r = refused shut h in record { state = untouched m.sound m.did.sound r.same; burnt = r.burnt };
    refused-opens = λ shares is. seen_as (λ o. eqb (number o) 0 ≡ false → RefusedOpen o) (Open shares) is (promised.refuses-open shares);
    never-five = seen_by (λ o. eqb (number o) 5 ≡ false) (promised.never-five t s.call);
    rules = record {
      outcome = did-seen m.did;
      exclusive = m.did.sound.tied.writers.each;
      shared = m.did.sound.tied.readers.each;
      written = λ r lt. let tied = m.did.sound.tied in tied.written.each r lt ∙ ap (ltb 0) (tied.writers.each r lt);
      read = λ r lt. let tied = m.did.sound.tied in tied.read.each r lt ∙ ap (ltb 0) (tied.readers.each r lt);
    };
    reports = λ who awaited reads writes is. seen_as (λ o. number o ≡ 0 → ReportOf t.queue (asked t who awaited reads writes) o.answer) (Begin who awaited reads writes) is (promised.reports t who awaited reads writes);
    reports-none = λ other. seen_by (λ o. (said o.answer).clash ≡ []) (promised.begin-alone t s.call other);
    search-promotes = λ who at is tenant first enough. seen_as (Promoting clause9 who t at) (Scan who) is (promised.search-promotes t who at tenant first enough);
    search-names = λ who mode tenant serial is. seen_as (λ o. o.answer ≡ Named mode tenant serial → (at : ℕ) × Promoting clause9 who t at o) (Scan who) is (promised.search-names t who mode tenant serial);
    search-reports-none = λ who is. seen_as (λ o. o.answer ≡ Nothing → LookedAtAll clause9 who t o) (Scan who) is (promised.search-nothing t who);
    search-cut = λ who is. seen_as (λ o. o.answer ≡ Refused 9 → (at : ℕ) × CutShort clause9 who t at o) (Scan who) is (promised.search-cut t who);
    price = seen_by (Costs9 t s.call) (at-clause9.prices t s.call).0;
    own-fuel = λ who tenant own. seen_by (Pays t who) (promised.own-call t s.call who sound tenant own);
    other-fuel = λ who tenant shut other. seen_by (Gains t who s.call) (promised.other-call t s.call who sound tenant shut other);
    search-costs = λ who is tenant fuelled. seen_as (λ o. o.burnt ≡ 1 + total (λ e. 1 + records_in e) (search clause9 t who).looked) (Scan who) is (at-clause9.search-price t who tenant fuelled);
    search-at-most = λ who is. seen_as (λ o. o.burnt ≤ 1089) (Scan who) is (at-clause9.search-most t who sound);
    admission = λ who awaited reads writes is may. seen_as (Joins clause9 t (asked t who awaited reads writes)) (Begin who awaited reads writes) is (promised.admits t who awaited reads writes may);
    letting-go = λ who serial is may. seen_as (Leaves t who serial) (Finish who serial) is (promised.finishes t who serial may);
    front-picked = λ e q is front. seen_as (FrontRuns e q) Pick is (promised.picks t e q front);
    eviction-takes = λ whose serial who is. seen_as (Takes t whose who) (Evict whose serial) is (promised.eviction-takes t whose serial who);
    others-lower-neither = λ who tenant shut other kept. seen_by (LowersNeither t who) (promised.others-lower-neither t s.call who sound tenant shut other kept);
    evicted = λ ahead e behind is queue. seen_as (TakenOut t ahead e behind 0) (Evict e.tenant e.serial) is (promised.evicts t ahead e behind sound queue);
    cancelled = λ ahead e behind is queue fuelled blocked. seen_as (TakenOut t ahead e behind 1) (Cancel e.tenant e.serial) is (promised.cancels t ahead e behind sound queue fuelled blocked);
    cancelled-no-other = λ ahead e behind is queue fuelled runs. seen_as (λ o. number o ≡ 11) (Cancel e.tenant e.serial) is (promised.cancels-no-other t ahead e behind sound queue fuelled runs);
  }

pub every_call : EveryCall
every_call = of-call
