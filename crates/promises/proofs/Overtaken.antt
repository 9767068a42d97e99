-- The other side of promise 15. The runs are computed: by a wrong rule 3.1 is Free while 2.1 is in the queue. That no calls do so by
-- the law book's is the promise itself, of the run that they go on to.
use mathlib.Core.Path.{◌≡◌, refl, sym, ap, subst, ◌∙◌}
use mathlib.Core.Bool.{true, not, true≢false}
use mathlib.Core.List.{List, [], ◌∷◌, ◌++◌, append_assoc}
use borrow.Author.Tests.{not-true}
use Rattle.rules.specs.Lists.{every, some, total, count_if, before, keep_if}
use Rattle.rules.specs.Records.{member, meets, only_read, rising, rising_past}
use Rattle.rules.specs.Request.{conflict, size, promoted, admitted}
use Rattle.rules.specs.Table.{fresh}
use Rattle.rules.specs.Prices.{Prices, clause9, charge, costly, looks}
use Rattle.rules.specs.Refusals.{first_of, open_rows, grant_rows, begin_rows, finish_rows, scan_rows}
use Rattle.rules.specs.Scan.{scan_walk}
use Rattle.rules.specs.Clash.{clash_at, lowest, lowest_from, lowest_clash}
use Rattle.rules.specs.Calls.{Outcome, open_of, grant_of, begin_of, finish_of, pick_of, scan_of}
use Rattle.rules.specs.Said.{said}
use Rattle.rules.specs.Runs.{Call, Step, Run, is_open, after, run_of}
use Rattle.rules.proofs.Tests.{both}
use Rattle.rules.proofs.Order.{each_first}
use Rattle.promises.specs.Fuel.{reached}
use Rattle.promises.specs.Names.{Claim, InTurn}
use Rattle.promises.specs.Order.{points_from}
use Rattle.promises.specs.Hung.{four_each}
use Rattle.promises.specs.Overtaken.{first_calls, second, third, two, three, walk_by, Overtaken}
use Rattle.promises.proofs.Runs.{made}
use Rattle.promises.proofs.Admissions.{turn_on}
use Rattle.promises.proofs.Points.{now}
use Rattle.promises.proofs.Order.{order}

abbrev one : Run
one = reached clause9 four_each (first_calls [])

abbrev earlier : Claim
earlier = record { tenant = 2; serial = 1; reads = []; writes = 7 ∷ 9 ∷ [] }

abbrev later : Claim
later = record { tenant = 3; serial = 1; reads = []; writes = 9 ∷ [] }

-- whatever the third Begin came to, if it answered with that name
in-turn : (o : Outcome) → (said o.answer).values ≡ 3 ∷ 1 ∷ [] → InTurn earlier later (record { met = two.table; call = third; outcome = o } ∷ two.steps)
unfolding run_of after open_of open_rows first_of fresh grant_of grant_rows begin_of begin_rows admitted promoted conflict meets member some only_read rising rising_past total count_if keep_if size charge costly
in-turn o says = record {
  second = record { step = record { met = two.table; call = third; outcome = o }; later = []; earlier = two.steps; is = refl; at = record { awaited = 0; reads = []; reduced = refl; call = refl; answer = says } };
  first = record { step = made clause9 one.table second; later = []; earlier = one.steps; is = refl; at = record { awaited = 0; reads = []; reduced = refl; call = refl; answer = refl } };
}

-- calls that open nothing add steps
steps-grow : (p : Prices) (more : List Call) (r : Run) → every (λ c. not (is_open c)) more ≡ true → (since : List Step) × ((run_of p r more).steps ≡ since ++ r.steps)
unfolding run_of after every
steps-grow p [] r shut = ([], refl)
steps-grow p (c ∷ more) r shut =
    let k = both (not (is_open c)) (every (λ (c : Call). not (is_open c)) more) shut in
    let w = steps-grow p more (after p r c) k.1 in
    let s = made p r.table c in
    let added : (after p r c).steps ≡ s ∷ r.steps = rw (not-true (is_open c) k.0) in
    (w.0 ++ s ∷ [], w.1 ∙ ap (λ (l : List Step). w.0 ++ l) added ∙ sym (append_assoc w.0 (s ∷ []) r.steps))

pub overtaken : Overtaken
unfolding run_of after open_of open_rows first_of fresh grant_of grant_rows begin_of begin_rows finish_of finish_rows pick_of scan_of scan_rows scan_walk walk_by looks admitted promoted conflict meets member some only_read rising rising_past total count_if keep_if before size charge costly clash_at lowest lowest_from lowest_clash points_from
overtaken = record {
  begin-breaks = λ h. true≢false (each_first (h earlier later (in-turn _ refl) refl) refl).gone;
  scan-breaks = λ h. true≢false (each_first (h earlier later (turn_on (_ ∷ []) (in-turn _ refl)) refl) refl).gone;
  begin-else = λ t who reads writes. refl;
  scan-else = refl;
  blocked = refl;
  none_found = refl;
  never = λ more shut h.
      let w = steps-grow clause9 more three shut in
      let turn = subst (InTurn earlier later) (sym w.1) (turn_on w.0 (in-turn _ refl)) in
      now _ _ (order clause9 four_each (first_calls (second ∷ third ∷ more)) earlier later turn refl) h;
  at_last = refl;
}
