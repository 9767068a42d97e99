-- What a call knows of the entry that it names, once its place is looked up and it is judged.
use Rattle.std.proofs.Common.{◌≡◌, refl, sym, ap, subst, ◌∙◌, ℕ, suc, ◌+◌, Bool, true, false, cond, length, get_or, arith, ltb, not, List, [], ◌∷◌, Option, Some, None, Result, Ok, Err, ok_or, map, position}
use Rattle.std.proofs.lemmas.List.{length-map}
use Rattle.std.proofs.lemmas.List.Recursion.{is_position_or_len}
use borrow.Author.Tests.{ltb-true, ltb-false, le-leb, lt-leb, not-false}
use denote.Enum.Bare.{sameb}
use Rattle.rules.specs.declared.Mode.TheVariants.{Free, Blocked}
use Rattle.rules.specs.declared.Refusal.{Refusal}
use Rattle.rules.specs.declared.Refusal.TheVariants.{Absent}
use Rattle.rules.specs.Numbers.{number_of}
use Rattle.rules.specs.contracts.Mode as mode
use Rattle.rules.specs.Lists.{before}
use Rattle.rules.specs.Request.{Request, is_named, is_free, is_blocked}
use Rattle.rules.specs.Table.{Table, is_tenant}
use Rattle.rules.specs.Refusals.{Row, ◌gives◌, first_of, is_dry, stands_at, is_absent, entry_of, scan_rows}
use Rattle.rules.proofs.Refusals.{pass}
use Rattle.entry.specs.declared.Entry.{Entry}
use Rattle.entry.specs.Entry.{blank, request}
use Rattle.queue.specs.Queue.{Queue, queued, requests}
use Rattle.queue.proofs.Views.{Slots, requests-length}
use Rattle.manager.specs.declared.State.{State}
use Rattle.manager.specs.State.{queue_of, view, Sound}
use Rattle.manager.specs.Deeds.{FoundAt}
use Rattle.manager.proofs.Done.{some-number}
use Rattle.manager.proofs.Modes.{free-told, blocked-told}
use Rattle.manager.proofs.Rows.{entry-is}

-- where `position` stops, the entry stands
module _ (q : Queue) (who serial : ℕ) where
  stops : (n : ℕ) → before (is_named who serial) (requests q) ≡ n → FoundAt (requests q) who serial (cond (ltb n (length (queued q))) (Some n) None)
  stops n is = go (ltb n (length (queued q))) refl
    where
      long : length (requests q) ≡ length (queued q)
      long = length-map (queued q) request

      go : (b : Bool) → ltb n (length (queued q)) ≡ b → FoundAt (requests q) who serial (cond b (Some n) None)
      go true e = (sym is, omega (arith, ltb-true _ _ e, long))
      go false e = le-leb _ _ (omega (arith, ltb-false _ _ e, is, long))

  pub found : {r : Option ℕ} → r ≡ position (λ e. is_named who serial (request e)) (queued q) → FoundAt (requests q) who serial r
  unfolding before
  found is =
      let test = λ (e : Entry). is_named who serial (request e) in
      let one : (n : ℕ) → suc n ≡ 1 + n = λ n. omega arith in
      rw is (stops _ (is_position_or_len (λ es. before (is_named who serial) (map request es)) test refl (λ e es. ap (λ n. cond (test e) 0 n) (one _)) (queued q)))

-- ---- what `ok_or` makes of the place, a refusal where there is none
module _ (q : List Request) (who serial : ℕ) where
  pub present : {at : ℕ} → FoundAt q who serial (Some at) → is_absent who serial q ≡ false
  present f = lt-leb (length q) (stands_at who serial q) (omega (arith, f.0, f.1))

  placed : (r : Option ℕ) → FoundAt q who serial r → (at : ℕ) → ok_or r Absent ≡ Ok at → FoundAt q who serial (Some at)
  placed (Some i) f at e = let same : i ≡ at = cc in subst (λ n. FoundAt q who serial (Some n)) same f
  placed None f at e = cc

  missed : (r : Option ℕ) → FoundAt q who serial r → (why : Refusal) → ok_or r Absent ≡ Err why → (is_absent who serial q ≡ true) × (Absent ≡ why)
  missed (Some i) f why e = cc
  missed None f why e = (f, cc)

  pub absent : (r : Option ℕ) {out : Result ℕ Refusal} → FoundAt q who serial r → out ≡ ok_or r Absent → {why : Refusal} → out ≡ Err why → (is_absent who serial q ≡ true) × (Absent ≡ why)
  absent r f is err = missed r f _ (sym is ∙ err)

-- ---- the entry at the place is the one of that name
pub record Named (s : State) (who serial at : ℕ) : Type 0 where
  pub place : at ≡ stands_at who serial (view s).queue
  pub there : is_absent who serial (view s).queue ≡ false
  pub entry : request (get_or s.entries at blank) ≡ entry_of who serial (view s).queue
  pub blocked : sameb mode.the_type (get_or s.entries at blank).mode Blocked ≡ is_blocked (entry_of who serial (view s).queue).mode
  pub free : sameb mode.the_type (get_or s.entries at blank).mode Free ≡ is_free (entry_of who serial (view s).queue).mode

module _ {s : State} (h : Sound s) (full : length s.entries ≡ 64) (who serial : ℕ) where
  slots : Slots (queue_of s)
  slots = record { full = full; neat = h.tied.neat }

  pub named-at : {at : ℕ} → FoundAt (view s).queue who serial (Some at) → Named s who serial at
  named-at {at} f =
      let is : request (get_or s.entries at blank) ≡ entry_of who serial (view s).queue = entry-is slots who serial f.0 (omega (arith, f.1, requests-length slots)) in
      record {
        place = f.0;
        there = present (view s).queue who serial f;
        entry = is;
        blocked = blocked-told _ ∙ ap (λ (e : Request). is_blocked e.mode) is;
        free = free-told _ ∙ ap (λ (e : Request). is_free e.mode) is;
      }

  pub named : (r : Option ℕ) {out : Result ℕ Refusal} → FoundAt (view s).queue who serial r → out ≡ ok_or r Absent → {at : ℕ} → out ≡ Ok at → Named s who serial at
  named r f is ok = named-at (placed (view s).queue who serial r f _ (sym is ∙ ok))

-- ---- refusals 1 and 2, that every tenant call but Finish begins with
pub fuelled : (t : Table) (who : ℕ) → first_of (scan_rows t who) ≡ 0 → (is_tenant who ≡ true) × (is_dry t who ≡ false)
unfolding scan_rows
fuelled t who none =
    let a = pass _ 1 _ refl none in
    let b = pass _ 2 _ refl a.1 in
    (not-false (is_tenant who) a.0, b.0)

pub unpaid : (t : Table) (who : ℕ) (rows : List Row) (why : Refusal) → first_of (scan_rows t who) ≡ number_of why → first_of (not (is_tenant who) gives 1 ∷ is_dry t who gives 2 ∷ rows) ≡ number_of why
unfolding scan_rows first_of
unpaid t who rows why = go (not (is_tenant who)) (is_dry t who)
  where
    go : (a b : Bool) → first_of (a gives 1 ∷ b gives 2 ∷ []) ≡ number_of why → first_of (a gives 1 ∷ b gives 2 ∷ rows) ≡ number_of why
    go true b e = e
    go false true e = e
    go false false e = absurd (some-number why (sym e))
