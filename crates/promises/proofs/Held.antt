-- The places that a tenant holds once an entry has joined, left, or been changed in place.
use Rattle.std.specs.Prelude.{if◌then◌else◌}
use Prim.Native.Nat.{ℕ, ◌+◌, ◌<◌}
use mathlib.Core.Path.{◌≡◌, refl, ap}
use mathlib.Core.Bool.{Bool, true, false}
use mathlib.Core.List.{List, [], ◌∷◌}
use native.Mathlib.Nat.{not-suc-le-zero, le_of_suc-le-suc}
use native.Mathlib.Omega.{arith}
use lib.Dec.{eqb}
use lib.ListN.{length, get_or, set}
use borrow.Author.Tests.{eqb-true}
use Rattle.rules.specs.Lists.{before}
use Rattle.rules.specs.Request.{Request, nobody, is_named, promoted, admitted, delivered}
use Rattle.rules.specs.Table.{Table, places_of}
use Rattle.rules.specs.Refusals.{stands_at, is_absent, entry_of}
use Rattle.rules.specs.Counters.{cx, cs, alone}
use Rattle.rules.specs.Scan.{End, found, nothing, short}
use Rattle.rules.specs.Calls.{joined, with_entry, gone, found-table}
use Rattle.rules.proofs.Tests.{both, one, if-either, if-cases}
use Rattle.rules.proofs.Lists.{count-last, count-without, count_set}
use Rattle.rules.proofs.Requests.{admitted-as, delivered-as}
use Rattle.rules.proofs.Refusals.{here}

-- the element that stands where the first stands that passes the test passes it
before-finds : {A : Type 0} (g : A → Bool) (xs : List A) (d : A) → before g xs < length xs → g (get_or xs (before g xs) d) ≡ true
unfolding before
before-finds g [] d = λ lt. absurd (not-suc-le-zero lt)
before-finds g (x ∷ xs) d =
    if-cases (λ (n : ℕ). n < length (x ∷ xs) → g (get_or (x ∷ xs) n d) ≡ true) (g x) (λ e. λ lt. e) (λ e. λ lt. before-finds g xs d (le_of_suc-le-suc lt))

-- the table once a Recheck has found the entry alone at its records, or not
abbrev pub rechecked : Table → ℕ → ℕ → Table
rechecked t w serial =
    let e = entry_of w serial t.queue in
    if alone (cx t.queue) (cs t.queue) e then with_entry t (stands_at w serial t.queue) (promoted e) else t

module _ (t : Table) (who : ℕ) where
  abbrev held : List Request → ℕ
  held q = places_of q who

  pub held-joined : (e : Request) → held (joined t (admitted t.queue e)).queue ≡ held t.queue + one (eqb e.tenant who)
  held-joined e =
      let same : eqb (admitted t.queue e).tenant who ≡ eqb e.tenant who = ap (λ (a : Request). eqb a.tenant who) (admitted-as t.queue e) in
      omega (arith, count-last (λ (a : Request). eqb a.tenant who) t.queue (admitted t.queue e), ap one same)

  -- the entry that bears a name is that tenant's
  pub held-gone : (w serial : ℕ) → is_absent w serial t.queue ≡ false → held t.queue ≡ held (gone t w serial).queue + one (eqb w who)
  held-gone w serial present =
      let at = stands_at w serial t.queue in
      let e = entry_of w serial t.queue in
      let there : at < length t.queue = here w serial t.queue present in
      let name = both (eqb e.tenant w) (eqb e.serial serial) (before-finds (is_named w serial) t.queue nobody there) in
      let same : eqb e.tenant who ≡ eqb w who = ap (λ (n : ℕ). eqb n who) (eqb-true e.tenant w name.0) in
      omega (arith, count-without (λ (a : Request). eqb a.tenant who) t.queue at nobody there, ap one same)

  -- an entry takes the place of another of the same tenant
  held-set : (at : ℕ) (e : Request) → e.tenant ≡ (get_or t.queue at nobody).tenant → held (set t.queue at e) ≡ held t.queue
  held-set at e same = count_set (λ (a : Request). eqb a.tenant who) t.queue at e nobody (ap (λ (n : ℕ). eqb n who) same)

  pub held_found : (end : End) → held (found-table t end).queue ≡ held t.queue
  unfolding promoted
  held_found (found at) = held-set at (promoted (get_or t.queue at nobody)) refl
  held_found nothing = refl
  held_found short = refl

  pub held-rechecked : (w serial : ℕ) → held (rechecked t w serial).queue ≡ held t.queue
  unfolding promoted
  held-rechecked w serial =
      let e = entry_of w serial t.queue in
      if-either (λ (u : Table). held u.queue ≡ held t.queue) (alone (cx t.queue) (cs t.queue) e) (held-set (stands_at w serial t.queue) (promoted e) refl) refl

  pub held-delivered : (w serial : ℕ) → held (with_entry t (stands_at w serial t.queue) (delivered (entry_of w serial t.queue))).queue ≡ held t.queue
  held-delivered w serial =
      let e = entry_of w serial t.queue in
      held-set (stands_at w serial t.queue) (delivered e) (ap (λ (r : Request). r.tenant) (delivered-as e))
