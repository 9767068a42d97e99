-- A request that was admitted keeps its lists for as long as it is queued. So whoever asks for a record that it sells, or sells
-- one that it uses, finds a conflict ahead.
use Prim.Native.Nat.{ℕ, ◌≤◌}
use mathlib.Core.Path.{◌≡◌, refl, sym, ap, subst, ◌∙◌}
use mathlib.Core.Bool.{Bool, true, ◌&&◌, ◌||◌, false≢true}
use mathlib.Core.List.{List, [], ◌∷◌, ◌++◌}
use mathlib.Core.Logic.{⊎_elim}
use native.Mathlib.Omega.{arith}
use lib.Dec.{eqb}
use Rattle.rules.specs.Lists.{some}
use Rattle.rules.specs.Records.{member}
use Rattle.rules.specs.Request.{Request, reduced, is_named, admitted}
use Rattle.rules.specs.Table.{Table}
use Rattle.rules.specs.Prices.{Prices}
use Rattle.rules.specs.Refusals.{first_of, begin_rows}
use Rattle.rules.specs.Clash.{clashes_on, lowest_clash}
use Rattle.rules.specs.Calls.{Outcome, begin_of}
use Rattle.rules.specs.Verdicts.{shares_at}
use Rattle.rules.specs.Sound.{Each, Fit, SoundAny, given_by}
use Rattle.rules.specs.Runs.{step, number, after, run_of}
use Rattle.rules.proofs.Tests.{either, or_comm, or-false, or-true}
use Rattle.rules.proofs.Conflict.{conflict-sym, shares-conflict}
use Rattle.rules.proofs.Requests.{admitted-as}
use Rattle.rules.proofs.Reduced.{reduced-conflicts}
use Rattle.rules.proofs.Clashing.{clash-conflicts, clash-shares, reduced-clashes, lowest-reported, joins-blocked}
use Rattle.rules.proofs.Admission.{Admissible, begin-admits}
use Rattle.rules.proofs.Refusals.{begin-passes}
use Rattle.rules.proofs.Order.{each_map, each-without, each_last}
use Rattle.rules.proofs.Sound.{step-any}
use Rattle.promises.specs.Fuel.{reached}
use Rattle.promises.specs.Names.{Claim, claim_of}
use Rattle.promises.specs.Sales.{Ask, begin, asked_at, meeting, SellersConflict, SecondWaits}
use Rattle.promises.proofs.Refusals.{not-refused}
use Rattle.promises.proofs.Changes.{Change}
use Rattle.promises.proofs.Names.{each-end, book, name_of, fresh-name, each-changed, kept_on}

-- ---- the conflict
pub sellers-conflict : SellersConflict
sellers-conflict t u a b r share =
    let x = asked_at t a in
    let y = asked_at u b in
    reduced-conflicts (reduced x) y ∙ conflict-sym (reduced x) y ∙ reduced-conflicts y x ∙ conflict-sym y x ∙ shares-conflict x y r share

-- the record on which they conflict is the same by the reduced lists: what is read no more is still written
shares-reduced : (a e : Request) (r : ℕ) → shares_at a (reduced e) r ≡ shares_at a e r
unfolding some
shares-reduced a e r = alone (reduced e) ∙ reduced-clashes (a ∷ []) e r ∙ sym (alone e)
  where
    alone : (x : Request) → shares_at a x r ≡ clashes_on (a ∷ []) x r
    alone x = sym (clash-shares (a ∷ []) x r ∙ or-false (shares_at a x r))

shares-sym : (a b : Request) (r : ℕ) → shares_at a b r ≡ shares_at b a r
shares-sym a b r = or_comm (member r a.writes && (member r b.reads || member r b.writes)) (member r b.writes && (member r a.reads || member r a.writes))

sellers-share : (x y : Request) (r : ℕ) → shares_at x y r ≡ true → shares_at (reduced x) (reduced y) r ≡ true
sellers-share x y r share =
    shares-reduced (reduced x) y r ∙ shares-sym (reduced x) y r ∙ shares-reduced y x r ∙ shares-sym y x r ∙ share

-- that is told from the lists alone
same_lists : (e f y : Request) (r : ℕ) → claim_of e ≡ claim_of f → shares_at e y r ≡ shares_at f y r
same_lists e f y r k =
    ap (λ (c : Claim). (member r c.writes && (member r y.reads || member r y.writes)) || (member r y.writes && (member r c.reads || member r c.writes))) k

-- some entry of the list bears the name, and who does passes the test
named_some : (who serial : ℕ) (test : Request → Bool) {q : List Request} → Each (λ e. is_named who serial e ≡ true → test e ≡ true) q → some (is_named who serial) q ≡ true → some test q ≡ true
unfolding some
named_some who serial test Each.none h = h
named_some who serial test (Each.also {x = x} {xs = xs} k ks) h = ⊎_elim
    (λ (is : is_named who serial x ≡ true). ap (λ (b : Bool). b || some test xs) (k is))
    (λ (is : some (is_named who serial) xs ≡ true). ap (λ (b : Bool). test x || b) (named_some who serial test ks is) ∙ or-true (test x))
    (either (is_named who serial x) (some (is_named who serial) xs) h)

-- ---- the request keeps its lists
pub passes : (p : Prices) (t : Table) (a : Ask) → number (step p t (begin a)) ≡ 0 → Admissible p t (asked_at t a)
unfolding begin_of
passes p t a h = begin-passes p t (asked_at t a) (not-refused (first_of (begin_rows p t (asked_at t a))) _ h)

-- whoever bears the name has these lists
Keeps : ℕ → ℕ → Claim → List Request → Type 0
Keeps who serial c q = Each (λ e. is_named who serial e ≡ true → claim_of e ≡ c) q

change-keeps : (who serial : ℕ) (c : Claim) (t : Table) (added : List Claim) (q : List Request) → Change t added q → serial ≤ given_by t who → Keeps who serial c t.queue → Keeps who serial c q
unfolding Keeps
change-keeps who serial c t _ _ Change.same le h = h
change-keeps who serial c t _ _ (Change.joins e k) le h = each_last h (λ is. absurd (false≢true (sym (fresh-name t who serial e k le) ∙ is)))
change-keeps who serial c t _ _ (Change.leaves at) le h = each-without at h
change-keeps who serial c t _ _ (Change.changes at e k) le h = each-changed h at e (λ old. λ is. k ∙ old (sym (ap (λ (c : Claim). eqb c.tenant who && eqb c.serial serial) k) ∙ is))

module _ (p : Prices) where
  -- from the step that admits it
  module _ {t : Table} (s : SoundAny t) (a : Ask) (first : number (step p t (begin a)) ≡ 0) where
    abbrev wanted : Request
    wanted = reduced (asked_at t a)

    abbrev met : Table
    met = (step p t (begin a)).table

    joins : met.queue ≡ t.queue ++ admitted t.queue wanted ∷ []
    joins = ap (λ (o : Outcome). o.table.queue) (begin-admits (passes p t a first))

    same-claim : claim_of (admitted t.queue wanted) ≡ claim_of wanted
    same-claim = ap claim_of (admitted-as t.queue wanted)

    first-given : wanted.serial ≤ given_by met a.who
    first-given =
        let fits = subst (Each (Fit (given_by met))) joins (step-any p s (begin a)).entries in
        let own = same-claim in
        let last = (each-end t.queue fits).to-given in
        rw (ap (λ (c : Claim). c.serial) own, ap (λ (c : Claim). c.tenant) own) at last

    -- nobody bore the name before
    first-keeps : Keeps a.who wanted.serial (claim_of wanted) met.queue
    unfolding Keeps
    first-keeps =
        let old : Keeps a.who wanted.serial (claim_of wanted) t.queue = each_map never-named s.entries in
        rw joins (each_last old (λ is. same-claim))
      where
        never-named : (e : Request) → Fit (given_by t) e → is_named a.who wanted.serial e ≡ true → claim_of e ≡ claim_of wanted
        never-named e f is =
            let n = name_of a.who wanted.serial e is in
            let le : e.serial ≤ given_by t a.who = rw n.0 at f.to-given in
            absurd (omega (arith, le, n.1))

  -- the second request finds it ahead
  pub second-waits : SecondWaits p
  unfolding run_of after Keeps
  second-waits shares calls between a b r m share =
      let before = reached p shares calls in
      let t = before.table in
      let s = (book p shares calls).sound in
      let u = meeting p before a between in
      let x = reduced (asked_at t a) in
      let y = reduced (asked_at u b) in
      let kept = kept_on p a.who x.serial (Keeps a.who x.serial (claim_of x)) (change-keeps a.who x.serial (claim_of x)) between (after p before (begin a)) m.shut (first-given s a m.first) (first-keeps s a m.first) in
      let shared : Each (λ e. is_named a.who x.serial e ≡ true → shares_at e y r ≡ true) u.queue = each_map (λ e k. λ is. same_lists e x y r (k is) ∙ sellers-share (asked_at t a) (asked_at u b) r share) kept in
      let clash : clashes_on u.queue y r ≡ true = clash-shares u.queue y r ∙ named_some a.who x.serial (λ e. shares_at e y r) shared m.queued in
      let conflicts = clash-conflicts u.queue y r clash in
      (lowest_clash u.queue y, ap (λ (o : Outcome). o.answer) (begin-admits (passes p u b m.second)) ∙ (joins-blocked u.queue y refl conflicts).answer, (lowest-reported u.queue y conflicts).lowest r clash)
