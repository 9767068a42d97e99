-- Promises 3 and 7: what a search costs, and what it finds. With fuel enough it comes to the caller's first Blocked entry
-- that conflicts with nothing ahead, and it passes no such entry by.
use Prim.Native.Nat.{ℕ, zero, suc, ◌+◌, ◌*◌, ◌-◌, ◌≤◌, ◌<◌}
use mathlib.Core.Path.{◌≡◌, refl, sym, ap, ◌∙◌}
use mathlib.Core.Bool.{Bool, true, false}
use mathlib.Core.List.{List, [], ◌∷◌, ◌++◌, append-nil}
use native.Mathlib.Nat.{not-suc-le-zero, le_of_suc-le-suc, mul-le-mul_right}
use native.Mathlib.Numerals.{add-one}
use native.Mathlib.Omega.{arith}
use lib.Dec.{ltb}
use lib.ListN.{length, get_or, take, length-append, length-take}
use lib.Seq.{append_snoc, take-append-add, take-length}
use borrow.Author.Tests.{ltb-true, ltb-false, le-ltb, ne_eqb}
use Rattle.rules.specs.declared.Mode.{Mode}
use Rattle.rules.specs.declared.Answer.TheVariants.{Nothing, Refused, Named}
use Rattle.rules.specs.Lists.{total}
use Rattle.rules.specs.Request.{Request, nobody, size}
use Rattle.rules.specs.Table.{Table, is_tenant}
use Rattle.rules.specs.Prices.{Prices, looks, searching}
use Rattle.rules.specs.Refusals.{first_of, scan_rows}
use Rattle.rules.specs.Scan.{End, found, nothing, short, Walk, qualifies, scan_walk}
use Rattle.rules.specs.Calls.{Outcome, tenant_call, found-table, found-answer, search, scan_of}
use Rattle.rules.specs.Sound.{Each}
use Rattle.rules.proofs.Tests.{if-either, if-cases}
use Rattle.rules.proofs.Costly.{charge-low}
use Rattle.rules.proofs.Order.{each_map, each_take}
use Rattle.rules.proofs.Room.{sound-count}
use Rattle.rules.proofs.Walks.{walk-stops}
use Rattle.promises.specs.Fuel.{Fair, fuel_of}
use Rattle.promises.specs.Searches.{FirstReady, Promoting, LookedAtAll, CutShort, SearchPrice, SearchMost, SearchPromotes, SearchEnds, SearchNothing, SearchNames, SearchCut}
use Rattle.promises.proofs.Refusals.{scan-cases}

-- what cannot be
never : {A : Type 0} → ◌≡◌ {A = ℕ} 0 1 → A
never z = absurd (omega arith)

-- ---- the walk, once it has looked at the entries ahead
-- the entry at a place of the rest qualifies
abbrev fits : ℕ → List Request → List Request → ℕ → Bool
fits who ahead q i = qualifies who (ahead ++ take i q) (get_or q i nobody)

-- a walk that ended so has passed the place
abbrev Past : End → ℕ → Type 0
Past (found at) k = k < at
Past nothing k = Unit {0}
Past short k = ⊥

module _ (p : Prices) (who : ℕ) where
  fits-front : (ahead : List Request) (e : Request) (q : List Request) → fits who ahead (e ∷ q) 0 ≡ qualifies who ahead e
  fits-front ahead e q = ap (λ (l : List Request). qualifies who l e) (append-nil ahead)

  fits_next : (ahead : List Request) (e : Request) (q : List Request) (i : ℕ) → fits who ahead (e ∷ q) (suc i) ≡ fits who (ahead ++ e ∷ []) q i
  fits_next ahead e q i = ap (λ (l : List Request). qualifies who l (get_or q i nobody)) (sym (append_snoc ahead e (take i q)))

  length-next : (ahead : List Request) (e : Request) (i : ℕ) → length (ahead ++ e ∷ []) + i ≡ length ahead + suc i
  length-next ahead e i = simp length-append (omega arith)

  -- it passes by no entry that qualifies
  walk-past : (fuel : ℕ) (ahead q : List Request) (i : ℕ) → i < length q → Past (scan_walk p who fuel ahead q).end (length ahead + i) → fits who ahead q i ≡ false
  unfolding scan_walk
  walk-past fuel ahead [] i lt = absurd (not-suc-le-zero lt)
  walk-past fuel ahead (e ∷ q) zero lt =
      let passed : Walk → Type 0 = λ w. Past w.end (length ahead + 0) → fits who ahead (e ∷ q) 0 ≡ false in
      if-cases passed (ltb fuel (p.look (size e))) (λ cut. λ (z : ⊥). absurd z)
      (λ on. if-cases passed (qualifies who ahead e)
      (λ here. λ (z : length ahead + 0 < length ahead). absurd (omega arith))
      (λ other. λ z. fits-front ahead e q ∙ other))
  walk-past fuel ahead (e ∷ q) (suc i) lt =
      let passed : Walk → Type 0 = λ w. Past w.end (length ahead + suc i) → fits who ahead (e ∷ q) (suc i) ≡ false in
      if-cases passed (ltb fuel (p.look (size e))) (λ cut. λ (z : ⊥). absurd z)
      (λ on. if-cases passed (qualifies who ahead e)
      (λ here. λ (z : length ahead + suc i < length ahead). absurd (omega arith))
      (λ other. λ z. fits_next ahead e q i ∙ walk-past (fuel - p.look (size e)) (ahead ++ e ∷ []) q i (le_of_suc-le-suc lt) (rw (length-next ahead e i) z)))

  -- the fuel pays for the look at each entry up to the first that qualifies
  walk-reaches : (fuel : ℕ) (ahead q : List Request) (j : ℕ) → j < length q → fits who ahead q j ≡ true → ((i : ℕ) → i < j → fits who ahead q i ≡ false) → looks p (take (suc j) q) ≤ fuel → (scan_walk p who fuel ahead q).end ≡ found (length ahead + j)
  unfolding scan_walk looks total
  walk-reaches fuel ahead [] j lt fit first enough = absurd (not-suc-le-zero lt)
  walk-reaches fuel ahead (e ∷ q) zero lt fit first enough =
      let on : ltb fuel (p.look (size e)) ≡ false = le-ltb fuel (p.look (size e)) (omega arith) in
      let here : qualifies who ahead e ≡ true = sym (fits-front ahead e q) ∙ fit in
      let end : length ahead ≡ length ahead + 0 = omega arith in
      rw (on, here) (ap found end)
  walk-reaches fuel ahead (e ∷ q) (suc j) lt fit first enough =
      let on : ltb fuel (p.look (size e)) ≡ false = le-ltb fuel (p.look (size e)) (omega arith) in
      let other : qualifies who ahead e ≡ false = sym (fits-front ahead e q) ∙ first 0 (omega arith) in
      rw (on, other)
      (walk-reaches (fuel - p.look (size e)) (ahead ++ e ∷ []) q j (le_of_suc-le-suc lt) (sym (fits_next ahead e q j) ∙ fit) (λ i l. sym (fits_next ahead e q i) ∙ first (suc i) (omega arith)) (omega arith) ∙ ap found (length-next ahead e j))

  -- or at all of them, if none does
  walk_ends : (fuel : ℕ) (ahead q : List Request) → ((i : ℕ) → i < length q → fits who ahead q i ≡ false) → looks p q ≤ fuel → (scan_walk p who fuel ahead q).end ≡ nothing
  unfolding scan_walk looks total
  walk_ends fuel ahead [] none enough = refl
  walk_ends fuel ahead (e ∷ q) none enough =
      let on : ltb fuel (p.look (size e)) ≡ false = le-ltb fuel (p.look (size e)) (omega arith) in
      let other : qualifies who ahead e ≡ false = sym (fits-front ahead e q) ∙ none 0 (omega arith) in
      rw (on, other)
      (walk_ends (fuel - p.look (size e)) (ahead ++ e ∷ []) q (λ i l. sym (fits_next ahead e q i) ∙ none (suc i) (omega arith)) (omega arith))

  -- what it has looked at, by its end: the entries up to the one found, all of them, or those that the fuel paid for
  abbrev Looked : ℕ → List Request → List Request → End → List Request → Type 0
  Looked fuel ahead q (found at) looked = looked ≡ take (at + 1) (ahead ++ q)
  Looked fuel ahead q nothing looked = looked ≡ ahead ++ q
  Looked fuel ahead q short looked = (n : ℕ) × (n < length q) × (looked ≡ ahead ++ take n q) × (fuel < looks p (take n q) + p.look (size (get_or q n nobody)))

  looked-next : (fuel : ℕ) (ahead : List Request) (e : Request) (q : List Request) → p.look (size e) ≤ fuel → (end : End) (looked : List Request) → Looked (fuel - p.look (size e)) (ahead ++ e ∷ []) q end looked → Looked fuel ahead (e ∷ q) end looked
  unfolding looks total
  looked-next fuel ahead e q paid (found at) looked h = rw (append_snoc ahead e q) at h
  looked-next fuel ahead e q paid nothing looked h = h ∙ append_snoc ahead e q
  looked-next fuel ahead e q paid short looked h = (suc h.0, omega (arith, h.1), h.2 ∙ append_snoc ahead e (take h.0 q), omega (arith, h.3))

  walk-looked : (fuel : ℕ) (ahead q : List Request) → let w = scan_walk p who fuel ahead q in Looked fuel ahead q w.end w.looked
  unfolding scan_walk looks total
  walk-looked fuel ahead [] = sym (append-nil ahead)
  walk-looked fuel ahead (e ∷ q) =
      let seen : Walk → Type 0 = λ w. Looked fuel ahead (e ∷ q) w.end w.looked in
      let on-walk : Walk = scan_walk p who (fuel - p.look (size e)) (ahead ++ e ∷ []) q in
      if-cases seen (ltb fuel (p.look (size e)))
      (λ cut. (0, omega arith, sym (append-nil ahead), omega (arith, ltb-true fuel (p.look (size e)) cut)))
      (λ on. if-either seen (qualifies who ahead e) (sym (take-append-add ahead (e ∷ q) 1))
      (looked-next fuel ahead e q (ltb-false fuel (p.look (size e)) on) on-walk.end on-walk.looked (walk-looked (fuel - p.look (size e)) (ahead ++ e ∷ []) q)))

  -- in any case the first entries of the queue
  looked-front : (fuel : ℕ) (q : List Request) (end : End) (looked : List Request) → Looked fuel [] q end looked → (n : ℕ) × (looked ≡ take n q)
  looked-front fuel q (found at) looked h = (at + 1, h)
  looked-front fuel q nothing looked h = (length q, h ∙ sym (take-length q))
  looked-front fuel q short looked h = (h.0, h.2)

looks-most : (p : Prices) (most : ℕ) {q : List Request} → Each (λ e. p.look (size e) ≤ most) q → looks p q ≤ length q * most
unfolding looks total
looks-most p most Each.none = omega arith
looks-most p most (Each.also k h) = omega (arith, looks-most p most h)

-- ---- the call
module _ (p : Prices) (t : Table) (who : ℕ) where
  abbrev walk : Walk
  walk = search p t who

  -- the fuel for its looks
  abbrev rest : ℕ
  rest = fuel_of t who - p.search

  -- what it comes to where its rows give that number
  abbrev comes : ℕ → Outcome
  comes z = tenant_call p t who z (searching p walk.looked) (found-table t walk.end) (found-answer t.queue walk.end)

  walks : is_tenant who ≡ true → 0 < fuel_of t who → scan_of p t who ≡ comes 0
  unfolding scan_of scan_rows first_of
  walks tenant fuelled = simp (tenant, ne_eqb (fuel_of t who) 0 (λ (e : fuel_of t who ≡ 0). omega arith))

  looked-as : (end : End) → walk.end ≡ end → Looked p who rest [] t.queue end walk.looked
  looked-as end e = rw e at (walk-looked p who rest [] t.queue)

  first_found : (at : ℕ) → walk.end ≡ found at → FirstReady who t.queue at
  first_found at e =
      let stop = walk-stops p who rest [] t.queue at e in
      record {
        there = stop.there;
        fits = stop.fits;
        first = λ i lt. let past : 0 + i < at = omega arith in walk-past p who rest [] t.queue i (omega (arith, stop.there)) (rw e past);
      }

  promotes : (at : ℕ) → walk.end ≡ found at → Promoting p who t at (comes 0)
  promotes at e = record {
    first = first_found at e;
    answer = rw e;
    queue = rw e;
    burnt = ap (searching p) (looked-as (found at) e);
  }

  -- ---- by its answer
  nothing-found : (end : End) → walk.end ≡ end → found-answer t.queue end ≡ Nothing → LookedAtAll p who t (comes 0)
  nothing-found (found at) e a = never (cc)
  nothing-found nothing e a = record {
    none = λ i lt. walk-past p who rest [] t.queue i lt (rw e tt);
    burnt = ap (searching p) (looked-as nothing e);
  }
  nothing-found short e a = never (cc)

  named-found : (mode : Mode) (tenant serial : ℕ) (end : End) → walk.end ≡ end → found-answer t.queue end ≡ Named mode tenant serial → (at : ℕ) × Promoting p who t at (comes 0)
  named-found mode tenant serial (found at) e a = (at, promotes at e)
  named-found mode tenant serial nothing e a = never (cc)
  named-found mode tenant serial short e a = never (cc)

  cut-found : (end : End) → walk.end ≡ end → found-answer t.queue end ≡ Refused 9 → (at : ℕ) × CutShort p who t at (comes 0)
  cut-found (found at) e a = never (cc)
  cut-found nothing e a = never (cc)
  cut-found short e a =
      let seen = looked-as short e in
      let paid : searching p walk.looked ≡ searching p (take seen.0 t.queue) = ap (searching p) seen.2 in
      (seen.0, record { there = seen.1; burnt = paid; poor = omega (arith, seen.3) })

-- ---- 3 what it costs
pub search-price : (p : Prices) → SearchPrice p
search-price p t who tenant fuelled = rw (walks p t who tenant fuelled)

pub search-most : (p : Prices) → SearchMost p
unfolding scan_of size
search-most p t who most s dear =
    let w = search p t who in
    let front = looked-front p who (fuel_of t who - p.search) t.queue w.end w.looked (walk-looked p who (fuel_of t who - p.search) [] t.queue) in
    let few : length (take front.0 t.queue) ≤ 64 = simp length-take (omega (arith, sound-count s)) in
    let small : Each (λ e. p.look (size e) ≤ most) t.queue = each_map (λ e f. dear (size e) (omega (arith, f.lists.few-reads, f.lists.few-writes))) s.entries in
    let sum : looks p w.looked ≤ 64 * most = rw front.1 (omega (arith, looks-most p most (each_take front.0 small), mul-le-mul_right most few)) in
    scan-cases t who (λ z. (comes p t who z).burnt ≤ p.search + 64 * most)
    (omega (arith, charge-low p (fuel_of t who) 1 (omega arith)))
    (omega (arith, charge-low p (fuel_of t who) 2 (omega arith)))
    (λ tenant fuelled. omega arith)

-- ---- 7 what it finds
module _ {p : Prices} (f : Fair p) where
  pub search-promotes : SearchPromotes p
  search-promotes t who at tenant first enough =
      let paid : looks p (take (suc at) t.queue) ≤ fuel_of t who - p.search = rw (← (add-one at)) (omega arith) in
      let place : 0 + at ≡ at = omega arith in
      let e = walk-reaches p who (fuel_of t who - p.search) [] t.queue at first.there first.fits first.first paid in
      rw (walks p t who tenant (omega (arith, f.search))) (promotes p t who at (e ∙ ap found place))

  pub search-ends : SearchEnds p
  search-ends t who tenant none enough =
      let e : (search p t who).end ≡ nothing = walk_ends p who (fuel_of t who - p.search) [] t.queue none (omega arith) in
      rw (walks p t who tenant (omega (arith, f.search)), e)

module _ (p : Prices) where
  pub search-nothing : SearchNothing p
  unfolding scan_of
  search-nothing t who =
      scan-cases t who (λ z. let o = comes p t who z in o.answer ≡ Nothing → LookedAtAll p who t o)
      (λ (a : Refused 1 ≡ Nothing). never (cc))
      (λ (a : Refused 2 ≡ Nothing). never (cc))
      (λ tenant fuelled. nothing-found p t who (search p t who).end refl)

  pub search-names : SearchNames p
  unfolding scan_of
  search-names t who mode tenant serial =
      scan-cases t who (λ z. let o = comes p t who z in o.answer ≡ Named mode tenant serial → (at : ℕ) × Promoting p who t at o)
      (λ (a : Refused 1 ≡ Named mode tenant serial). never (cc))
      (λ (a : Refused 2 ≡ Named mode tenant serial). never (cc))
      (λ valid fuelled. named-found p t who mode tenant serial (search p t who).end refl)

  pub search-cut : SearchCut p
  unfolding scan_of
  search-cut t who =
      scan-cases t who (λ z. let o = comes p t who z in o.answer ≡ Refused 9 → (at : ℕ) × CutShort p who t at o)
      (λ (a : Refused 1 ≡ Refused 9). let k : ◌≡◌ {A = ℕ} 1 9 = cc in absurd (omega arith))
      (λ (a : Refused 2 ≡ Refused 9). let k : ◌≡◌ {A = ℕ} 2 9 = cc in absurd (omega arith))
      (λ tenant fuelled. cut-found p t who (search p t who).end refl)
