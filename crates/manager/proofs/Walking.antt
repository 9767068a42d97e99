-- A search that has passed the first i entries: what it has burnt, what its maps hold, and what is left of the walk.
use Prim.Native.Nat.{ℕ, ◌+◌, ◌-◌, ◌≤◌, ◌<◌, min}
use mathlib.Core.Path.{◌≡◌, refl, sym, ap, subst, ◌∙◌}
use mathlib.Core.Bool.{Bool, true, false, ◌&&◌, ◌||◌, not}
use mathlib.Core.List.{List, [], ◌∷◌, ◌++◌}
use native.Mathlib.Numerals.{add-one}
use native.Mathlib.Omega.{arith}
use lib.Dec.{eqb}
use lib.ListN.{length, get_or, take, drop, length-take, drop_of_length-le}
use lib.Seq.{take-suc}
use borrow.Author.Tests.{eq-eqb, ne_eqb, lt-ltb, le-ltb}
use Rattle.rules.specs.Lists.{some, total}
use Rattle.rules.specs.Records.{member}
use Rattle.rules.specs.Request.{Request, nobody, size, conflicts_any, is_blocked}
use Rattle.rules.specs.Table.{Meter as LawMeter, spent}
use Rattle.rules.specs.Prices.{clause9, looks}
use Rattle.rules.specs.Scan.{Walk, End, found, nothing, short, scan_walk, qualifies, Maps, no_records, mapped, maps_over, clear_by}
use Rattle.rules.proofs.Tests.{and-false}
use Rattle.rules.proofs.Lists.{some-cong}
use Rattle.rules.proofs.Prices.{looks-last}
use Rattle.rules.proofs.Steps.{list-step}
use Rattle.rules.proofs.Verdicts.{maps-conflicts}
use Rattle.maps.specs.declared.Maps.{Maps as CodeMaps}
use Rattle.maps.specs.Maps.{maps_of, Empty, Grown}
use Rattle.meter.specs.declared.Meter.{Meter}
use Rattle.meter.specs.View.{meter_view}

-- ---- the maps
-- two pairs of maps that hold the same records
pub record SameMaps (a b : Maps) : Type 0 where
  pub written : (k : ℕ) → a.written k ≡ b.written k
  pub read : (k : ℕ) → a.read k ≡ b.read k

pub clear-same : {a b : Maps} → SameMaps a b → (e : Request) → clear_by a e ≡ clear_by b e
unfolding clear_by
clear-same {a} {b} s e =
    let r : some a.written e.reads ≡ some b.written e.reads = some-cong e.reads s.written in
    let w : some a.written e.writes ≡ some b.written e.writes = some-cong e.writes s.written in
    let x : some a.read e.writes ≡ some b.read e.writes = some-cong e.writes s.read in
    cc (r, w, x)

over_last : (m : Maps) (q : List Request) (e : Request) → maps_over m (q ++ e ∷ []) ≡ mapped (maps_over m q) e
unfolding maps_over
over_last m [] e = refl
over_last m (a ∷ q) e = over_last (mapped m a) q e

pub maps-more : {ahead next : CodeMaps} (q : List Request) (e : Request) → SameMaps (maps_of ahead) (maps_over no_records q) → Grown ahead.written e.writes next.written → Grown ahead.read e.reads next.read → SameMaps (maps_of next) (maps_over no_records (q ++ e ∷ []))
maps-more q e s g h =
    rw (over_last no_records q e)
    (record { written = λ k. g.each k ∙ ap (λ (b : Bool). b || member k e.writes) (s.written k); read = λ k. h.each k ∙ ap (λ (b : Bool). b || member k e.reads) (s.read k) })

-- ---- the walk
-- it ends as the law book's walk does, has burnt what its looks cost, and the meter m, of which `left` is left, has paid that
pub record Looked (w : Walk) (m : Meter) (end : End) (left : Meter) (burnt : ℕ) : Type 0 where
  pub ends : end ≡ w.end
  pub burns : burnt ≡ looks clause9 w.looked
  pub paid : meter_view left ≡ spent (meter_view m) (looks clause9 w.looked)

-- an entry that the walk stops at, as the code tests it: the caller's, Blocked, and clear by the maps
abbrev pub fits : ℕ → CodeMaps → Request → Bool
fits who ahead e = (eqb e.tenant who && is_blocked e.mode) && clear_by (maps_of ahead) e

-- it is one by all three tests, and none if one of them fails
module _ (who : ℕ) (ahead : CodeMaps) (e : Request) where
  pub fits-all : e.tenant ≡ who → is_blocked e.mode ≡ true → clear_by (maps_of ahead) e ≡ true → fits who ahead e ≡ true
  fits-all own blocked clear = rw (eq-eqb _ _ own, blocked, clear) refl

  pub other-passed : (e.tenant ≡ who → ⊥) → fits who ahead e ≡ false
  other-passed other = rw (ne_eqb _ _ other) refl

  pub unblocked-passed : is_blocked e.mode ≡ false → fits who ahead e ≡ false
  unblocked-passed on = simp (on, and-false)

  pub unclear-passed : clear_by (maps_of ahead) e ≡ false → fits who ahead e ≡ false
  unclear-passed clash = simp (clash, and-false)

pub record Walking (who : ℕ) (m : Meter) (l : List Request) (i : ℕ) (left : Meter) (burnt : ℕ) (ahead : CodeMaps) : Type 0 where
  pub rest : scan_walk clause9 who m.fuel [] l ≡ scan_walk clause9 who left.fuel (take i l) (drop i l)
  pub cost : burnt ≡ looks clause9 (take i l)
  pub whole : burnt + left.fuel ≡ m.fuel
  pub paid : meter_view left ≡ spent (meter_view m) burnt
  pub maps : SameMaps (maps_of ahead) (maps_over no_records (take i l))

pub walking-none : (who : ℕ) (m : Meter) (l : List Request) {ahead : CodeMaps} → Empty ahead.written → Empty ahead.read → Walking who m l 0 m 0 ahead
unfolding looks total maps_over
walking-none who m l w r = record {
  rest = refl;
  cost = refl;
  whole = omega arith;
  paid = let same : m.fuel ≡ m.fuel - 0 = omega arith in ap (λ (n : ℕ). record { fuel = n; serials = m.serials; share = m.share }) same;
  maps = record { written = w.each; read = r.each };
}

module _ {who i burnt : ℕ} {m left : Meter} {l : List Request} {ahead : CodeMaps} (s : Walking who m l i left burnt ahead) where
  pub walking-end : length l ≤ i → Looked (scan_walk clause9 who m.fuel [] l) m nothing left burnt
  unfolding scan_walk
  walking-end past =
      let none : drop i l ≡ [] = drop_of_length-le l past in
      let w = s.rest ∙ ap (scan_walk clause9 who left.fuel (take i l)) none in
      rw w (record { ends = refl; burns = s.cost; paid = s.paid ∙ ap (spent (meter_view m)) s.cost })

  -- the entry of the turn, which has n records
  module _ (e : Request) (there : i < length l) (is : get_or l i nobody ≡ e) (n : ℕ) (sized : n ≡ size e) where
    here : drop i l ≡ e ∷ drop (i + 1) l
    here = list-step l i nobody there ∙ ap (λ (a : Request). a ∷ drop (i + 1) l) is

    next : take (i + 1) l ≡ take i l ++ e ∷ []
    next = rw (add-one i) (take-suc l i nobody there) ∙ ap (λ (a : Request). take i l ++ a ∷ []) is

    on : scan_walk clause9 who m.fuel [] l ≡ scan_walk clause9 who left.fuel (take i l) (e ∷ drop (i + 1) l)
    on = s.rest ∙ ap (scan_walk clause9 who left.fuel (take i l)) here

    -- the fuel left does not pay for it
    pub walking-short : left.fuel < 1 + n → Looked (scan_walk clause9 who m.fuel [] l) m short left burnt
    unfolding scan_walk
    walking-short poor =
        let cut : left.fuel < 1 + size e = omega arith in
        rw (on, lt-ltb left.fuel (1 + size e) cut) (record { ends = refl; burns = s.cost; paid = s.paid ∙ ap (spent (meter_view m)) s.cost })

    -- it is paid for
    module _ (rich : 1 + n ≤ left.fuel) (after : Meter) (pays : meter_view after ≡ spent (meter_view left) (1 + n)) where
      spends : meter_view after ≡ spent (meter_view m) (burnt + (1 + n))
      spends =
          let less : m.fuel - burnt - (1 + n) ≡ m.fuel - (burnt + (1 + n)) = omega arith in
          pays ∙ ap (λ (a : LawMeter). spent a (1 + n)) s.paid ∙ ap (λ (k : ℕ). record { fuel = k; serials = m.serials; share = m.share }) less

      costs : burnt + (1 + n) ≡ looks clause9 (take i l ++ e ∷ [])
      costs = omega (arith, s.cost, looks-last clause9 (take i l) e)

      verdict : qualifies who (take i l) e ≡ fits who ahead e
      verdict =
          let clear : clear_by (maps_of ahead) e ≡ not (conflicts_any (take i l) e) = clear-same s.maps e ∙ maps-conflicts (take i l) e in
          sym (ap (λ (b : Bool). (eqb e.tenant who && is_blocked e.mode) && b) clear)

      pub walking-found : fits who ahead e ≡ true → Looked (scan_walk clause9 who m.fuel [] l) m (found i) after (burnt + (1 + n))
      unfolding scan_walk
      walking-found sure =
          let place : i ≡ length (take i l) = sym (length-take i l ∙ let k : min i (length l) ≡ i = omega arith in k) in
          rw (on, le-ltb left.fuel (1 + size e) (omega arith), verdict ∙ sure) (record { ends = ap found place; burns = costs; paid = spends ∙ ap (spent (meter_view m)) costs })

      pub walking-more : {next-maps : CodeMaps} → fits who ahead e ≡ false → Grown ahead.written e.writes next-maps.written → Grown ahead.read e.reads next-maps.read → Walking who m l (i + 1) after (burnt + (1 + n)) next-maps
      unfolding scan_walk
      walking-more {next-maps} no-fit g h =
          let fuel : after.fuel ≡ left.fuel - (1 + size e) = ap (λ (a : LawMeter). a.fuel) pays ∙ ap (λ (k : ℕ). left.fuel - (1 + k)) sized in
          let turn : scan_walk clause9 who left.fuel (take i l) (e ∷ drop (i + 1) l) ≡ scan_walk clause9 who after.fuel (take i l ++ e ∷ []) (drop (i + 1) l) = rw (le-ltb left.fuel (1 + size e) (omega arith), verdict ∙ no-fit, fuel) refl in
          record {
            rest = on ∙ turn ∙ ap (λ (t : List Request). scan_walk clause9 who after.fuel t (drop (i + 1) l)) (sym next);
            cost = costs ∙ ap (looks clause9) (sym next);
            whole = omega arith;
            paid = spends;
            maps = subst (λ (t : List Request). SameMaps (maps_of next-maps) (maps_over no_records t)) (sym next) (maps-more (take i l) e s.maps g h);
          }
