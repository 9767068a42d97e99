-- What requests and searches cost. A search pays before it looks, so it never burns more than the fuel it has.
use Prim.Native.Nat.{ℕ, ◌+◌, ◌*◌, ◌-◌, ◌≤◌}
use mathlib.Core.Path.{◌≡◌, refl}
use mathlib.Core.Bool.{false}
use mathlib.Core.List.{List, [], ◌∷◌, ◌++◌}
use native.Mathlib.Omega.{arith}
use lib.Dec.{eqb, ltb}
use borrow.Author.Tests.{ltb-false}
use Rattle.rules.specs.Lists.{total}
use Rattle.rules.specs.Request.{Request, size}
use Rattle.rules.specs.Table.{Table, meter_of, burn}
use Rattle.rules.specs.Prices.{Prices, clause9, admission, looks, searching}
use Rattle.rules.specs.Scan.{Walk, scan_walk, qualifies}
use Rattle.rules.specs.Refusals.{first_of, finish_rows, evict_rows, cancel_rows}
use Rattle.rules.specs.Calls.{search, finish_of, evict_of, cancel_of}
use Rattle.rules.proofs.Tests.{if-either, if-cases}
use Rattle.rules.proofs.Lists.{total-append}

module _ (p : Prices) where
  pub looks-append : (xs ys : List Request) → looks p (xs ++ ys) ≡ looks p xs + looks p ys
  unfolding looks
  looks-append xs ys = total-append (λ (e : Request). p.look (size e)) xs ys

  pub looks-last : (xs : List Request) (e : Request) → looks p (xs ++ e ∷ []) ≡ looks p xs + p.look (size e)
  unfolding looks total
  looks-last xs e = omega (arith, looks-append xs (e ∷ []))

  -- the fuel that it was given pays for every entry that it looks at
  walk-pays : (who fuel : ℕ) (ahead q : List Request) → looks p (scan_walk p who fuel ahead q).looked ≤ looks p ahead + fuel
  unfolding scan_walk
  walk-pays who fuel ahead [] = omega arith
  walk-pays who fuel ahead (e ∷ q) =
      let paid : Walk → Type 0 = λ w. looks p w.looked ≤ looks p ahead + fuel in
      let one_more : looks p (ahead ++ e ∷ []) ≡ looks p ahead + p.look (size e) = looks-last ahead e in
      if-cases paid (ltb fuel (p.look (size e))) (λ cut. omega arith)
      (λ (on : ltb fuel (p.look (size e)) ≡ false).
      let enough : p.look (size e) ≤ fuel = ltb-false fuel (p.look (size e)) on in
      if-either paid (qualifies who ahead e) (omega arith)
      (omega (arith, walk-pays who (fuel - p.look (size e)) (ahead ++ e ∷ []) q)))

  pub search-pays : (t : Table) (who : ℕ) → looks p (search p t who).looked ≤ (meter_of t who).fuel - p.search
  unfolding looks total
  search-pays t who = omega (arith, walk-pays who ((meter_of t who).fuel - p.search) [] t.queue)

-- "The price is 2 + 2n"
pub admission-price : (e : Request) → admission clause9 e ≡ 2 + 2 * size e
admission-price e = omega arith

-- Recheck: "price 1 + n"
pub recheck-price : (n : ℕ) → clause9.recheck n ≡ 1 + n
recheck-price n = refl

-- Finish: "It burns 0"
pub finish-free : (t : Table) (who serial : ℕ) → first_of (finish_rows t who serial) ≡ 0 → (finish_of clause9 t who serial).burnt ≡ 0
unfolding finish_of
finish-free t who serial passes = rw passes

-- document 02, item 7: a cancel is "burning 1", and neither it nor an eviction gives fuel back
pub cancel-price : (t : Table) (who serial : ℕ) → first_of (cancel_rows t who serial) ≡ 0 → ((cancel_of clause9 t who serial).burnt ≡ 1) × ((cancel_of clause9 t who serial).table.meters ≡ (burn who 1 t).meters)
unfolding cancel_of
cancel-price t who serial passes = (rw passes, rw passes)

pub evict-refunds-nothing : (t : Table) (who serial : ℕ) → (evict_of t who serial).table.meters ≡ t.meters
unfolding evict_of
evict-refunds-nothing t who serial = if-either (λ (u : Table). u.meters ≡ t.meters) (eqb (first_of (evict_rows t who serial)) 0) refl refl

-- Scan: "It burns 1 ... 1 + n for each"
pub search-cost : (looked : List Request) → searching clause9 looked ≡ 1 + total (λ e. 1 + size e) looked
unfolding looks
search-cost looked = refl
