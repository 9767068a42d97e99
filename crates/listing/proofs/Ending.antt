-- An array that is filled from its end with the digits of a number, lowest first.
use Prim.Native.Nat.{ℕ, suc, ◌+◌, ◌-◌, ◌/◌, ◌%◌, ◌≤◌, ◌<◌}
use mathlib.Core.Path.{◌≡◌, sym, ap, ◌∙◌}
use mathlib.Core.List.{List, ◌∷◌, ◌++◌}
use native.Mathlib.Omega.{arith}
use lib.ListN.{length, take, drop, set, length-set, length-append}
use lib.Seq.{append_snoc, drop-cons, drop-set-lt, get_or-set_same}
use Rattle.std.proofs.lemmas.List.{take_rest}
use Rattle.listing.specs.Decimal.{decimal}
use Rattle.listing.proofs.Decimal.{decimal-one, decimal-more, decimal-leads}

-- the digits that stand from `at` on are those that n has behind high's, and before them is room for high's
pub record Ending (n high at : ℕ) (bytes : List ℕ) : Type 0 where
  pub whole : length bytes ≡ 10
  pub within : at ≤ 10
  pub room : length (decimal high) ≤ at
  pub is : decimal n ≡ decimal high ++ drop at bytes

module _ {n high at : ℕ} {bytes : List ℕ} (e : Ending n high at bytes) where
  pub ending-room : 0 < at
  ending-room = omega (arith, (decimal-leads high).some)

  put : (b : ℕ) → drop (at - 1) (set bytes (at - 1) b) ≡ b ∷ drop at bytes
  put b =
      let k = at - 1 in
      let there : k < length (set bytes k b) = simp length-set (omega (arith, ending-room)) in
      let own : k < length bytes = omega (arith, ending-room) in
      let next : suc k ≡ at = omega (arith, ending-room) in
      drop-cons (set bytes k b) k 0 there ∙ cc (get_or-set_same bytes k b 0 own, drop-set-lt (suc k) bytes k b (omega arith), next)

  -- one digit more
  pub ending-more : 10 ≤ high → Ending n (high / 10) (at - 1) (set bytes (at - 1) (48 + high % 10))
  ending-more many = record {
    whole = simp length-set e.whole;
    within = omega arith;
    room = omega (arith, simp length-append at (ap length (decimal-more high many)));
    is = e.is ∙ ap (λ (t : List ℕ). t ++ drop at bytes) (decimal-more high many) ∙ append_snoc (decimal (high / 10)) (48 + high % 10) (drop at bytes) ∙ ap (λ (t : List ℕ). decimal (high / 10) ++ t) (sym (put (48 + high % 10)));
  }

  -- the first digit: the digits of n stand from there to the end
  pub ending-last : high < 10 → take (10 - (at - 1)) (drop (at - 1) (set bytes (at - 1) (48 + high))) ≡ decimal n
  ending-last one =
      let full = set bytes (at - 1) (48 + high) in
      let whole : 10 ≡ length full = simp length-set (sym e.whole) in
      ap (λ (m : ℕ). take (m - (at - 1)) (drop (at - 1) full)) whole ∙ take_rest full (at - 1) ∙ put (48 + high) ∙ sym (e.is ∙ ap (λ (t : List ℕ). t ++ drop at bytes) (decimal-one high one))
