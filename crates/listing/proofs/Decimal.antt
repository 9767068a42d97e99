-- The decimal digits of a number: they are read back as the number, they are digits, and none of them leads in vain.
use Prim.Native.Nat.{ℕ, zero, suc, ◌+◌, ◌*◌, ◌-◌, ◌/◌, ◌%◌, ◌^◌, ◌≤◌, ◌<◌}
use mathlib.Core.Path.{◌≡◌, refl, sym, subst, ◌∙◌}
use mathlib.Core.Bool.{Bool, true}
use mathlib.Core.List.{List, [], ◌∷◌, ◌++◌}
use mathlib.Core.Logic.{⊎_elim}
use native.Mathlib.Nat.{not-suc-le-zero, pow-suc, mod-eq_of_lt}
use native.Mathlib.Omega.{arith}
use lib.ListN.{length, get_or, length-append, get_or-append}
use borrow.Author.Tests.{lt-ltb, le-ltb, le-leb}
use Rattle.rules.specs.Lists.{every}
use Rattle.rules.proofs.Tests.{both, lt-or-ge}
use Rattle.listing.specs.Decimal.{digits, decimal, value_from, value, is_digit}

-- more room than the number needs changes nothing
digits-room : (j k n : ℕ) → n < j → n < k → digits j n ≡ digits k n
unfolding digits
digits-room zero k n a b = absurd (not-suc-le-zero a)
digits-room (suc j) zero n a b = absurd (not-suc-le-zero b)
digits-room (suc j) (suc k) n a b = ⊎_elim
    (λ (one : n < 10). simp (lt-ltb n 10 one))
    (λ (more : 10 ≤ n). simp (le-ltb n 10 more, digits-room j k (n / 10) (omega arith) (omega arith)))
    (lt-or-ge n 10)

-- one digit; and more
pub decimal-one : (n : ℕ) → n < 10 → decimal n ≡ (48 + n) ∷ []
unfolding decimal digits
decimal-one n one = simp (lt-ltb n 10 one, mod-eq_of_lt one)

pub decimal-more : (n : ℕ) → 10 ≤ n → decimal n ≡ decimal (n / 10) ++ (48 + n % 10) ∷ []
unfolding decimal digits
decimal-more n more =
    simp (le-ltb n 10 more, digits-room n (suc (n / 10)) (n / 10) (omega arith) (omega arith))

-- what holds of each single digit, and with a number of one digit more, holds of every number
module _ (P : ℕ → List ℕ → Type 0) (one : (n : ℕ) → n < 10 → P n ((48 + n) ∷ [])) (more : (n : ℕ) → 10 ≤ n → P (n / 10) (decimal (n / 10)) → P n (decimal (n / 10) ++ (48 + n % 10) ∷ [])) where
  below : (k n : ℕ) → n < k → P n (decimal n)
  below zero n h = absurd (not-suc-le-zero h)
  below (suc k) n h = ⊎_elim
      (λ (few : n < 10). subst (P n) (sym (decimal-one n few)) (one n few))
      (λ (many : 10 ≤ n). subst (P n) (sym (decimal-more n many)) (more n many (below k (n / 10) (omega arith))))
      (lt-or-ge n 10)

  by_digits : (n : ℕ) → P n (decimal n)
  by_digits n = below (suc n) n (omega arith)

-- ---- the laws
value-last : (v : ℕ) (ds : List ℕ) (b : ℕ) → value_from v (ds ++ b ∷ []) ≡ 10 * value_from v ds + (b - 48)
unfolding value_from
value-last v [] b = refl
value-last v (d ∷ ds) b = value-last (10 * v + (d - 48)) ds b

-- the digits are read back as the number
pub decimal-value : (n : ℕ) → value (decimal n) ≡ n
unfolding value_from
decimal-value =
    by_digits (λ n ds. value ds ≡ n)
    (λ n few. omega arith)
    (λ n many same. value-last 0 (decimal (n / 10)) (48 + n % 10) ∙ omega (arith, same))

-- each byte is 48 to 57
digit-is : (d : ℕ) → d < 10 → is_digit (48 + d) ≡ true
digit-is d h = simp (le-leb 48 (48 + d) (omega arith), le-leb (48 + d) 57 (omega arith))

every-last : (f : ℕ → Bool) (ds : List ℕ) (b : ℕ) → every f ds ≡ true → f b ≡ true → every f (ds ++ b ∷ []) ≡ true
unfolding every
every-last f [] b all own = simp own
every-last f (d ∷ ds) b all own = let p = both (f d) (every f ds) all in simp (p.0, every-last f ds b p.1 own)

pub decimal-digits : (n : ℕ) → every is_digit (decimal n) ≡ true
unfolding every
decimal-digits =
    by_digits (λ n ds. every is_digit ds ≡ true)
    (λ n few. simp (digit-is n few))
    (λ n many all. every-last is_digit (decimal (n / 10)) (48 + n % 10) all (digit-is (n % 10) (omega arith)))

-- there is a digit, and the first is no zero but of the number 0
pub record Leads (n : ℕ) (ds : List ℕ) : Type 0 where
  pub some : 0 < length ds
  pub first : 0 < n → 48 < get_or ds 0 0

pub decimal-leads : (n : ℕ) → Leads n (decimal n)
decimal-leads =
    by_digits Leads
    (λ n few. record { some = omega arith; first = λ above. omega arith })
    (λ n many l. record { some = simp length-append (omega arith); first = λ above. rw (get_or-append (decimal (n / 10)) ((48 + n % 10) ∷ []) 0 0 l.some) (l.first (omega arith)) })

-- a number below 10 ^ (k + 1) has at most k + 1 digits
pub decimal-short : (n k : ℕ) → n < 10 ^ suc k → length (decimal n) ≤ suc k
decimal-short =
    by_digits (λ n ds. (k : ℕ) → n < 10 ^ suc k → length ds ≤ suc k)
    (λ n few k h. omega arith)
    (λ n many short k. go n (decimal (n / 10)) many short k)
  where
    go : (n : ℕ) (ds : List ℕ) → 10 ≤ n → ((k : ℕ) → n / 10 < 10 ^ suc k → length ds ≤ suc k) → (k : ℕ) → n < 10 ^ suc k → length (ds ++ (48 + n % 10) ∷ []) ≤ suc k
    go n ds many short zero h = omega arith
    go n ds many short (suc k) h = simp length-append (omega (arith, pow-suc 10 (suc k), short k (omega (arith, pow-suc 10 (suc k)))))

-- so many at most has a byte, a serial and any u32
pub byte_short : (n : ℕ) → n < 256 → length (decimal n) ≤ 3
byte_short n h = decimal-short n 2 (omega arith)

pub serial_short : (n : ℕ) → n < 65_536 → length (decimal n) ≤ 5
serial_short n h = decimal-short n 4 (omega arith)

pub number_short : (n : ℕ) → n < 4_294_967_296 → length (decimal n) ≤ 10
number_short n h = decimal-short n 9 (omega arith)
