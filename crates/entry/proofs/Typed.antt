-- What a value's type alone says of it: the lengths of its arrays and the range of its bytes. `c.well_formed` of a function's
-- proof is such a fact of its parameters, and `.ok` of a call's result.
use Prim.Native.Nat.{ℕ, zero, suc, ◌<◌, ◌≤◌, min}
use mathlib.Core.Path.{◌≡◌, sym}
use mathlib.Core.List.{List, [], ◌∷◌}
use native.Mathlib.Omega.{arith}
use mathlib.Core.Logic.{⊎_elim}
use lib.ListN.{length, get_or, take}
use lib.Seq.{length-take-le}
use mir.Syntax.{w8}
use mir.Val.{Val}
use denote.Plain.{UInt}
use denote.Array.{Array, each}
use denote.Shadow.{shadow}
use denote.Laws.{Is}
use mathlib.Core.Bool.{true}
use lib.Dec.{eqb}
use borrow.Author.Tests.{eqb-true}
use Rattle.rules.specs.Lists.{some}
use Rattle.rules.specs.Records.{member}
use Rattle.rules.proofs.Tests.{either}
use Rattle.entry.specs.declared.Entry.{Entry}
use Rattle.entry.specs.contracts.Entry as entry

-- an array of n bytes
pub record Bytes (n : ℕ) (xs : List ℕ) : Type 0 where
  pub size : length xs ≡ n
  pub below : (k : ℕ) → get_or xs k 0 < 256

each_below : (xs : List ℕ) (us : List Val) → shadow (each ℕ (UInt w8).own_val xs us) → (k : ℕ) → get_or xs k 0 < 256
each_below [] us p k = omega arith
each_below (x ∷ xs) [] p k = absurd p
each_below (x ∷ xs) (u ∷ us) p zero = p.0.1
each_below (x ∷ xs) (u ∷ us) p (suc k) = each_below xs us p.1 k

pub bytes : (n : ℕ) (xs : List ℕ) (vs : List Val) → Is (Array (UInt w8) n) xs vs → Bytes n xs
bytes n xs vs p = record { size = p.1.0.1; below = each_below xs p.0 p.1.1 }

-- an entry's two lists of records
pub record Lists (e : Entry) : Type 0 where
  pub reads : Bytes 8 e.reads
  pub writes : Bytes 8 e.writes

pub entry-lists : (e : Entry) (vs : List Val) → Is entry.the_row e vs → Lists e
entry-lists e vs p = record { reads = bytes 8 e.reads _ p.1.1.1.1.1.1.1.1.1.0; writes = bytes 8 e.writes _ p.1.1.1.1.1.1.1.1.1.1.0 }

-- the count clamped to 8 is of so many of an array
pub few-size : (n few : ℕ) {xs : List ℕ} → Bytes 8 xs → few ≡ min n 8 → few ≡ length (take few xs)
few-size n few {xs} b e = let room : few ≤ length xs = omega (arith, b.size) in sym (length-take-le few xs room)

small : (n : ℕ) (xs : List ℕ) → ((i : ℕ) → get_or xs i 0 < 256) → (k : ℕ) → member k (take n xs) ≡ true → k < 256
unfolding member some
small zero xs b k m = let z : ◌≡◌ {A = ℕ} 0 1 = cc in absurd (omega arith)
small (suc n) [] b k m = let z : ◌≡◌ {A = ℕ} 0 1 = cc in absurd (omega arith)
small (suc n) (x ∷ xs) b k m = ⊎_elim (λ (e : eqb x k ≡ true). omega (arith, eqb-true x k e, b 0)) (small n xs (λ i. b (suc i)) k) (either (eqb x k) (member k (take n xs)) m)

-- a record of an array of bytes is below 256
pub bytes_small : (n : ℕ) {xs : List ℕ} → Bytes 8 xs → (k : ℕ) → member k (take n xs) ≡ true → k < 256
bytes_small n {xs} b k m = small n xs b.below k m
