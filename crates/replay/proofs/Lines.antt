-- The lines of a file, one step at a time.
use Rattle.std.specs.Prelude.{if◌then◌else◌, Some}
use Prim.Native.Nat.{ℕ, zero, suc, ◌+◌, ◌-◌, ◌≤◌, ◌<◌}
use mathlib.Core.Path.{◌≡◌, refl, ap, ◌∙◌}
use mathlib.Core.Bool.{Bool, true, false}
use mathlib.Core.List.{List, [], ◌++◌}
use native.Mathlib.Omega.{arith}
use lib.ListN.{length}
use Rattle.rules.specs.Table.{Table}
use Rattle.manager.specs.declared.State.{State}
use Rattle.manager.specs.State.{view}
use Rattle.events.specs.declared.Next.{Next}
use Rattle.events.specs.Events.{record_at}
use Rattle.events.proofs.Found.{found, within-file, onward, end-exactly}
use Rattle.listing.specs.Written.{text_of}
use Rattle.replay.specs.declared.Stepped.{Stepped}
use Rattle.replay.specs.Replay.{goes_on, place_by, next_by, table_by, line_by, lines_from, lines_left, lines_at, Steps}

-- a step goes on to a later place within the file
pub record Later (file : List ℕ) (at n : ℕ) : Type 0 where
  pub onward : at < n
  pub within : n ≤ length file

module _ (file : List ℕ) (at : ℕ) (first : Bool) where
  later-by : (next : Next) → record_at file at first ≡ next → goes_on next ≡ true → Later file at (place_by at next)
  later-by (Next.Call e n) q on = let f = found file at first q in record { onward = onward f; within = within-file f }
  later-by (Next.Refused k) q on = absurd (let o : ◌≡◌ {A = ℕ} 0 1 = cc in omega arith)
  later-by Next.End q on = absurd (let o : ◌≡◌ {A = ℕ} 0 1 = cc in omega arith)

  pub later : goes_on (record_at file at first) ≡ true → Later file at (place_by at (record_at file at first))
  later on = later-by (record_at file at first) refl on

  pub later-next : {n : ℕ} → next_by (record_at file at first) ≡ Some n → Later file at n
  later-next {n} = go (record_at file at first) refl
    where
      go : (next : Next) → record_at file at first ≡ next → next_by next ≡ Some n → Later file at n
      go (Next.Call e m) q on = let f = found file at first q in let same : m ≡ n = cc in record { onward = omega (arith, onward f); within = omega (arith, within-file f) }
      go (Next.Refused k) q on = absurd (let o : ◌≡◌ {A = ℕ} 0 1 = cc in omega arith)
      go Next.End q on = absurd (let o : ◌≡◌ {A = ℕ} 0 1 = cc in omega arith)

-- the lines of a step, with those behind it
abbrev lines_on : ℕ → List ℕ → Table → ℕ → ℕ → Next → List ℕ
lines_on k file t at number next =
    line_by number t file at next ++
    (if goes_on next then lines_from k file (table_by t file at next) (place_by at next) false (number + 1) else [])

lines_same : (j k : ℕ) (file : List ℕ) (t : Table) (at number : ℕ) (next : Next) → (goes_on next ≡ true → lines_from j file (table_by t file at next) (place_by at next) false (number + 1) ≡ lines_from k file (table_by t file at next) (place_by at next) false (number + 1)) → lines_on j file t at number next ≡ lines_on k file t at number next
lines_same j k file t at number (Next.Call e n) same = ap (λ (ls : List ℕ). line_by number t file at (Next.Call e n) ++ ls) (same refl)
lines_same j k file t at number (Next.Refused r) same = refl
lines_same j k file t at number Next.End same = refl

-- as many as the bytes that are left, and one, are enough, and more are no more
enough : (j k : ℕ) (file : List ℕ) (t : Table) (at : ℕ) (first : Bool) (number : ℕ) → length file ≤ at + j → length file ≤ at + k → lines_from (suc j) file t at first number ≡ lines_from (suc k) file t at first number
unfolding lines_from
enough zero k file t at first number a b = rw ((end-exactly file at first).1 (omega arith)) refl
enough (suc j) zero file t at first number a b = rw ((end-exactly file at first).1 (omega arith)) refl
enough (suc j) (suc k) file t at first number a b =
    let next = record_at file at first in
    lines_same (suc j) (suc k) file t at number next
    (λ on.
    let l = later file at first on in
    enough j k file (table_by t file at next) (place_by at next) false (number + 1) (omega (arith, l.onward)) (omega (arith, l.onward)))

module _ (file : List ℕ) (t : Table) (at : ℕ) (first : Bool) (number : ℕ) where
  abbrev here : Next
  here = record_at file at first

  -- the line of the record that stands there, and then the lines left
  lines_next : lines_left file t at first number ≡ line_by number t file at here ++ (if goes_on here then lines_left file (table_by t file at here) (place_by at here) false (number + 1) else [])
  unfolding lines_from
  lines_next = lines_same (length file - at) (suc (length file - place_by at here)) file t at number here (λ on.
      let l = later file at first on in
      let more : length file - at ≡ suc (length file - at - 1) = omega (arith, l.onward, l.within) in
      let next = table_by t file at here in
      ap (λ (k : ℕ). lines_from k file next (place_by at here) false (number + 1)) more ∙ enough (length file - at - 1) (length file - place_by at here) file next (place_by at here) false (number + 1) (omega (arith, l.onward, l.within)) (omega arith))

-- the lines behind a step, by where the next record begins
lines_behind : (file : List ℕ) (t : Table) (at number : ℕ) (next : Next) → (if goes_on next then lines_left file t (place_by at next) false number else []) ≡ lines_at file t (next_by next) false number
lines_behind file t at number (Next.Call e n) = refl
lines_behind file t at number (Next.Refused k) = refl
lines_behind file t at number Next.End = refl

-- a step's line, and then the lines left in the state after it
pub step_lines : {s : State} {file : List ℕ} {at : ℕ} {first : Bool} {number : ℕ} {r : Stepped} → Steps s file at first number r → lines_left file (view s) at first number ≡ text_of r.line ++ lines_at file (view r.state) r.next false (number + 1)
step_lines {s} {file} {at} {first} {number} {r} h =
    let here = record_at file at first in
    lines_next file (view s) at first number ∙ ap (λ (ls : List ℕ). line_by number (view s) file at here ++ ls) (lines_behind file (table_by (view s) file at here) at (number + 1) here) ∙ cc (h.line.is, h.table, h.next)
