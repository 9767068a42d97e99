-- Document 01's prices in numbers: what each call burns that is not refused, and what the table charges a refused one.
use Rattle.std.specs.Prelude.{if◌then◌else◌}
use Prim.Native.Nat.{ℕ}
use mathlib.Core.Path.{◌≡◌, refl, sym, ap, ◌∙◌}
use mathlib.Core.Bool.{Bool, true, false, not, true≢false}
use native.Mathlib.Omega.{arith}
use lib.Dec.{eqb}
use Rattle.rules.specs.declared.Answer.{Answer}
use Rattle.rules.specs.declared.Answer.TheVariants.{Refused}
use Rattle.rules.specs.Records.{member, only_read}
use Rattle.rules.specs.Request.{size}
use Rattle.rules.specs.Table.{Table}
use Rattle.rules.specs.Prices.{clause9, looks, searching}
use Rattle.rules.specs.Refusals.{first_of, begin_rows, finish_rows, recheck_rows, scan_rows, cancel_rows}
use Rattle.rules.specs.Calls.{to_pay, asked, search, begin_of, finish_of, recheck_of, scan_of, open_of, grant_of, pick_of, deliver_of, evict_of, cancel_of}
use Rattle.rules.specs.Said.{said}
use Rattle.rules.specs.Runs.{Call, step, role_of, caller_of, is_open, number}
use Rattle.rules.specs.Runs.Call.{Begin, Finish, Recheck, Scan, Open, Grant, Pick, Deliver, Evict, Cancel}
use Rattle.rules.proofs.Tests.{if-cases}
use Rattle.rules.proofs.Reduced.{keep-count}
use Rattle.rules.proofs.Costly.{costly-range}
use Rattle.promises.specs.Fuel.{table_charge, Charged9, cost9, Costs9, Prices9}
use Rattle.promises.proofs.Refusals.{refuses9}
use Rattle.promises.proofs.Fuel.{same_if, burns-price}

-- a tenant's call that is not refused burns its price
unrefused : (t : Table) (who z price : ℕ) (answer : Answer) → eqb (said (if eqb z 0 then answer else Refused z)).number 0 ≡ true → to_pay clause9 t who z price ≡ price
unrefused t who z price answer =
    if-cases (λ (a : Answer). eqb (said a).number 0 ≡ true → to_pay clause9 t who z price ≡ price) (eqb z 0) (λ e. λ h. rw e refl) (λ e. λ h. absurd (true≢false (sym h ∙ e)))

-- by whether it is refused; a call of the host burns nothing either way
by-refusal : (t : Table) (c : Call) → is_open c ≡ false → let o = step clause9 t c in (eqb (number o) 0 ≡ true → o.burnt ≡ cost9 t c) → table_charge 1 (searching clause9 (search clause9 t (caller_of c)).looked) (role_of c) (number o) ≡ table_charge 1 (cost9 t c) (role_of c) (number o) → Costs9 t c o
by-refusal t c shut passes same =
    let o = step clause9 t c in
    if-cases (λ (n : ℕ). o.burnt ≡ n) (eqb (number o) 0) passes (λ h. (refuses9 t c shut h).burnt ∙ same)

costs : (t : Table) (c : Call) → Costs9 t c (step clause9 t c)
unfolding only_read cost9 begin_of finish_of recheck_of scan_of open_of grant_of pick_of deliver_of evict_of cancel_of looks size
costs t (Begin who awaited reads writes) =
    by-refusal t (Begin who awaited reads writes) refl (λ h. unrefused t who (first_of (begin_rows clause9 t (asked t who awaited reads writes))) _ _ h ∙ omega (arith, keep-count (λ (r : ℕ). not (member r writes)) reads)) refl
costs t (Finish who serial) =
    by-refusal t (Finish who serial) refl (λ h. unrefused t who (first_of (finish_rows t who serial)) _ _ h) refl
costs t (Recheck who serial) =
    by-refusal t (Recheck who serial) refl (λ h. unrefused t who (first_of (recheck_rows clause9 t who serial)) _ _ h) refl
costs t (Scan who) = by-refusal t (Scan who) refl (λ h. unrefused t who (first_of (scan_rows t who)) _ _ h) refl
costs t (Open shares) = sym (same_if (eqb (number (open_of shares)) 0) 0)
costs t (Grant who amount) = sym (same_if (eqb (number (grant_of t who amount)) 0) 0)
costs t Pick = sym (same_if (eqb (number (pick_of t)) 0) 0)
costs t (Deliver who serial) = sym (same_if (eqb (number (deliver_of t who serial)) 0) 0)
costs t (Evict who serial) = sym (same_if (eqb (number (evict_of t who serial)) 0) 0)
costs t (Cancel who serial) =
    by-refusal t (Cancel who serial) refl (λ h. unrefused t who (first_of (cancel_rows t who serial)) _ _ h) refl

pub prices9 : Prices9
prices9 t c = (costs t c, sym (burns-price clause9 t c))

pub charged9 : Charged9
charged9 n = ap (λ (b : Bool). if b then 1 else 0) (costly-range n)
