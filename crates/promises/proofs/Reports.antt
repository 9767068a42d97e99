-- A record on which a request is held up is one on which it clashes, and the law book's Begin reports the lowest. No other call has
-- an answer with a record.
use Rattle.std.specs.Prelude.{if◌then◌else◌}
use Prim.Native.Nat.{ℕ}
use mathlib.Core.Path.{◌≡◌, refl, sym, ap, ◌∙◌}
use mathlib.Core.Bool.{Bool, true, false, true≢false}
use mathlib.Core.List.{List, []}
use lib.Dec.{eqb}
use Rattle.rules.specs.declared.Answer.{Answer}
use Rattle.rules.specs.declared.Answer.TheVariants.{Refused}
use Rattle.rules.specs.Request.{Request, reduced, conflicts_any, promoted}
use Rattle.rules.specs.Prices.{Prices}
use Rattle.rules.specs.Refusals.{first_of, entry_of, finish_rows, recheck_rows, scan_rows, grant_rows, open_rows, deliver_rows, evict_rows, cancel_rows}
use Rattle.rules.specs.Counters.{cx, cs, alone}
use Rattle.rules.specs.Clash.{clashes_on, lowest_clash}
use Rattle.rules.specs.Scan.{End, found, nothing, short}
use Rattle.rules.specs.Calls.{Outcome, asked, found-answer, search, pick_end, finish_of, recheck_of, scan_of, open_of, grant_of, pick_of, deliver_of, evict_of, cancel_of}
use Rattle.rules.specs.Said.{said}
use Rattle.rules.specs.Runs.Call.{Begin, Finish, Recheck, Scan, Open, Grant, Pick, Deliver, Evict, Cancel}
use Rattle.rules.proofs.Tests.{if-either}
use Rattle.rules.proofs.Admission.{begin-admits}
use Rattle.rules.proofs.Clashing.{clash-conflicts, clash-shares, reduced-clashes, lowest-reported, joins-blocked, joins-clear}
use Rattle.promises.specs.Reports.{held_up_on, LowestOf, Reports, BeginAlone}
use Rattle.promises.proofs.Sales.{passes}

-- ---- a Begin
module _ (q : List Request) (e : Request) where
  told : (r : ℕ) → clashes_on q (reduced e) r ≡ held_up_on q e r
  told r = reduced-clashes q e r ∙ clash-shares q e r

  lowest-told : conflicts_any q (reduced e) ≡ true → LowestOf q e (lowest_clash q (reduced e))
  lowest-told h =
      let l = lowest-reported q (reduced e) h in
      record { held_up = sym (told (lowest_clash q (reduced e))) ∙ l.clashes; lowest = λ x k. l.lowest x (told x ∙ k) }

  -- where no record holds it up, nothing conflicts
  nobody-there : ((x : ℕ) → held_up_on q e x ≡ false) → conflicts_any q (reduced e) ≡ false
  nobody-there none = go (conflicts_any q (reduced e)) refl
    where
      go : (b : Bool) → conflicts_any q (reduced e) ≡ b → b ≡ false
      go true h = let l = lowest-told h in absurd (true≢false (sym l.held_up ∙ none (lowest_clash q (reduced e))))
      go false h = refl

pub reports : (p : Prices) → Reports p
unfolding promoted
reports p t who awaited reads writes admitted =
    let e = asked t who awaited reads writes in
    let q = t.queue in
    let says = ap (λ (o : Outcome). o.answer) (begin-admits (passes p t (record { who = who; awaited = awaited; reads = reads; writes = writes }) admitted)) in
    record {
      blocked = λ x h. let conflicts = clash-conflicts q (reduced e) x (told q e x ∙ h) in (lowest_clash q (reduced e), says ∙ (joins-blocked q (reduced e) refl conflicts).answer, lowest-told q e conflicts);
      clear = λ none. says ∙ (joins-clear q (reduced e) (nobody-there q e none)).answer;
    }

-- ---- the other calls
abbrev NoRecord : Answer → Type 0
NoRecord answer = (said answer).clash ≡ []

-- an answer of the call's own, or a refusal
or-refused : (number : ℕ) (answer : Answer) → NoRecord answer → NoRecord (if eqb number 0 then answer else Refused number)
or-refused number answer own = if-either NoRecord (eqb number 0) own refl

found-alone : (q : List Request) (end : End) → NoRecord (found-answer q end)
found-alone q (found at) = refl
found-alone q nothing = refl
found-alone q short = refl

pub begin-alone : (p : Prices) → BeginAlone p
unfolding finish_of recheck_of scan_of open_of grant_of pick_of deliver_of evict_of cancel_of
begin-alone p t (Begin who awaited reads writes) other = absurd (true≢false other)
begin-alone p t (Finish who serial) other = or-refused (first_of (finish_rows t who serial)) _ refl
begin-alone p t (Recheck who serial) other =
    let e = entry_of who serial t.queue in
    or-refused (first_of (recheck_rows p t who serial)) _ (if-either NoRecord (alone (cx t.queue) (cs t.queue) e) refl refl)
begin-alone p t (Scan who) other = or-refused (first_of (scan_rows t who)) _ (found-alone t.queue (search p t who).end)
begin-alone p t (Open shares) other = or-refused (first_of (open_rows shares)) _ refl
begin-alone p t (Grant who amount) other = or-refused (first_of (grant_rows t who amount)) _ refl
begin-alone p t Pick other = found-alone t.queue (pick_end t.queue)
begin-alone p t (Deliver who serial) other = or-refused (first_of (deliver_rows t who serial)) _ refl
begin-alone p t (Evict who serial) other = or-refused (first_of (evict_rows t who serial)) _ refl
begin-alone p t (Cancel who serial) other = or-refused (first_of (cancel_rows t who serial)) _ refl
