-- Promises 11 and 12. A Waiting entry of a sound table has an answer due. So the front entry can always leave: Pick if it is Blocked,
-- its answers while it is Waiting, and Finish, which is free; and the queue empties entry by entry.
use Rattle.std.specs.Prelude.{if◌then◌else◌}
use Prim.Native.Nat.{ℕ, zero, suc, ◌+◌, ◌-◌, ◌*◌, ◌≤◌, ◌<◌}
use mathlib.Core.Path.{◌≡◌, refl, sym, ap, subst, ◌∙◌}
use mathlib.Core.Bool.{Bool, true, false, ◌&&◌, true≢false, false≢true}
use mathlib.Core.List.{List, [], ◌∷◌, ◌++◌}
use native.Mathlib.Omega.{arith}
use lib.Dec.{eqb, ltb}
use lib.ListN.{length, get_or, replicate, length-append, length-replicate}
use borrow.Author.Tests.{eq-eqb, ne_eqb, lt-leb}
use Rattle.rules.specs.declared.Mode.{Mode}
use Rattle.rules.specs.declared.Mode.TheVariants.{Free, Waiting, Blocked}
use Rattle.rules.specs.declared.Answer.{Answer}
use Rattle.rules.specs.Lists.{every, before}
use Rattle.rules.specs.Request.{Request, nobody, is_free, is_waiting, is_blocked, promoted, delivered}
use Rattle.rules.specs.Table.{Meter, Table, is_tenant}
use Rattle.rules.specs.Prices.{Prices}
use Rattle.rules.specs.Refusals.{first_of, stands_at, is_absent, entry_of, deliver_rows}
use Rattle.rules.specs.Calls.{without_entry, gone, pick_of, deliver_of}
use Rattle.rules.specs.Said.{said}
use Rattle.rules.specs.Sound.{Each, Fit, SoundAny, given_by}
use Rattle.rules.specs.Runs.{Call, Step, Run, step, is_open, after, run_of, number}
use Rattle.rules.specs.Runs.Call.{Begin, Finish, Recheck, Scan, Open, Grant, Pick, Deliver, Evict, Cancel}
use Rattle.rules.proofs.Tests.{if-either, if-cases}
use Rattle.rules.proofs.Requests.{delivered-as}
use Rattle.rules.proofs.Order.{each_map, each_all, each_first}
use Rattle.rules.proofs.Keeps.{sound-removed}
use Rattle.rules.proofs.Sound.{pick-keeps, deliver-keeps}
use Rattle.promises.specs.Fuel.{Fair, reached}
use Rattle.promises.specs.Places.{MayLeave}
use Rattle.promises.specs.Drains.{NeverHangs, is_draining, Smooth, leaving, draining, Drains, AlwaysDrains}
use Rattle.promises.proofs.Runs.{all_sound, made}
use Rattle.promises.proofs.Admitted.{finishes}

-- ---- every table that a run reaches is sound, whatever the records that its calls name
reached-sound : (p : Prices) (shares : List ℕ) (calls : List Call) → SoundAny (reached p shares calls).table
reached-sound p shares calls = all_sound p _ shares calls (each_all calls (λ c. each_all _ (λ r. tt)))

-- 11
pub never-hangs : (p : Prices) → NeverHangs p
never-hangs p shares calls = each_map (λ e f. f.waiting) (reached-sound p shares calls).entries

-- ---- calls that go smoothly from one table to another
data Quiet (p : Prices) : Table → List Call → Table → Type 0 where
  done : {t : Table} → Quiet p t [] t
  next : {t u v : Table} {cs : List Call} (c : Call) → is_draining c ≡ true → Smooth (made p t c) → (step p t c).table ≡ v → Quiet p v cs u → Quiet p t (c ∷ cs) u

quiet-only : {p : Prices} {t u : Table} {cs : List Call} → Quiet p t cs u → every is_draining cs ≡ true
unfolding every
quiet-only Quiet.done = refl
quiet-only (Quiet.next {cs = cs} c d k e h) = ap (λ (x : Bool). x && every is_draining cs) d ∙ quiet-only h

-- none of them opens a new run
drain-shut : (c : Call) → is_draining c ≡ true → is_open c ≡ false
drain-shut (Begin who awaited reads writes) d = refl
drain-shut (Finish who serial) d = refl
drain-shut (Recheck who serial) d = refl
drain-shut (Scan who) d = refl
drain-shut (Open shares) d = absurd (false≢true d)
drain-shut (Grant who amount) d = refl
drain-shut Pick d = refl
drain-shut (Deliver who serial) d = refl
drain-shut (Evict who serial) d = absurd (false≢true d)
drain-shut (Cancel who serial) d = absurd (false≢true d)

-- what their run is
record Goes (p : Prices) (r : Run) (cs : List Call) (u : Table) : Type 0 where
  all : length (run_of p r cs).steps ≡ length r.steps + length cs
  smooth : Each Smooth (run_of p r cs).steps
  end : (run_of p r cs).table ≡ u

after-quiet : (p : Prices) (t v : Table) (c : Call) (steps : List Step) → is_draining c ≡ true → (step p t c).table ≡ v → after p (record { table = t; steps = steps }) c ≡ record { table = v; steps = made p t c ∷ steps }
unfolding after
after-quiet p t v c steps d e =
    ap (λ (b : Bool). record { table = (step p t c).table; steps = if b then [] else (made p t c ∷ steps) }) (drain-shut c d) ∙ ap (λ (u : Table). record { table = u; steps = made p t c ∷ steps }) e

quiet-goes : {p : Prices} {t u : Table} {cs : List Call} → Quiet p t cs u → (steps : List Step) → Each Smooth steps → Goes p (record { table = t; steps = steps }) cs u
unfolding run_of
quiet-goes Quiet.done steps h = record { all = omega arith; smooth = h; end = refl }
quiet-goes {p} {t} (Quiet.next {v = v} {cs = cs} c d k e more) steps h =
    let rest = quiet-goes more (made p t c ∷ steps) (Each.also k h) in
    let same = after-quiet p t v c steps d e in
    let all : length (run_of p (after p (record { table = t; steps = steps }) c) cs).steps ≡ length (made p t c ∷ steps) + length cs = rw same rest.all in
    record {
      all = omega (arith, all);
      smooth = subst (λ (r : Run). Each Smooth (run_of p r cs).steps) (sym same) rest.smooth;
      end = ap (λ (r : Run). (run_of p r cs).table) same ∙ rest.end;
    }

-- ---- the front entry: it is the one that its name finds
abbrev tab : List Meter → List Request → Table
tab ms q = record { meters = ms; queue = q }

front_at : (e : Request) (q : List Request) → stands_at e.tenant e.serial (e ∷ q) ≡ 0
unfolding before
front_at e q = rw (eq-eqb e.tenant e.tenant refl, eq-eqb e.serial e.serial refl)

front-there : (e : Request) (q : List Request) → is_absent e.tenant e.serial (e ∷ q) ≡ false
front-there e q = rw (front_at e q) (lt-leb (length (e ∷ q)) 0 (omega arith))

front-entry : (e : Request) (q : List Request) → entry_of e.tenant e.serial (e ∷ q) ≡ e
front-entry e q = ap (λ (n : ℕ). get_or (e ∷ q) n nobody) (front_at e q)

front-fit : {ms : List Meter} {e : Request} {q : List Request} → SoundAny (tab ms (e ∷ q)) → Fit (given_by (tab ms (e ∷ q))) e
front-fit s = each_first s.entries

-- ---- Deliver, where an answer is due
front-row : (ms : List Meter) (e : Request) (q : List Request) → is_tenant e.tenant ≡ true → 0 < e.due → first_of (deliver_rows (tab ms (e ∷ q)) e.tenant e.serial) ≡ 0
unfolding first_of deliver_rows
front-row ms e q tenant due =
    let some : eqb e.due 0 ≡ false = ne_eqb e.due 0 (λ z. omega arith) in
    simp (tenant, front-there e q, front-entry e q, some)

front-delivered : (ms : List Meter) (e : Request) (q : List Request) → is_tenant e.tenant ≡ true → 0 < e.due → let o = deliver_of (tab ms (e ∷ q)) e.tenant e.serial in (number o ≡ 0) × (o.table ≡ tab ms (delivered e ∷ q)) × (o.burnt ≡ 0)
unfolding deliver_of
front-delivered ms e q tenant due =
    let row = front-row ms e q tenant due in
    (rw row, rw (row, front_at e q), refl)

delivered-due : (e : Request) → (delivered e).due ≡ e.due - 1
delivered-due e = ap (λ (r : Request). r.due) (delivered-as e)

delivered-runs : (e : Request) → is_blocked e.mode ≡ false → is_blocked (delivered e).mode ≡ false
delivered-runs e runs =
    ap (λ (r : Request). is_blocked r.mode) (delivered-as e) ∙ if-either (λ (m : Mode). is_blocked m ≡ false) (is_waiting e.mode && eqb (e.due - 1) 0) refl runs

-- ---- Pick
front-picked : (ms : List Meter) (e : Request) (q : List Request) → is_blocked e.mode ≡ true → let o = pick_of (tab ms (e ∷ q)) in (number o ≡ 0) × (o.table ≡ tab ms (promoted e ∷ q)) × (o.burnt ≡ 0)
unfolding pick_of
front-picked ms e q blocked = (rw blocked, rw blocked, refl)

-- ---- the front entry leaves, and the calls go on
module _ {p : Prices} (f : Fair p) (ms : List Meter) (q : List Request) (rest : List Call) (end : Table) (on : Quiet p (tab ms q) rest end) where
  free-leaves : (e : Request) → SoundAny (tab ms (e ∷ q)) → is_free e.mode ≡ true → Quiet p (tab ms (e ∷ q)) (Finish e.tenant e.serial ∷ rest) end
  free-leaves e s free =
      let may : MayLeave (tab ms (e ∷ q)) e.tenant e.serial = record { tenant = (front-fit s).tenant; there = front-there e q; free = ap (λ (r : Request). is_free r.mode) (front-entry e q) ∙ free } in
      let o = finishes f (tab ms (e ∷ q)) e.tenant e.serial may in
      let out : gone (tab ms (e ∷ q)) e.tenant e.serial ≡ tab ms q = ap (λ (n : ℕ). tab ms (without_entry n (e ∷ q))) (front_at e q) in
      Quiet.next (Finish e.tenant e.serial) refl (record { accepted = ap (λ (a : Answer). (said a).number) o.answer; burnt = o.burnt }) (o.table ∙ out) on

  -- so many answers, and Finish
  abbrev answers : ℕ → Request → List Call
  answers n e = replicate n (Deliver e.tenant e.serial) ++ Finish e.tenant e.serial ∷ rest

  -- an entry that is not Blocked is Free if nothing is due, for a Waiting one has an answer due
  now-free : (e : Request) → e.due ≡ 0 → is_blocked e.mode ≡ false → SoundAny (tab ms (e ∷ q)) → is_free e.mode ≡ true
  now-free e none runs s = go e.mode refl
    where
      go : (m : Mode) → e.mode ≡ m → is_free e.mode ≡ true
      go Free is = ap is_free is
      go Waiting is = let due : 0 < e.due = (front-fit s).waiting (ap is_waiting is) in absurd (omega (arith, none, due))
      go Blocked is = absurd (true≢false (sym (ap is_blocked is) ∙ runs))

  running-leaves : (n : ℕ) (e : Request) → e.due ≡ n → is_blocked e.mode ≡ false → SoundAny (tab ms (e ∷ q)) → Quiet p (tab ms (e ∷ q)) (answers n e) end
  running-leaves zero e none runs s = free-leaves e s (now-free e none runs s)
  running-leaves (suc n) e some runs s =
      let due : 0 < e.due = omega (arith, some) in
      let d = front-delivered ms e q (front-fit s).tenant due in
      let fewer : (delivered e).due ≡ n = omega (arith, delivered-due e, some) in
      let sound : SoundAny (tab ms (delivered e ∷ q)) = subst SoundAny d.1 (deliver-keeps s e.tenant e.serial) in
      let later : Quiet p (tab ms (delivered e ∷ q)) (answers n (delivered e)) end = running-leaves n (delivered e) fewer (delivered-runs e runs) sound in
      Quiet.next (Deliver e.tenant e.serial) refl (record { accepted = d.0; burnt = d.2 }) d.1 (subst (λ (r : Request). Quiet p (tab ms (delivered e ∷ q)) (answers n r) end) (delivered-as e) later)

  -- a Blocked one is picked first
  front-leaves : (e : Request) → SoundAny (tab ms (e ∷ q)) → Quiet p (tab ms (e ∷ q)) (leaving e rest) end
  unfolding promoted
  front-leaves e s =
      if-cases (λ (cs : List Call). Quiet p (tab ms (e ∷ q)) (cs ++ answers e.due e) end) (is_blocked e.mode) {x = Pick ∷ []} {y = []}
      (λ blocked.
      let k = front-picked ms e q blocked in
      let sound : SoundAny (tab ms (promoted e ∷ q)) = subst SoundAny k.1 (pick-keeps s) in
      let runs : is_blocked (promoted e).mode ≡ false = if-either (λ (m : Mode). is_blocked m ≡ false) (ltb 0 e.due) refl refl in
      Quiet.next Pick refl (record { accepted = k.0; burnt = k.2 }) k.1 (running-leaves e.due (promoted e) refl runs sound))
      (λ runs. running-leaves e.due e refl runs s)

-- ---- all of them, one after another
repeated-length : (n : ℕ) (c : Call) (rest : List Call) → length (replicate n c ++ rest) ≡ n + length rest
repeated-length n c rest = length-append (replicate n c) rest ∙ ap (λ (m : ℕ). m + length rest) (length-replicate n c)

leaving-few : (e : Request) (rest : List Call) → e.due ≤ 15 → length (leaving e rest) ≤ 17 + length rest
leaving-few e rest le =
    let finish = Finish e.tenant e.serial ∷ rest in
    let tail = repeated-length e.due (Deliver e.tenant e.serial) finish in
    if-either (λ (cs : List Call). length (cs ++ (replicate e.due (Deliver e.tenant e.serial) ++ finish)) ≤ 17 + length rest) (is_blocked e.mode) (omega (arith, tail, le)) (omega (arith, tail, le))

few-calls : (ms : List Meter) (q : List Request) → SoundAny (tab ms q) → length (draining q) ≤ 17 * length q
unfolding draining
few-calls ms [] s = omega arith
few-calls ms (e ∷ q) s =
    let fit = front-fit s in
    omega (arith, leaving-few e (draining q) (omega (arith, fit.due, fit.awaited)), few-calls ms q (sound-removed s 0 (omega arith)))

module _ {p : Prices} (f : Fair p) where
  empties : (ms : List Meter) (q : List Request) → SoundAny (tab ms q) → Quiet p (tab ms q) (draining q) (tab ms [])
  unfolding draining
  empties ms [] s = Quiet.done
  empties ms (e ∷ q) s = front-leaves f ms q (draining q) (tab ms []) (empties ms q (sound-removed s 0 (omega arith))) e s

  -- 12
  pub drains : Drains p
  drains t s =
      let quiet = empties t.meters t.queue s in
      let g = quiet-goes quiet [] Each.none in
      record { only = quiet-only quiet; all = omega (arith, g.all); smooth = g.smooth; empty = g.end; few = few-calls t.meters t.queue s }

  pub always-drains : AlwaysDrains p
  always-drains shares calls = drains (reached p shares calls).table (reached-sound p shares calls)
