-- The ten calls: each takes a table and its arguments to the table after it, its answer, and the units burnt.
use Rattle.std.specs.Prelude.{ℕ, ◌+◌, ◌-◌, List, [], ◌∷◌, ◌++◌, eqb, get_or, set, take, drop, replicate, if◌then◌else◌}
use Rattle.rules.specs.declared.Answer.{Answer}
use Rattle.rules.specs.declared.Answer.TheVariants.{Ok, Done, Still, Nothing, Refused, Named, BlockedOn}
use Rattle.rules.specs.Request.{Request, nobody, requested, reduced, size, promoted, admitted, delivered, is_blocked}
use Rattle.rules.specs.Table.{Table, meter_of, with_meter, with_queue, numbered, granted, burn, fresh}
use Rattle.rules.specs.Prices.{Prices, admission, searching, charge}
use Rattle.rules.specs.Refusals.{first_of, stands_at, entry_of, begin_rows, finish_rows, recheck_rows, scan_rows, deliver_rows, evict_rows, cancel_rows, grant_rows, open_rows}
use Rattle.rules.specs.Counters.{cx, cs, alone}
use Rattle.rules.specs.Clash.{lowest_clash}
use Rattle.rules.specs.Scan.{End, found, nothing, short, Walk, scan_walk}

pub record Outcome : Type 0 where
  pub table : Table
  pub answer : Answer
  pub burnt : ℕ

-- what a tenant's call burns: its price or, where it is refused with a number, the charge of that number
abbrev pub to_pay : Prices → Table → ℕ → ℕ → ℕ → ℕ
to_pay p t who number price = if eqb number 0 then price else charge p (meter_of t who).fuel number

-- A tenant's call: refused with a number, or else it has its price, its deed and its answer. A refusal "leaves counters,
-- queue, states, places and serials as they were".
abbrev pub tenant_call : Prices → Table → ℕ → ℕ → ℕ → Table → Answer → Outcome
tenant_call p t who number price deed answer = record {
  table = burn who (to_pay p t who number price) (if eqb number 0 then deed else t);
  answer = if eqb number 0 then answer else Refused number;
  burnt = to_pay p t who number price;
}

-- "Host calls, which burn nothing"
abbrev pub host_call : Table → ℕ → Table → Answer → Outcome
host_call t number deed answer = record {
  table = if eqb number 0 then deed else t;
  answer = if eqb number 0 then answer else Refused number;
  burnt = 0;
}

-- "answer with the entry's state after the call and its name"
abbrev pub named : Request → Answer
named e = Named e.mode e.tenant e.serial

-- an entry leaves, "the others keep their order"; an entry takes another's place
abbrev pub without_entry : ℕ → List Request → List Request
without_entry at q = take at q ++ drop (at + 1) q

abbrev pub with_entry : Table → ℕ → Request → Table
with_entry t at e = with_queue t (set t.queue at e)

-- Begin: "The request gets the tenant's next serial, from 1"
abbrev pub asked : Table → ℕ → ℕ → List ℕ → List ℕ → Request
asked t who awaited reads writes = requested who ((meter_of t who).serials + 1) awaited reads writes

-- what Begin answers with: document 02, item 5, "A Blocked Begin then reports the lowest-numbered record that it clashed on"
abbrev pub begun : List Request → Request → Answer
begun q e = if is_blocked (admitted q e).mode then BlockedOn e.tenant e.serial (lowest_clash q e) else named (admitted q e)

-- "and joins the back"
abbrev pub joined : Table → Request → Table
joined t e = with_queue (with_meter t e.tenant (numbered (meter_of t e.tenant))) (t.queue ++ e ∷ [])

unfoldable pub begin_of : Prices → Table → ℕ → ℕ → List ℕ → List ℕ → Outcome
begin_of p t who awaited reads writes =
    let e = asked t who awaited reads writes in
    let entry = admitted t.queue (reduced e) in
    tenant_call p t who (first_of (begin_rows p t e)) (admission p (reduced e)) (joined t entry) (begun t.queue (reduced e))

-- the entry of that name leaves, and with it its counts and its place, since both are counted over the queue
abbrev pub gone : Table → ℕ → ℕ → Table
gone t who serial = with_queue t (without_entry (stands_at who serial t.queue) t.queue)

-- "A Free entry leaves". "Finish answers done."
unfoldable pub finish_of : Prices → Table → ℕ → ℕ → Outcome
finish_of p t who serial = tenant_call p t who (first_of (finish_rows t who serial)) p.finish (gone t who serial) Done

-- "the entry is promoted; if not, the answer is still"
unfoldable pub recheck_of : Prices → Table → ℕ → ℕ → Outcome
recheck_of p t who serial =
    let q = t.queue in
    let at = stands_at who serial q in
    let e = entry_of who serial q in
    let clear = alone (cx q) (cs q) e in
    tenant_call p t who (first_of (recheck_rows p t who serial)) (p.recheck (size e))
    (if clear then with_entry t at (promoted e) else t)
    (if clear then named (promoted e) else Still)

-- the table and the answer at the end of a search: "stops at the first ... and promotes it"; "nothing"; "refusal 9"
abbrev pub found-table : Table → End → Table
found-table t (found at) = with_entry t at (promoted (get_or t.queue at nobody))
found-table t nothing = t
found-table t short = t

abbrev pub found-answer : List Request → End → Answer
found-answer q (found at) = named (promoted (get_or q at nobody))
found-answer q nothing = Nothing
found-answer q short = Refused 9

-- "It burns 1, then looks at entries from the front"
abbrev pub search : Prices → Table → ℕ → Walk
search p t who = scan_walk p who ((meter_of t who).fuel - p.search) [] t.queue

unfoldable pub scan_of : Prices → Table → ℕ → Outcome
scan_of p t who =
    let w = search p t who in
    tenant_call p t who (first_of (scan_rows t who)) (searching p w.looked) (found-table t w.end) (found-answer t.queue w.end)

-- "Open (shares of tenants 1 to 16): a fresh state". "Refusal 14 hands out a state with every share 0."
unfoldable pub open_of : List ℕ → Outcome
open_of shares = host_call (fresh (replicate 16 0)) (first_of (open_rows shares)) (fresh shares) Ok

-- "Grant (tenant, amount): adds fuel"
unfoldable pub grant_of : Table → ℕ → ℕ → Outcome
grant_of t who amount =
    host_call t (first_of (grant_rows t who amount)) (with_meter t who (granted (meter_of t who) amount)) Ok

-- "Pick: if the front entry is Blocked, it is promoted. Otherwise, or with an empty queue, nothing."
abbrev pub pick_end : List Request → End
pick_end [] = nothing
pick_end (e ∷ es) = if is_blocked e.mode then found 0 else nothing

unfoldable pub pick_of : Table → Outcome
pick_of t = let end = pick_end t.queue in host_call t 0 (found-table t end) (found-answer t.queue end)

-- "Deliver (tenant, serial)"
unfoldable pub deliver_of : Table → ℕ → ℕ → Outcome
deliver_of t who serial =
    let e = delivered (entry_of who serial t.queue) in
    host_call t (first_of (deliver_rows t who serial)) (with_entry t (stands_at who serial t.queue) e) (named e)

-- Document 02, item 7: "The host needs evict (tenant, serial) for an entry in any state". "A tenant needs cancel for its own
-- Blocked entry, burning 1". "Both release counters and place, refund no fuel and answer done."
unfoldable pub evict_of : Table → ℕ → ℕ → Outcome
evict_of t who serial = host_call t (first_of (evict_rows t who serial)) (gone t who serial) Done

unfoldable pub cancel_of : Prices → Table → ℕ → ℕ → Outcome
cancel_of p t who serial = tenant_call p t who (first_of (cancel_rows t who serial)) p.cancel (gone t who serial) Done
