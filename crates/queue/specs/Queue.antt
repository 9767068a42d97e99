-- The queue's slots as the law book's list of requests, and what keeps the two in step.
use Rattle.std.specs.Prelude.{ℕ, ◌-◌, ◌≤◌, ◌<◌, ◌≡◌, List, map, get_or, take, drop, replicate}
use Rattle.rules.specs.Request.{Request}
use Rattle.entry.specs.declared.Entry.{Entry}
use Rattle.entry.specs.Entry.{request, no_entry, blank, Tidy}

-- slots, of which the first `count` are in use: as the manager's state has them
pub record Queue : Type 0 where
  pub count : ℕ
  pub entries : List Entry

-- the slots in use, front first
abbrev pub queued : Queue → List Entry
queued q = take q.count q.entries

abbrev pub requests : Queue → List Request
requests q = map request (queued q)

-- "at most 64 entries"; each is tidy, and "unused entries are zero"
pub record Neat (q : Queue) : Type 0 where
  pub within : q.count ≤ 64
  pub tidy : (i : ℕ) → i < q.count → Tidy (get_or q.entries i blank)
  pub rest : drop q.count q.entries ≡ replicate (64 - q.count) no_entry

-- r is a neat queue of the requests l
pub record Holds (l : List Request) (r : Queue) : Type 0 where
  pub list : requests r ≡ l
  pub neat : Neat r
