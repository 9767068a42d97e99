-- A slot's entry as a request of the law book, and what keeps the two in step.
use Rattle.std.specs.Prelude.{ℕ, ◌-◌, ◌≤◌, ◌≡◌, List, [], length, take, drop, replicate}
use Rattle.rules.specs.declared.Mode.TheVariants.{Free}
use Rattle.rules.specs.Request.{Request}
use Rattle.entry.specs.declared.Entry.{Entry}
use Rattle.entry.specs.declared.Sieved.{Sieved}

-- the entry of an unused slot; shut, so that goals show its name
unfoldable pub no_entry : Entry
no_entry = record {
  tenant = 0;
  serial = 0;
  mode = Free;
  awaited = 0;
  due = 0;
  nr = 0;
  nw = 0;
  reads = replicate 8 0;
  writes = replicate 8 0;
}

-- what the logic reads past the end of an array of entries: each number 0, each array with no elements
abbrev pub blank : Entry
blank = record { tenant = 0; serial = 0; mode = Free; awaited = 0; due = 0; nr = 0; nw = 0; reads = []; writes = [] }

-- the request that the entry holds
abbrev pub request : Entry → Request
request e = record {
  tenant = e.tenant;
  serial = e.serial;
  mode = e.mode;
  awaited = e.awaited;
  due = e.due;
  reads = take e.nr e.reads;
  writes = take e.nw e.writes;
}

-- the request under another serial
abbrev pub with_serial : Request → ℕ → Request
with_serial e n = record {
  tenant = e.tenant;
  serial = n;
  mode = e.mode;
  awaited = e.awaited;
  due = e.due;
  reads = e.reads;
  writes = e.writes;
}

-- at most 8 reads and 8 writes, "unused ones zero"
pub record Tidy (e : Entry) : Type 0 where
  pub few-reads : e.nr ≤ 8
  pub few-writes : e.nw ≤ 8
  pub reads-rest : drop e.nr e.reads ≡ replicate (8 - e.nr) 0
  pub writes-rest : drop e.nw e.writes ≡ replicate (8 - e.nw) 0

-- r is an array of 8 with the records of the list at its front, and zero behind them
pub record Kept (list r : List ℕ) : Type 0 where
  pub first : take (length list) r ≡ list
  pub rest : drop (length list) r ≡ replicate (8 - length list) 0

-- r has the records of the list, and says how many they are
pub record Sieves (list : List ℕ) (r : Sieved) : Type 0 where
  pub count : r.n ≡ length list
  pub kept : Kept list r.list

-- r is a tidy entry that holds the request e
pub record Stands (e : Request) (r : Entry) : Type 0 where
  pub is : request r ≡ e
  pub tidy : Tidy r
