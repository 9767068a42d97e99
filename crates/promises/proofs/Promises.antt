-- Every promise, over any fair price list and at document 01's.
use mathlib.Core.Path.{refl}
use native.Mathlib.Omega.{arith}
use Rattle.rules.specs.Request.{size}
use Rattle.rules.specs.Prices.{Prices, clause9, looks}
use Rattle.rules.specs.Calls.{search}
use Rattle.promises.specs.Fuel.{Fair}
use Rattle.promises.specs.Searches.{SearchPrice9, SearchMost9}
use Rattle.promises.specs.Promises.{Promises, AtClause9}
use Rattle.promises.proofs.Refusals.{refuses, refuses9, refuses-open, never-five}
use Rattle.promises.proofs.Runs.{all_sound}
use Rattle.promises.proofs.Fuel.{burns-price, burns-prices, own-call, other-call, balance}
use Rattle.promises.proofs.Calls.{not-dry}
use Rattle.promises.proofs.Search.{search-price, search-most, search-promotes, search-ends, search-nothing, search-names, search-cut}
use Rattle.promises.proofs.Admitted.{admits, finishes, picks}
use Rattle.promises.proofs.Numbers.{prices9, charged9}
use Rattle.promises.proofs.Names.{own-names, two-names, never_back}
use Rattle.promises.proofs.Drains.{never-hangs, drains, always-drains}
use Rattle.promises.proofs.Sales.{sellers-conflict, second-waits}
use Rattle.promises.proofs.Reports.{reports, begin-alone}
use Rattle.promises.proofs.Turns.{admission-total, queue-order}
use Rattle.promises.proofs.Order.{order, stays-away, run-in-order}
use Rattle.promises.proofs.TakingOut.{eviction-takes, others-lower-neither, evicts, host-empties, cancels, cancels-no-other, takes_none}
use Rattle.promises.proofs.NextScan.{next-scan}

pub promises : {p : Prices} → Fair p → Promises p
promises {p} f = record {
  burns-price = burns-price p;
  burns-prices = burns-prices p;
  own-call = own-call f;
  other-call = other-call f;
  balance = balance f;
  search-price = search-price p;
  search-most = search-most p;
  not-dry = not-dry f;
  admits = admits f;
  finishes = finishes f;
  refuses = refuses p;
  refuses-open = refuses-open;
  never-five = never-five p;
  search-promotes = search-promotes f;
  search-ends = search-ends f;
  search-nothing = search-nothing p;
  search-names = search-names p;
  search-cut = search-cut p;
  picks = picks;
  all_sound = all_sound p;
  own-names = own-names p;
  two-names = two-names p;
  never_back = never_back p;
  never-hangs = never-hangs p;
  drains = drains f;
  always-drains = always-drains f;
  sellers-conflict = sellers-conflict;
  second-waits = second-waits p;
  reports = reports p;
  begin-alone = begin-alone p;
  order = order p;
  stays-away = stays-away p;
  run-in-order = run-in-order p;
  admission-total = admission-total p;
  queue-order = queue-order p;
  eviction-takes = eviction-takes;
  others-lower-neither = others-lower-neither f;
  evicts = evicts;
  host-empties = host-empties p;
  cancels = cancels p;
  cancels-no-other = cancels-no-other p;
  takes_none = takes_none p;
  next-scan = next-scan f;
}

pub clause9-fair : Fair clause9
clause9-fair = record {
  request = λ n. omega arith;
  finish = refl;
  cancel = omega arith;
  search = refl;
  recheck = λ n. omega arith;
  refused = omega arith;
}

-- 3 at document 01's prices
pub search-price9 : SearchPrice9
unfolding looks size
search-price9 = search-price clause9

pub search-most9 : SearchMost9
search-most9 t who s = omega (arith, search-most clause9 t who 17 s (λ n small. omega arith))

pub at-clause9 : AtClause9
at-clause9 = record { all = promises clause9-fair; prices = prices9; charged = charged9; search-price = search-price9; search-most = search-most9; refuses = refuses9 }
