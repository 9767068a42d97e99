-- All that any run of calls keeps, over any fair price list and at document 01's prices. A run is any list of calls after an
-- opening, all tenants and the host mixed, refused calls included; its steps are those since the last Open.
use Rattle.std.specs.Prelude.{ℕ, List}
use Rattle.rules.specs.Prices.{Prices, clause9}
use Rattle.rules.specs.Sound.{Each, SoundBy}
use Rattle.rules.specs.Runs.{Call, records_of}
use Rattle.promises.specs.Fuel.{BurnsPrice, BurnsPrices, OwnCall, OtherCall, Balance, NotDry, Charged9, Prices9, reached}
use Rattle.promises.specs.Refused.{Refuses, Refuses9, RefusesOpen, NeverFive}
use Rattle.promises.specs.Searches.{SearchPromotes, SearchEnds, SearchNothing, SearchNames, SearchCut}
use Rattle.promises.specs.Searches.{SearchPrice, SearchMost, SearchPrice9, SearchMost9}
use Rattle.promises.specs.Places.{Admits, Finishes, Picks}
use Rattle.promises.specs.Names.{OwnNames, TwoNames, NeverBack}
use Rattle.promises.specs.Drains.{NeverHangs, Drains, AlwaysDrains}
use Rattle.promises.specs.Sales.{SellersConflict, SecondWaits}
use Rattle.promises.specs.Reports.{Reports, BeginAlone}
use Rattle.promises.specs.Order.{Order, StaysAway, RunInOrder, AdmissionTotal, QueueOrder}
use Rattle.promises.specs.TakingOut.{EvictionTakes, OthersLowerNeither, Evicts, HostEmpties, Cancels, CancelsNoOther, TakesNone, NextScan}

-- 9 the states reached are sound, and name no records but those that the calls named
abbrev pub AllSound : Prices → Type 1
AllSound p =
    (ok : ℕ → Type 0) (shares : List ℕ) (calls : List Call) →
    Each (λ c. Each ok (records_of c)) calls →
    SoundBy ok (reached p shares calls).table

pub record Promises (p : Prices) : Type 1 where
  -- 1
  pub burns-price : BurnsPrice p
  pub burns-prices : BurnsPrices p
  pub own-call : OwnCall p
  pub other-call : OtherCall p
  -- 2
  pub balance : Balance p
  -- 3
  pub search-price : SearchPrice p
  pub search-most : SearchMost p
  -- 4
  pub not-dry : NotDry p
  -- 5
  pub admits : Admits p
  pub finishes : Finishes p
  -- 6
  pub refuses : Refuses p
  pub refuses-open : RefusesOpen
  pub never-five : NeverFive p
  -- 7
  pub search-promotes : SearchPromotes p
  pub search-ends : SearchEnds p
  pub search-nothing : SearchNothing p
  pub search-names : SearchNames p
  pub search-cut : SearchCut p
  -- 8
  pub picks : Picks
  -- 9
  pub all_sound : AllSound p
  -- 10
  pub own-names : OwnNames p
  pub two-names : TwoNames p
  pub never_back : NeverBack p
  -- 11
  pub never-hangs : NeverHangs p
  -- 12
  pub drains : Drains p
  pub always-drains : AlwaysDrains p
  -- 13
  pub sellers-conflict : SellersConflict
  pub second-waits : SecondWaits p
  -- 14
  pub reports : Reports p
  pub begin-alone : BeginAlone p
  -- 15
  pub order : Order p
  pub stays-away : StaysAway p
  -- 16
  pub run-in-order : RunInOrder p
  -- 17
  pub admission-total : AdmissionTotal p
  pub queue-order : QueueOrder p
  -- 18
  pub eviction-takes : EvictionTakes
  pub others-lower-neither : OthersLowerNeither p
  -- 19
  pub evicts : Evicts
  pub host-empties : HostEmpties p
  pub cancels : Cancels p
  pub cancels-no-other : CancelsNoOther p
  pub takes_none : TakesNone p
  -- 20
  pub next-scan : NextScan p

pub record AtClause9 : Type 1 where
  pub all : Promises clause9
  pub prices : Prices9
  pub charged : Charged9
  pub search-price : SearchPrice9
  pub search-most : SearchMost9
  pub refuses : Refuses9
