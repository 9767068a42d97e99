-- The table of calls: for each its tag and its name in an event file, who makes it, and how long its body is.
use Rattle.std.specs.Prelude.{ℕ, Bool, true, false, List, [], ◌∷◌}
use Rattle.rules.specs.declared.Kind.{Kind}
use Rattle.rules.specs.declared.Kind.TheVariants.{Open, Grant, Begin, Finish, Recheck, Scan, Pick, Deliver, Evict, Cancel}

-- Who makes a call, and so who pays: "Host calls, which burn nothing", one of which opens a new sequence of calls; tenant
-- calls, one of which asks for locks, and one of which searches, and burns as it goes.
pub data Role : Type 0 where
  opening : Role
  host : Role
  request : Role
  tenant : Role
  search : Role

-- how long a body is: so many bytes, or as many as "tenant, awaited, r, then r reads; the rest are writes" take
pub data Body : Type 0 where
  bytes : ℕ → Body
  lists : Body

pub record CallRow : Type 0 where
  pub tag : ℕ
  pub role : Role
  pub body : Body
  pub name : List ℕ

abbrev pub row : ℕ → Role → Body → List ℕ → CallRow
row tag role body name = record { tag = tag; role = role; body = body; name = name }

-- "01 Open: 16 shares. 02 Grant: tenant, amount in four bytes ... 04 Finish, 05 Recheck, 08 Deliver: tenant, serial in two
-- bytes. 06 Scan: tenant. 07 Pick: empty." Document 02, item 7, of evict and cancel: "Event tags are 09 and 0B, bodies as for
-- Finish". The names, "in small letters", are open, grant, begin, finish, recheck, scan, pick, deliver, evict and cancel.
abbrev pub row_of : Kind → CallRow
row_of Open = row 1 opening (bytes 16) (111 ∷ 112 ∷ 101 ∷ 110 ∷ [])
row_of Grant = row 2 host (bytes 5) (103 ∷ 114 ∷ 97 ∷ 110 ∷ 116 ∷ [])
row_of Begin = row 3 request lists (98 ∷ 101 ∷ 103 ∷ 105 ∷ 110 ∷ [])
row_of Finish = row 4 tenant (bytes 3) (102 ∷ 105 ∷ 110 ∷ 105 ∷ 115 ∷ 104 ∷ [])
row_of Recheck = row 5 tenant (bytes 3) (114 ∷ 101 ∷ 99 ∷ 104 ∷ 101 ∷ 99 ∷ 107 ∷ [])
row_of Scan = row 6 search (bytes 1) (115 ∷ 99 ∷ 97 ∷ 110 ∷ [])
row_of Pick = row 7 host (bytes 0) (112 ∷ 105 ∷ 99 ∷ 107 ∷ [])
row_of Deliver = row 8 host (bytes 3) (100 ∷ 101 ∷ 108 ∷ 105 ∷ 118 ∷ 101 ∷ 114 ∷ [])
row_of Evict = row 9 host (bytes 3) (101 ∷ 118 ∷ 105 ∷ 99 ∷ 116 ∷ [])
row_of Cancel = row 11 tenant (bytes 3) (99 ∷ 97 ∷ 110 ∷ 99 ∷ 101 ∷ 108 ∷ [])

-- all of them, by their tags
unfoldable pub kinds : List Kind
kinds = Open ∷ Grant ∷ Begin ∷ Finish ∷ Recheck ∷ Scan ∷ Pick ∷ Deliver ∷ Evict ∷ Cancel ∷ []

-- "A later Open begins a new sequence of calls"
abbrev pub is_opening : Role → Bool
is_opening opening = true
is_opening host = false
is_opening request = false
is_opening tenant = false
is_opening search = false

abbrev pub is_request : Role → Bool
is_request opening = false
is_request host = false
is_request request = true
is_request tenant = false
is_request search = false

-- "paid by the plugin that made the call": the tenant that a tenant's call names, and 0, which is no tenant, for the host
abbrev pub payer : Role → ℕ → ℕ
payer opening who = 0
payer host who = 0
payer request who = who
payer tenant who = who
payer search who = who
