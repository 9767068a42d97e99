-- When two requests conflict: whichever is asked, and exactly where some record is written by one and read or written by
-- the other. Whom a request conflicts with in a queue, record by record.
use Prim.Native.Nat.{ℕ, zero, suc, ◌≤◌}
use mathlib.Core.Path.{◌≡◌, refl, sym, ap, ◌∙◌}
use mathlib.Core.Bool.{Bool, true, false, ◌&&◌, ◌||◌}
use mathlib.Core.List.{List, [], ◌∷◌}
use mathlib.Core.Logic.{⊎_elim}
use native.Mathlib.Nat.{not-suc-le-zero}
use native.Mathlib.Omega.{arith}
use lib.ListN.{length, get_or, take}
use Rattle.rules.specs.Lists.{some}
use Rattle.rules.specs.Records.{member, meets}
use Rattle.rules.specs.Request.{Request, nobody, conflict, conflicts_any}
use Rattle.rules.specs.Clash.{written_in, read_in}
use Rattle.rules.specs.Verdicts.{shares_at, ConflictExact}
use Rattle.rules.proofs.Tests.{or_assoc, or_comm, or-true, either, both}
use Rattle.rules.proofs.Lists.{some-cong, some_or, some-some, meets-sym, meets_at, meets-both}

or-last : (a b c : Bool) → (a || b || c) ≡ (a || c || b)
or-last a b c = or_assoc a b c ∙ ap (λ (t : Bool). a || t) (or_comm b c) ∙ sym (or_assoc a c b)

pub conflict-sym : (a b : Request) → conflict a b ≡ conflict b a
unfolding conflict
conflict-sym a b =
    simp (meets-sym a.writes b.writes, meets-sym a.writes b.reads, meets-sym a.reads b.writes)
    (or-last (meets b.writes a.writes) (meets b.reads a.writes) (meets b.writes a.reads))

-- the record is read or written by the request
abbrev pub touches : Request → ℕ → Bool
touches e r = member r e.reads || member r e.writes

-- ---- from the three comparisons of lists to a shared record, and back
ww-shares : (a b : Request) → meets a.writes b.writes ≡ true → (r : ℕ) × (shares_at a b r ≡ true)
ww-shares a b e = let w = meets_at a.writes b.writes e in (w.0, simp (w.1, w.2, or-true))

wr-shares : (a b : Request) → meets a.writes b.reads ≡ true → (r : ℕ) × (shares_at a b r ≡ true)
wr-shares a b e = let w = meets_at a.writes b.reads e in (w.0, simp (w.1, w.2))

rw-shares : (a b : Request) → meets a.reads b.writes ≡ true → (r : ℕ) × (shares_at a b r ≡ true)
rw-shares a b e = let w = meets_at a.reads b.writes e in (w.0, simp (w.1, w.2, or-true))

-- a writes the record, which b reads or writes
half : (a b : Request) (r : ℕ) → (member r a.writes && touches b r) ≡ true → conflict a b ≡ true
unfolding conflict
half a b r e =
    let p = both (member r a.writes) (touches b r) e in
    ⊎_elim
    (λ (h : member r b.reads ≡ true). simp (meets-both r a.writes b.reads p.0 h, or-true))
    (λ (h : member r b.writes ≡ true). simp (meets-both r a.writes b.writes p.0 h))
    (either (member r b.reads) (member r b.writes) p.1)

pub conflict-shares : (a b : Request) → conflict a b ≡ true → (r : ℕ) × (shares_at a b r ≡ true)
unfolding conflict
conflict-shares a b e = ⊎_elim
    (λ (h : (meets a.writes b.writes || meets a.writes b.reads) ≡ true). ⊎_elim (ww-shares a b) (wr-shares a b) (either (meets a.writes b.writes) (meets a.writes b.reads) h))
    (rw-shares a b)
    (either (meets a.writes b.writes || meets a.writes b.reads) (meets a.reads b.writes) e)

pub shares-conflict : (a b : Request) (r : ℕ) → shares_at a b r ≡ true → conflict a b ≡ true
shares-conflict a b r e = ⊎_elim
    (half a b r)
    (λ (h : (member r b.writes && touches a r) ≡ true). conflict-sym a b ∙ half b a r h)
    (either (member r a.writes && touches b r) (member r b.writes && touches a r) e)

pub conflict-exact : ConflictExact
conflict-exact a b = (conflict-shares a b, λ w. shares-conflict a b w.0 w.1)

-- ---- a queue
over : (of : Request → List ℕ) (q : List Request) (xs : List ℕ) → some (λ (a : Request). meets (of a) xs) q ≡ some (λ (r : ℕ). some (λ (a : Request). member r (of a)) q) xs
unfolding meets
over of q xs =
    some-cong q (λ a. meets-sym (of a) xs) ∙ some-some (λ (a : Request) (r : ℕ). member r (of a)) q xs

-- A request conflicts with some entry exactly if one of its reads is written there, or one of its writes written or read.
pub conflict-spread : (q : List Request) (e : Request) → conflicts_any q e ≡ (some (written_in q) e.reads || some (λ w. written_in q w || read_in q w) e.writes)
unfolding conflict
conflict-spread q e =
    let x = some (written_in q) e.writes in
    let y = some (written_in q) e.reads in
    let z = some (read_in q) e.writes in
    let ww : some (λ (a : Request). meets a.writes e.writes) q ≡ x = over (λ a. a.writes) q e.writes in
    let wr : some (λ (a : Request). meets a.writes e.reads) q ≡ y = over (λ a. a.writes) q e.reads in
    let rw : some (λ (a : Request). meets a.reads e.writes) q ≡ z = over (λ a. a.reads) q e.writes in
    let split : conflicts_any q e ≡ (x || y || z) = some_or (λ (a : Request). meets a.writes e.writes || meets a.writes e.reads) (λ (a : Request). meets a.reads e.writes) q ∙ ap (λ (t : Bool). t || some (λ (a : Request). meets a.reads e.writes) q) (some_or (λ (a : Request). meets a.writes e.writes) (λ (a : Request). meets a.writes e.reads) q) ∙ cc (ww, wr, rw) in
    split ∙ ap (λ (t : Bool). t || z) (or_comm x y) ∙ or_assoc y x z ∙ ap (λ (t : Bool). y || t) (sym (some_or (written_in q) (read_in q) e.writes))

-- behind the last entry stands nobody, who conflicts with no entry
past-nobody : (q : List Request) (at : ℕ) → length q ≤ at → get_or q at nobody ≡ nobody
past-nobody [] at h = refl
past-nobody (e ∷ q) zero h = absurd (not-suc-le-zero h)
past-nobody (e ∷ q) (suc at) h = past-nobody q at (omega arith)

pub past-clear : (q : List Request) (at : ℕ) → length q ≤ at → conflicts_any (take at q) (get_or q at nobody) ≡ false
unfolding some
past-clear q at h = ap (conflicts_any (take at q)) (past-nobody q at h) ∙ conflict-spread (take at q) nobody
