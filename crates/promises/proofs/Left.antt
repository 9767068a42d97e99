-- The queue is what is left of the admissions, in their order: whoever joins was admitted, whoever leaves is gone, and nobody
-- changes name or lists.
use Prim.Native.Nat.{ℕ, zero, suc}
use mathlib.Core.Path.{◌≡◌, refl, sym, subst, ◌∙◌}
use mathlib.Core.List.{List, [], ◌∷◌, ◌++◌, append-nil}
use native.Mathlib.Numerals.{add-one}
use lib.ListN.{get_or, set, take, drop}
use Rattle.rules.specs.Request.{Request, nobody}
use Rattle.rules.specs.Table.{Table}
use Rattle.rules.specs.Calls.{without_entry}
use Rattle.rules.specs.Sound.{Each, InOrder}
use Rattle.promises.specs.Names.{Claim, claim_of}
use Rattle.promises.proofs.Changes.{Change}

pub data Left : List Request → List Claim → Type 0 where
  none : Left [] []
  gone : {c : Claim} {q : List Request} {cs : List Claim} → Left q cs → Left q (c ∷ cs)
  stays : {e : Request} {c : Claim} {q : List Request} {cs : List Claim} → claim_of e ≡ c → Left q cs → Left (e ∷ q) (c ∷ cs)

-- ---- what holds of the admissions holds of the entries
pub left-each : {P : Claim → Type 0} {q : List Request} {cs : List Claim} → Left q cs → Each P cs → Each (λ e. P (claim_of e)) q
left-each Left.none Each.none = Each.none
left-each (Left.gone h) (Each.also p k) = left-each h k
left-each {P} (Left.stays m h) (Each.also p k) = Each.also (subst P (sym m) p) (left-each h k)

pub left-order : {R : Claim → Claim → Type 0} {q : List Request} {cs : List Claim} → Left q cs → InOrder R cs → InOrder (λ a e. R (claim_of a) (claim_of e)) q
left-order Left.none InOrder.none = InOrder.none
left-order (Left.gone h) (InOrder.also k o) = left-order h o
left-order {R} (Left.stays {e = e} {cs = cs} m h) (InOrder.also k o) =
    InOrder.also (left-each {P = R (claim_of e)} h (subst (λ (c : Claim). Each (R c) cs) (sym m) k)) (left-order h o)

-- ---- an entry joins, leaves, is changed in place
left-last : {q : List Request} {cs : List Claim} (e : Request) → Left q cs → Left (q ++ e ∷ []) (cs ++ claim_of e ∷ [])
left-last e Left.none = Left.stays refl Left.none
left-last e (Left.gone h) = Left.gone (left-last e h)
left-last e (Left.stays m h) = Left.stays m (left-last e h)

left-go : {q : List Request} {cs : List Claim} → Left q cs → (n : ℕ) → Left (take n q ++ drop (suc n) q) cs
left-go Left.none zero = Left.none
left-go Left.none (suc n) = Left.none
left-go (Left.gone h) n = Left.gone (left-go h n)
left-go (Left.stays m h) zero = Left.gone h
left-go (Left.stays m h) (suc n) = Left.stays m (left-go h n)

left-without : {q : List Request} {cs : List Claim} → Left q cs → (at : ℕ) → Left (without_entry at q) cs
left-without {q} {cs} h at = subst (λ (n : ℕ). Left (take at q ++ drop n q) cs) (sym (add-one at)) (left-go h at)

left-set : {q : List Request} {cs : List Claim} → Left q cs → (at : ℕ) (e : Request) → claim_of e ≡ claim_of (get_or q at nobody) → Left (set q at e) cs
left-set Left.none at e k = Left.none
left-set (Left.gone h) at e k = Left.gone (left-set h at e k)
left-set (Left.stays m h) zero e k = Left.stays (k ∙ m) h
left-set (Left.stays m h) (suc at) e k = Left.stays m (left-set h at e k)

pub change-left : {t : Table} {added : List Claim} {q : List Request} (cs : List Claim) → Change t added q → Left t.queue cs → Left q (cs ++ added)
change-left cs Change.same h = rw (append-nil cs) h
change-left cs (Change.joins e k) h = left-last e h
change-left cs (Change.leaves at) h = rw (append-nil cs) (left-without h at)
change-left cs (Change.changes at e k) h = rw (append-nil cs) (left-set h at e k)
