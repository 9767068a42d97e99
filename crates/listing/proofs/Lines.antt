-- What a line holds after one text and then another, and that a text makes one line.
use Prim.Native.Nat.{ℕ, zero, suc, ◌-◌, ◌≤◌}
use mathlib.Core.Path.{◌≡◌, sym, ap, ◌∙◌}
use mathlib.Core.List.{List, [], ◌++◌, append_assoc}
use native.Mathlib.Omega.{arith}
use lib.ListN.{length, drop, replicate, length-append, take-append-drop}
use lib.Seq.{drop-drop}
use Rattle.listing.specs.declared.Line.{Line}
use Rattle.listing.specs.Written.{text_of, Written, Appended}

-- a text and then another
pub append-then : {l m r : Line} {s t : List ℕ} → Appended l s m → Appended m t r → Appended l (s ++ t) r
append-then {l} {m} {r} {s} {t} a b = record {
  len = simp length-append (omega arith);
  is = b.is ∙ ap (λ (x : List ℕ). x ++ t) a.is ∙ append_assoc (text_of l) s t;
  rest = b.rest ∙ rw b.len (sym (drop-drop (length t) m.len m.bytes) ∙ ap (drop (length t)) a.rest ∙ drop-drop (length t) m.len l.bytes);
}

drop-replicate : (n m z : ℕ) → drop n (replicate m z) ≡ replicate (m - n) z
drop-replicate zero m z = ap (λ (k : ℕ). replicate k z) (let e : m ≡ m - 0 = omega arith in e)
drop-replicate (suc n) zero z = ap (λ (k : ℕ). replicate k z) (let e : 0 ≡ 0 - suc n = omega arith in e)
drop-replicate (suc n) (suc m) z =
    drop-replicate n m z ∙ ap (λ (k : ℕ). replicate k z) (let e : m - n ≡ suc m - suc n = omega arith in e)

-- a text behind a line of no bytes
pub written-first : {l r : Line} {text : List ℕ} → Written [] l → Appended l text r → r.len ≤ 64 → Written text r
written-first {l} {r} {text} w a h = record {
  len = omega arith;
  is = a.is ∙ ap (λ (t : List ℕ). t ++ text) w.is;
  within = h;
  rest = a.rest ∙ ap (drop r.len) (rw w.len at w.rest) ∙ drop-replicate r.len 64 0;
}

-- two lines that hold one text are the same
pub written_once : {a b : Line} {text : List ℕ} → Written text a → Written text b → a ≡ b
written_once {a} {b} {text} p q =
    let len : a.len ≡ b.len = p.len ∙ sym q.len in
    let behind : drop a.len a.bytes ≡ drop b.len b.bytes = p.rest ∙ ap (λ (n : ℕ). replicate (64 - n) 0) len ∙ sym q.rest in
    let bytes : a.bytes ≡ b.bytes = sym (take-append-drop a.len a.bytes) ∙ cc (p.is, q.is, behind) ∙ take-append-drop b.len b.bytes in
    λ i. record { len = len i; bytes = bytes i }
