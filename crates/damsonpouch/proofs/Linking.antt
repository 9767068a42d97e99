-- The ways out of a linked call, and that its contract allows one result.
use Prim.Native.Nat.{ℕ}
use mathlib.Core.Path.{◌≡◌, refl, sym, ap, subst, ◌∙◌}
use mathlib.Core.Bool.{Bool, true, false}
use mathlib.Core.List.{List, [], ◌∷◌}
use lib.Dec.{eqb}
use lib.ListN.{length}
use borrow.Author.Tests.{eqb-true, eqb-false}
use Rattle.rules.specs.declared.Answer.{Answer}
use Rattle.rules.specs.Table.{Table}
use Rattle.rules.specs.Clash.{held_of}
use Rattle.rules.specs.Calls.{Outcome}
use Rattle.rules.specs.Sound.{SoundTable}
use Rattle.manager.specs.declared.State.{State}
use Rattle.manager.specs.State.{view, Did}
use Rattle.block.specs.Block.{block_of, SoundBlock}
use Rattle.block.specs.Read.{Holds}
use Rattle.block.proofs.Whole.{block-length, block-tells}
use Rattle.damsonpouch.specs.declared.Reply.{Reply}
use Rattle.damsonpouch.specs.declared.Held.{Held}
use Rattle.damsonpouch.specs.Reply.{reply_of, refused15, held_reply}
use Rattle.damsonpouch.specs.Linked.{On, Anew, Linked, Counted, OneResult, OneVerdict, OneCount}

pub block-whole : {b : List ℕ} → SoundBlock b → length b ≡ 2_176
block-whole k = ap length k.is ∙ block-length k.of k.sound

-- ---- the ways out
-- there is no outcome: the block stays, and the reply is 15
pub refused-linked : {has : List ℕ → Outcome → Type 0} {b : List ℕ} {r : Reply} → ((o : Outcome) → has b o → ⊥) → r ≡ refused15 → Linked has b b r
refused-linked none is = record {
  block = λ o h. absurd (none o h);
  sound = λ o h. absurd (none o h);
  reply = λ o h. absurd (none o h);
  kept = λ z. refl;
  refused = λ z. is;
}

pub short-linked : {made : Outcome} {b : List ℕ} {r : Reply} → (length b ≡ 2_176 → ⊥) → r ≡ refused15 → Linked (Anew made) b b r
short-linked wrong is = refused-linked (λ o h. wrong h.whole) is

-- there is one outcome, which the manager's call had: its table is written, and what it said is replied
done-linked : {has : List ℕ → Outcome → Type 0} {b b' : List ℕ} {o : Outcome} {n : State} {r : Reply} → has b o → ((p : Outcome) → has b p → p ≡ o) → Did n o → b' ≡ block_of (view n) → r ≡ reply_of n.said.answer n.said.burnt → Linked has b b' r
done-linked {has} {b} {b'} {o} {n} {r} own one did written said = record {
  block = λ p h. written ∙ ap block_of (did.table ∙ sym (ap (λ (x : Outcome). x.table) (one p h)));
  sound = λ p h. subst SoundTable (did.table ∙ sym (ap (λ (x : Outcome). x.table) (one p h))) did.sound.table;
  reply = λ p h. said ∙ ap (λ (a : Answer). reply_of a n.said.burnt) did.answer ∙ ap (reply_of o.answer) did.burnt ∙ sym (ap (λ (x : Outcome). reply_of x.answer x.burnt) (one p h));
  kept = λ none. absurd (none o own);
  refused = λ none. absurd (none o own);
}

pub sound-linked : (call : Table → Outcome) {b b' : List ℕ} {s n : State} {r : Reply} → Holds b s → Did n (call (view s)) → b' ≡ block_of (view n) → r ≡ reply_of n.said.answer n.said.burnt → Linked (On call) b b' r
sound-linked call {b} {b'} {s} {n} {r} holds did written said =
    let own : On call b (call (view s)) = record { of = view s; sound = holds.sound.table; is = holds.is; outcome = refl } in
    done-linked own (λ p h. h.outcome ∙ ap call (block-tells h.of (view s) h.sound holds.sound.table (sym h.is ∙ holds.is))) did written said

pub opened-linked : (made : Outcome) {b b' : List ℕ} {n : State} {r : Reply} → length b ≡ 2_176 → Did n made → b' ≡ block_of (view n) → r ≡ reply_of n.said.answer n.said.burnt → Linked (Anew made) b b' r
opened-linked made whole did written said = done-linked (record { whole = whole; outcome = refl }) (λ p h. h.outcome) did written said

-- ---- held
pub sound-counted : {b : List ℕ} {s : State} {r : Held} → Holds b s → r ≡ held_reply (held_of (view s)) → Counted b r
sound-counted {b} {s} {r} holds is = record {
  counts = λ t sound e. is ∙ ap (λ (u : Table). held_reply (held_of u)) (block-tells (view s) t holds.sound.table sound (sym holds.is ∙ e));
  refused = λ wrong. absurd (wrong (record { of = view s; sound = holds.sound.table; is = holds.is }));
}

-- ---- one result: whether a block has an outcome need not be decided, since numbers are equal if they are not different
same_number : (m n : ℕ) → ((m ≡ n → ⊥) → ⊥) → m ≡ n
same_number m n k = go (eqb m n) refl
  where
    go : (t : Bool) → eqb m n ≡ t → m ≡ n
    go true e = eqb-true m n e
    go false e = absurd (k (eqb-false m n e))

abbrev first : ℕ → List ℕ → ℕ
first d [] = d
first d (x ∷ xs) = x

abbrev rest : List ℕ → List ℕ
rest [] = []
rest (x ∷ xs) = xs

abbrev flag : List ℕ → ℕ
flag [] = 0
flag (y ∷ ys) = 1

size-apart : (x : ℕ) (xs : List ℕ) → [] ≡ x ∷ xs → ⊥
size-apart x xs e = eqb-false 0 1 refl (ap flag e)

same-list : (xs ys : List ℕ) → ((xs ≡ ys → ⊥) → ⊥) → xs ≡ ys
same-list [] [] k = refl
same-list [] (y ∷ ys) k = absurd (k (size-apart y ys))
same-list (x ∷ xs) [] k = absurd (k (λ e. size-apart x xs (sym e)))
same-list (x ∷ xs) (y ∷ ys) k =
    let head : x ≡ y = same_number x y (λ no. k (λ e. no (ap (first x) e))) in
    let tail : xs ≡ ys = same-list xs ys (λ no. k (λ e. no (ap rest e))) in
    ap (λ (n : ℕ). n ∷ xs) head ∙ ap (λ (l : List ℕ). y ∷ l) tail

pub one-result : OneResult
one-result has before after after' r r' l m =
    let agree : (f : Reply → ℕ) → f r ≡ f r' = λ f. same_number (f r) (f r') (λ no. let none : (o : Outcome) → has before o → ⊥ = λ o h. no (ap f (l.reply o h ∙ sym (m.reply o h))) in no (ap f (l.refused none ∙ sym (m.refused none)))) in
    let blocks : after ≡ after' = same-list after after' (λ no. let none : (o : Outcome) → has before o → ⊥ = λ o h. no (l.block o h ∙ sym (m.block o h)) in no (l.kept none ∙ sym (m.kept none))) in
    (blocks, λ i. record { kind = agree (λ x. x.kind) i; number = agree (λ x. x.number) i; state = agree (λ x. x.state) i; tenant = agree (λ x. x.tenant) i; serial = agree (λ x. x.serial) i; clashed = agree (λ x. x.clashed) i; lowest = agree (λ x. x.lowest) i; burnt = agree (λ x. x.burnt) i })

pub one-verdict : OneVerdict
one-verdict b true true t u = refl
one-verdict b true false t u = absurd (u.other refl (t.yes refl))
one-verdict b false true t u = absurd (t.other refl (u.yes refl))
one-verdict b false false t u = refl

pub one-count : OneCount
one-count b r r' c d =
    let agree : (f : Held → ℕ) → f r ≡ f r' = λ f. same_number (f r) (f r') (λ no. let none : SoundBlock b → ⊥ = λ k. no (ap f (c.counts k.of k.sound k.is ∙ sym (d.counts k.of k.sound k.is))) in no (ap f (c.refused none ∙ sym (d.refused none)))) in
    λ i. record { number = agree (λ x. x.number) i; written = agree (λ x. x.written) i; read = agree (λ x. x.read) i; either = agree (λ x. x.either) i }
