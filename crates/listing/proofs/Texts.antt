-- The texts of a line's fields: what they are made of, and how long they are.
use Prim.Native.Nat.{ℕ, ◌≤◌, ◌<◌}
use mathlib.Core.Path.{◌≡◌, sym, ◌∙◌}
use mathlib.Core.List.{◌∷◌, ◌++◌, append-nil, append_assoc}
use native.Mathlib.Omega.{arith}
use lib.ListN.{length, length-append}
use Rattle.rules.specs.declared.Mode.{Mode}
use Rattle.rules.specs.declared.Mode.TheVariants.{Free, Waiting, Blocked}
use Rattle.rules.specs.declared.Answer.TheVariants.{Refused, Named, BlockedOn}
use Rattle.rules.specs.declared.Kind.{Kind}
use Rattle.rules.specs.declared.Kind.TheVariants.{Open, Grant, Begin, Finish, Recheck, Scan, Pick, Deliver, Evict, Cancel}
use Rattle.rules.specs.CallTable.{row_of}
use Rattle.rules.specs.Said.{said, word_of}
use Rattle.listing.specs.declared.Name.{Name}
use Rattle.listing.specs.Decimal.{decimal}
use Rattle.listing.specs.Listing.{colon, point, at_sign, name_of, answer_text}
use Rattle.listing.proofs.Decimal.{byte_short, serial_short}

kind-short : (kind : Kind) → length (row_of kind).name ≤ 7
kind-short Open = omega arith
kind-short Grant = omega arith
kind-short Begin = omega arith
kind-short Finish = omega arith
kind-short Recheck = omega arith
kind-short Scan = omega arith
kind-short Pick = omega arith
kind-short Deliver = omega arith
kind-short Evict = omega arith
kind-short Cancel = omega arith

pub name_short : (name : Name) → length (name_of name) ≤ 7
name_short (Name.Call kind) = kind-short kind
name_short Name.File = omega arith

pub word_short : (mode : Mode) → length (word_of mode) ≤ 7
unfolding word_of
word_short Free = omega arith
word_short Waiting = omega arith
word_short Blocked = omega arith

-- ---- a refusal: the word, a colon and the number
module _ (number : ℕ) where
  pub refused-text : answer_text (Refused number) ≡ (said (Refused number)).word ++ colon ∷ decimal number
  unfolding answer_text
  refused-text = simp append-nil

  pub refused-short : number < 256 → length (answer_text (Refused number)) ≤ 17
  refused-short n = rw refused-text (omega (arith, byte_short number))

-- ---- an entry's name: its state, a colon, the tenant, a point and the serial
module _ (mode : Mode) (tenant serial : ℕ) where
  pub named-text : answer_text (Named mode tenant serial) ≡ word_of mode ++ colon ∷ decimal tenant ++ point ∷ decimal serial
  unfolding answer_text
  named-text = simp (append-nil, append_assoc)

  pub named-short : tenant < 256 → serial < 65536 → length (answer_text (Named mode tenant serial)) ≤ 17
  named-short t s = rw named-text (simp length-append (omega (arith, word_short mode, byte_short tenant, serial_short serial)))

-- ---- a Blocked entry's name, and the record that it clashed on behind an @
module _ (tenant serial on : ℕ) where
  pub clash-text : answer_text (BlockedOn tenant serial on) ≡ answer_text (Named Blocked tenant serial) ++ at_sign ∷ decimal on
  unfolding answer_text
  clash-text =
      let mark = at_sign ∷ decimal on in
      rw (named-text Blocked tenant serial)
      (sym (append_assoc (word_of Blocked ++ colon ∷ decimal tenant) (point ∷ decimal serial) mark ∙ append_assoc (word_of Blocked) (colon ∷ decimal tenant) (point ∷ (decimal serial ++ mark))))

  pub clash-short : tenant < 256 → serial < 65536 → on < 256 → length (answer_text (BlockedOn tenant serial on)) ≤ 21
  clash-short t s o = rw clash-text (simp length-append (omega (arith, named-short Blocked tenant serial t s, byte_short on)))
