-- The table of calls, by its tags: each kind has one, and no other number is a tag.
use Prim.Native.Nat.{ℕ}
use mathlib.Core.Path.{◌≡◌, refl, ap}
use mathlib.Core.Bool.{false}
use Rattle.rules.specs.declared.Kind.{Kind}
use Rattle.rules.specs.declared.Kind.TheVariants.{Open, Grant, Begin, Finish, Recheck, Scan, Pick, Deliver, Evict, Cancel}
use Rattle.rules.specs.CallTable.{row_of, kinds}
use Rattle.rules.specs.Tags.{kind_in, kind_of}
use Rattle.std.specs.Prelude.{Some, None}
use Rattle.events.specs.Events.{is_known, is_tag}

-- every kind is in the table, under its own tag
pub tag-known : (k : Kind) → kind_of (row_of k).tag ≡ Some k
unfolding kinds kind_in
tag-known Open = refl
tag-known Grant = refl
tag-known Begin = refl
tag-known Finish = refl
tag-known Recheck = refl
tag-known Scan = refl
tag-known Pick = refl
tag-known Deliver = refl
tag-known Evict = refl
tag-known Cancel = refl

-- a number that no call has is no tag
pub unknown-tag : (tag : ℕ) → kind_of tag ≡ None → is_tag tag ≡ false
unknown-tag tag e = ap is_known e
