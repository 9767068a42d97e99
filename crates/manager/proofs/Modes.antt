-- The code compares states by the derived `==`: what it answers of each is the law book's.
use mathlib.Core.Path.{◌≡◌, refl}
use denote.Enum.Bare.{sameb}
use Rattle.rules.specs.contracts.Mode as mode
use Rattle.rules.specs.declared.Mode.{Mode}
use Rattle.rules.specs.declared.Mode.TheVariants.{Free, Waiting, Blocked}
use Rattle.rules.specs.Request.{is_free, is_blocked}

pub free-told : (m : Mode) → sameb mode.the_type m Free ≡ is_free m
free-told Free = refl
free-told Waiting = refl
free-told Blocked = refl

pub blocked-told : (m : Mode) → sameb mode.the_type m Blocked ≡ is_blocked m
blocked-told Free = refl
blocked-told Waiting = refl
blocked-told Blocked = refl
