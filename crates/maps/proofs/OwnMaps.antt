-- A clash by a request's own maps is the clash by its lists.
use Prim.Native.Nat.{ℕ}
use mathlib.Core.Path.{◌≡◌, sym, ap, ◌∙◌}
use mathlib.Core.Bool.{Bool, ◌||◌}
use mathlib.Core.List.{List}
use Rattle.rules.specs.Records.{member}
use Rattle.rules.specs.Request.{requested}
use Rattle.rules.specs.Clash.{clash_at}
use Rattle.std.specs.Prelude.{Option, Some, None}
use Rattle.maps.specs.Maps.{in_map, MapOf, clash_in, Empty, Grown, IsLowest}

-- a map that was empty and has grown by a list is the list
pub own-map : {map list next : List ℕ} → Empty map → Grown map list next → MapOf list next
own-map {map} {list} {next} e g = record { each = λ q. g.each q ∙ ap (λ (t : Bool). t || member q list) (e.each q) }

pub own-clash : {reads writes own own' : List ℕ} (written read : List ℕ) → MapOf reads own → MapOf writes own' → (q : ℕ) → clash_in own own' written read q ≡ clash_at (in_map written) (in_map read) (requested 0 0 0 reads writes) q
unfolding clash_at
own-clash written read m m' q = rw (m.each q, m'.each q)

-- tests that agree have the same lowest record
pub lowest-same : (f g : ℕ → Bool) → ((q : ℕ) → f q ≡ g q) → (low : Option ℕ) → IsLowest f low → IsLowest g low
lowest-same f g same (Some r) h = (h.0, sym (same r) ∙ h.1, λ q lt. sym (same q) ∙ h.2 q lt)
lowest-same f g same None h = λ q lt. sym (same q) ∙ h q lt
