-- Which call a tag is, by the table of calls.
use Rattle.std.specs.Prelude.{ℕ, ◌≡◌, eqb, if◌then◌else◌, List, [], ◌∷◌, Option, Some, None, Result, MatchResult}
use Rattle.rules.specs.declared.Kind.{Kind}
use Rattle.rules.specs.declared.Refusal.{Refusal}
use Rattle.rules.specs.declared.Refusal.TheVariants.{UnknownTag}
use Rattle.rules.specs.CallTable.{row_of, kinds}

-- the one of some calls that has a tag
unfoldable pub kind_in : List Kind → ℕ → Option Kind
kind_in [] tag = None
kind_in (k ∷ ks) tag = if eqb (row_of k).tag tag then Some k else kind_in ks tag

abbrev pub kind_of : ℕ → Option Kind
kind_of tag = kind_in kinds tag

-- the call that has the tag, or a refusal where none has
abbrev pub ReadsTag : ℕ → Result Kind Refusal → Type 0
ReadsTag tag r = MatchResult r (λ k. kind_of tag ≡ Some k) (λ why. (why ≡ UnknownTag) × (kind_of tag ≡ None))
