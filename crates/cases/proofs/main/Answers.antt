-- The two digits of a name are text, since both are ASCII.
use Rattle.std.proofs.Common.{refl, ◌∷◌, [], Result, Ok, Err, MatchResult, IsOk}
use Rattle.std.proofs.lemmas.Str.{IsUtf8-from_ascii}
use Rattle.std.proofs.lemmas.Str.Ascii.{IsAscii-nil, IsAscii-cons}
use Rattle.cases.proofs.main.Goals as goal

is_ok : {X E P : Type 0} (A : X → Type 0) (B : E → Type 0) (r : Result X E) → MatchResult r A (λ e. (¬ P) × B e) → P → IsOk r
is_ok A B (Ok x) h p = refl
is_ok A B (Err e) h p = absurd (h.0 p)

pub unwrap-requires : goal.unwrap-requires
unwrap-requires c =
    let last = c.digit-in-loop-n.result in
    is_ok _ _ c.from_utf8.result c.from_utf8.ensures.cases (IsUtf8-from_ascii (c.digit.result ∷ last ∷ []) (IsAscii-cons _ (last ∷ []) c.digit.ensures (IsAscii-cons _ [] c.digit-in-loop-n.ensures IsAscii-nil)))
