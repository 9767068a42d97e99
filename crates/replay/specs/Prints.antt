-- What is told of a listing once it is printed.
use Rattle.std.specs.Prelude.{ℕ, ◌<◌, ◌≤◌, ◌≡◌, List, length, take, Option, Result, IfOk, IfErr, OnOk}
use Rattle.std.specs.Io.KnownBytes.{Appends}
use Rattle.replay.specs.Replay.{listing_of}

-- all of it, and then as many bytes as it has; or not all, and then fewer
pub record Prints (file : List ℕ) (r : Result ℕ ℕ) : Type 0 where
  pub whole : IfOk r (λ bytes. bytes ≡ length (listing_of file))
  pub part : IfErr r (λ bytes. bytes < length (listing_of file))

-- what a writer that keeps its bytes has then, beside what it had before: all of the listing; or not all, and then its first
-- bytes, of which it is told how many stood in whole pieces
pub record Puts (file : List ℕ) (before after : Option (List ℕ)) (r : Result ℕ ℕ) : Type 0 where
  pub whole : OnOk r (Appends before after (listing_of file))
  pub part : IfErr r (λ bytes. (n : ℕ) × (bytes ≤ n) × (n < length (listing_of file)) × Appends before after (take n (listing_of file)))
