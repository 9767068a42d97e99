-- When an array of bytes holds a text.
use Rattle.std.specs.Prelude.{ℕ, ◌+◌, ◌-◌, ◌≤◌, ◌≡◌, List, ◌++◌, length, take, drop, replicate}
use Rattle.listing.specs.declared.Line.{Line}

-- the bytes in use
abbrev pub text_of : Line → List ℕ
text_of l = take l.len l.bytes

-- r holds the text, and zeros behind it
pub record Written (text : List ℕ) (r : Line) : Type 0 where
  pub len : r.len ≡ length text
  pub is : text_of r ≡ text
  pub within : r.len ≤ 64
  pub rest : drop r.len r.bytes ≡ replicate (64 - r.len) 0

-- r holds what l holds and then the text; what lies behind is l's
pub record Appended (l : Line) (text : List ℕ) (r : Line) : Type 0 where
  pub len : r.len ≡ l.len + length text
  pub is : text_of r ≡ text_of l ++ text
  pub rest : drop r.len r.bytes ≡ drop r.len l.bytes
