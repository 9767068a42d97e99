-- A reply tells its answer: what is read from the numbers is the answer again.
use Prim.Native.Nat.{ℕ, zero, suc}
use mathlib.Core.Path.{◌≡◌, refl, sym, ap, ◌∙◌}
use Rattle.rules.specs.declared.Mode.TheVariants.{Free, Waiting, Blocked}
use Rattle.rules.specs.declared.Answer.{Answer}
use Rattle.rules.specs.declared.Answer.TheVariants.{Ok, Done, Still, Nothing, Refused, Named, BlockedOn}
use Rattle.block.specs.Clauses.{mode_of}
use Rattle.damsonpouch.specs.declared.Reply.{Reply}
use Rattle.damsonpouch.specs.Reply.{reply_of, ReplyTells}

-- an entry, with a record or without
abbrev entry_in : ℕ → Reply → Answer
entry_in zero r = Named (mode_of r.state) r.tenant r.serial
entry_in (suc n) r = BlockedOn r.tenant r.serial r.lowest

abbrev by_kind : ℕ → Reply → Answer
by_kind zero r = Ok
by_kind (suc zero) r = Done
by_kind (suc (suc zero)) r = Still
by_kind (suc (suc (suc zero))) r = Nothing
by_kind (suc (suc (suc (suc zero)))) r = Refused r.number
by_kind (suc (suc (suc (suc (suc n))))) r = entry_in r.clashed r

read : (a : Answer) (n : ℕ) → by_kind (reply_of a n).kind (reply_of a n) ≡ a
read Ok n = refl
read Done n = refl
read Still n = refl
read Nothing n = refl
read (Refused number) n = refl
read (Named Free who serial) n = refl
read (Named Waiting who serial) n = refl
read (Named Blocked who serial) n = refl
read (BlockedOn who serial r) n = refl

pub reply-tells : ReplyTells
reply-tells a a' n n' e = (sym (read a n) ∙ ap (λ (r : Reply). by_kind r.kind r) e ∙ read a' n', ap (λ (r : Reply). r.burnt) e)
