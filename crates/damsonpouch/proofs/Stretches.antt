-- A stretch of calls on a block, by one call more.
use Prim.Native.Nat.{ℕ}
use mathlib.Core.Path.{◌≡◌, refl, sym, ap, subst, ◌∙◌}
use mathlib.Core.Bool.{true, not, true≢false}
use mathlib.Core.List.{List, [], ◌∷◌}
use lib.ListN.{length}
use Rattle.rules.specs.Lists.{every}
use Rattle.rules.specs.Table.{Table}
use Rattle.rules.specs.Prices.{clause9}
use Rattle.rules.specs.Calls.{Outcome, open_of}
use Rattle.rules.specs.Sound.{Each, SoundTable}
use Rattle.rules.specs.Sound.Each.{none, also}
use Rattle.rules.specs.Runs.{Call, Run, step, is_open, from, opened, after, run_of}
use Rattle.rules.specs.Runs.Call.{Begin, Finish, Recheck, Scan, Open, Grant, Pick, Deliver, Evict, Cancel}
use Rattle.rules.proofs.Tests.{both}
use Rattle.manager.specs.Runs.{outcomes_of}
use Rattle.block.specs.Block.{block_of, SoundBlock}
use Rattle.block.proofs.Whole.{block-length}
use Rattle.damsonpouch.specs.declared.Reply.{Reply}
use Rattle.damsonpouch.specs.Reply.{reply_of, refused15}
use Rattle.damsonpouch.specs.Linked.{Anew}
use Rattle.damsonpouch.specs.Stretches.{Has, Made, uncalled, called, Stretch, IsRun, OfStretch, EveryStretch}

-- ---- on a sound block each call has the law book's outcome
pub has-step : (c : Call) (t : Table) {b : List ℕ} → SoundTable t → b ≡ block_of t → Has c b (step clause9 t c)
has-step (Begin who awaited reads writes) t s e = record { of = t; sound = s; is = e; outcome = refl }
has-step (Finish who serial) t s e = record { of = t; sound = s; is = e; outcome = refl }
has-step (Recheck who serial) t s e = record { of = t; sound = s; is = e; outcome = refl }
has-step (Scan who) t s e = record { of = t; sound = s; is = e; outcome = refl }
has-step (Open shares) t s e = record { whole = ap length e ∙ block-length t s; outcome = refl }
has-step (Grant who amount) t s e = record { of = t; sound = s; is = e; outcome = refl }
has-step Pick t s e = record { of = t; sound = s; is = e; outcome = refl }
has-step (Deliver who serial) t s e = record { of = t; sound = s; is = e; outcome = refl }
has-step (Evict who serial) t s e = record { of = t; sound = s; is = e; outcome = refl }
has-step (Cancel who serial) t s e = record { of = t; sound = s; is = e; outcome = refl }

-- so the calls from there are the law book's run
runs : {b last : List ℕ} {cs : List Call} {rs : List Reply} → Made b cs rs last → (run : Run) → SoundTable run.table → b ≡ block_of run.table → IsRun run cs rs last
unfolding run_of outcomes_of after
runs uncalled run s e = record { block = e; replies = refl }
runs (called {cs = cs} {rs = rs} c r l more) run s e =
    let h = has-step c run.table s e in
    let o = step clause9 run.table c in
    let rest = runs more (after clause9 run c) (l.sound o h) (l.block o h) in
    record {
      block = rest.block;
      replies = ap (λ (x : Reply). x ∷ rs) (l.reply o h) ∙ ap (λ (x : List Reply). reply_of o.answer o.burnt ∷ x) rest.replies;
    }

-- ---- on any other block no call but Open has an outcome
no_step : (c : Call) {b : List ℕ} → (SoundBlock b → ⊥) → not (is_open c) ≡ true → (o : Outcome) → Has c b o → ⊥
no_step (Begin who awaited reads writes) wrong z o h = wrong (record { of = h.of; sound = h.sound; is = h.is })
no_step (Finish who serial) wrong z o h = wrong (record { of = h.of; sound = h.sound; is = h.is })
no_step (Recheck who serial) wrong z o h = wrong (record { of = h.of; sound = h.sound; is = h.is })
no_step (Scan who) wrong z o h = wrong (record { of = h.of; sound = h.sound; is = h.is })
no_step (Open shares) wrong z o h = true≢false (sym z)
no_step (Grant who amount) wrong z o h = wrong (record { of = h.of; sound = h.sound; is = h.is })
no_step Pick wrong z o h = wrong (record { of = h.of; sound = h.sound; is = h.is })
no_step (Deliver who serial) wrong z o h = wrong (record { of = h.of; sound = h.sound; is = h.is })
no_step (Evict who serial) wrong z o h = wrong (record { of = h.of; sound = h.sound; is = h.is })
no_step (Cancel who serial) wrong z o h = wrong (record { of = h.of; sound = h.sound; is = h.is })

stays : {b last : List ℕ} {cs : List Call} {rs : List Reply} → Made b cs rs last → (SoundBlock b → ⊥) → every (λ c. not (is_open c)) cs ≡ true → (last ≡ b) × Each (λ r. r ≡ refused15) rs
unfolding every
stays uncalled wrong z = (refl, none)
stays (called {b = b} {next = next} {cs = cs} c r l more) wrong z =
    let p = both (not (is_open c)) (every (λ x. not (is_open x)) cs) z in
    let no = no_step c wrong p.0 in
    let same : next ≡ b = l.kept no in
    let rest = stays more (subst (λ (x : List ℕ). SoundBlock x → ⊥) (sym same) wrong) p.1 in
    (rest.0 ∙ same, also (l.refused no) rest.1)

-- ---- an Open begins a run on any block of the right length
opens : {b last : List ℕ} {cs : List Call} {rs : List Reply} {r : Reply} {shares : List ℕ} → Made b (Open shares ∷ cs) (r ∷ rs) last → length b ≡ 2_176 → IsRun (opened shares) cs rs last
opens {shares = shares} (called c r l more) whole =
    let h : Anew (open_of shares) _ (open_of shares) = record { whole = whole; outcome = refl } in
    runs more (opened shares) (l.sound (open_of shares) h) (l.block (open_of shares) h)

of-stretch : (s : Stretch) → OfStretch s
of-stretch s = record {
  sound = λ t z e. runs s.made (from t) z e;
  opened = λ shares cs r rs whole e f. opens (subst (λ (l : List Reply). Made s.first (Open shares ∷ cs) l s.last) f (subst (λ (l : List Call). Made s.first l s.replies s.last) e s.made)) whole;
  block-kept = λ wrong z. (stays s.made wrong z).0;
  refused = λ wrong z. (stays s.made wrong z).1;
}

pub every-stretch : EveryStretch
every-stretch [] = none
every-stretch (s ∷ h) = also (of-stretch s) (every-stretch h)
