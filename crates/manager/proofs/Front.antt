-- Pick, by its three ways out: the front is promoted, the front runs already, there is no front.
use Prim.Native.Nat.{◌≤◌, ◌<◌}
use mathlib.Core.Path.{◌≡◌, refl, ap, subst, ◌∙◌}
use mathlib.Core.Bool.{true, false}
use mathlib.Core.List.{List, [], ◌∷◌}
use native.Mathlib.Nat.{not-suc-le-zero}
use native.Mathlib.Omega.{arith}
use lib.ListN.{length, get_or, set}
use Rattle.rules.specs.declared.Answer.TheVariants.{Nothing}
use Rattle.rules.specs.Request.{Request, nobody, promoted, is_blocked}
use Rattle.rules.specs.Scan.{End, found, nothing}
use Rattle.rules.specs.Calls.{named, pick_end, found-table, pick_of}
use Rattle.rules.specs.Sound.{SoundTable}
use Rattle.rules.proofs.Sound.{pick-keeps}
use Rattle.entry.specs.declared.Entry.{Entry}
use Rattle.entry.specs.Entry.{blank, request, Stands}
use Rattle.queue.proofs.Views.{requests-length, request-at}
use Rattle.manager.specs.declared.Said.{Said}
use Rattle.manager.specs.declared.State.{State}
use Rattle.manager.specs.State.{view, Sound, Did}
use Rattle.manager.proofs.Views.{saying, still-becomes, did}
use Rattle.manager.proofs.Slots.{Slotted}
use Rattle.manager.proofs.Entries.{promoted-lists, makes-becomes, makes-named}

-- how Pick ends, by the front
end-promoted : (q : List Request) → 0 < length q → is_blocked (get_or q 0 nobody).mode ≡ true → pick_end q ≡ found 0
end-promoted [] lt h = absurd (not-suc-le-zero lt)
end-promoted (e ∷ q) lt h = rw h refl

end-runs : (q : List Request) → 0 < length q → is_blocked (get_or q 0 nobody).mode ≡ false → pick_end q ≡ nothing
end-runs [] lt h = absurd (not-suc-le-zero lt)
end-runs (e ∷ q) lt h = rw h refl

end_none : (q : List Request) → length q ≤ 0 → pick_end q ≡ nothing
end_none [] h = refl
end_none (e ∷ q) h = absurd (not-suc-le-zero h)

module _ {s : State} (h : Sound s) (k : Slotted s) where
  stays : pick_end (view s).queue ≡ nothing → Did (saying s (record { answer = Nothing; burnt = 0 })) (pick_of (view s))
  unfolding pick_of
  stays end = rw end (did h.table (still-becomes h.tied _) refl refl)

  pub front-none : s.count ≤ 0 → Did (saying s (record { answer = Nothing; burnt = 0 })) (pick_of (view s))
  front-none le =
      let none : length (view s).queue ≤ 0 = omega (arith, requests-length k.slots) in
      stays (end_none (view s).queue none)

  module _ (some : 0 < s.count) where
    there : 0 < length (view s).queue
    there = omega (arith, requests-length k.slots)

    front-mode : is_blocked (get_or (view s).queue 0 nobody).mode ≡ is_blocked (get_or s.entries 0 blank).mode
    front-mode = ap (λ (e : Request). is_blocked e.mode) (request-at k.slots some)

    pub front-promoted : is_blocked (get_or s.entries 0 blank).mode ≡ true → {p : Entry} → Stands (promoted (request (get_or s.entries 0 blank))) p → (said : Said) → said.answer ≡ named (request p) → said.burnt ≡ 0 → Did (record { cx = s.cx; cs = s.cs; maps = s.maps; meters = s.meters; count = s.count; entries = set s.entries 0 p; said = said }) (pick_of (view s))
    unfolding pick_of
    front-promoted b stands said says burnt =
        let end = end-promoted (view s).queue there (front-mode ∙ b) in
        rw end
        (did (subst (λ (e : End). SoundTable (found-table (view s) e)) end (pick-keeps h.table)) (makes-becomes h.tied k promoted promoted-lists some stands said) (says ∙ makes-named h.tied k promoted promoted-lists some stands) burnt)

    pub front-runs : is_blocked (get_or s.entries 0 blank).mode ≡ false → Did (saying s (record { answer = Nothing; burnt = 0 })) (pick_of (view s))
    front-runs b = stays (end-runs (view s).queue there (front-mode ∙ b))
