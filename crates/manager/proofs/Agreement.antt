-- "The map's verdict and the plain comparison must agree on every queue."
use mathlib.Core.Path.{sym, ap, ◌∙◌}
use mathlib.Core.List.{List}
use lib.ListN.{get_or, take}
use Rattle.rules.specs.Request.{Request, nobody}
use Rattle.rules.specs.Scan.{no_records, maps_over, clear_by}
use Rattle.rules.proofs.Verdicts.{maps-conflicts}
use Rattle.entry.specs.Entry.{request}
use Rattle.queue.specs.Queue.{requests}
use Rattle.maps.specs.declared.Maps.{Maps}
use Rattle.maps.specs.Maps.{maps_of}
use Rattle.manager.specs.Agreement.{Seen, VerdictsAgree}
use Rattle.manager.proofs.Walking.{SameMaps, clear-same, maps-more}

-- the arrays of words hold the records of the law book's maps
seen-maps : {q : List Request} {ahead : Maps} → Seen q ahead → SameMaps (maps_of ahead) (maps_over no_records q)
unfolding maps_over
seen-maps (Seen.none w r) = record { written = w.each; read = r.each }
seen-maps (Seen.more {q} e s g h) = maps-more q e (seen-maps s) g h

pub verdicts-agree : VerdictsAgree
verdicts-agree q at e ahead by-maps by-pairs place answers =
    answers.maps
    ∙ clear-same (seen-maps place.seen) (request e)
    ∙ ap (clear_by (maps_over no_records (take at (requests q)))) place.entry
    ∙ maps-conflicts (take at (requests q)) (get_or (requests q) at nobody)
    ∙ sym answers.pairs
