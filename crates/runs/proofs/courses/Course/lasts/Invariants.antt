use Rattle.std.proofs.Common.{◌≡◌, length}
use Rattle.runs.specs.Instants.{Room}
use Rattle.runs.proofs.Lasting.{Lasts}
use Rattle.runs.proofs.courses.Course.lasts.Given as goal

abbrev pub invariant-events : goal.invariant-events
invariant-events l =
    (length l.clocks ≡ 4)
    × Room l.delay l.clocks
    × (Lasts l.self l.values l.clocks l.delay → Lasts l.self l.values l.initial.clocks l.initial.delay)
    × (Lasts l.self l.values l.initial.clocks l.initial.delay → Lasts l.self l.values l.clocks l.delay)

abbrev pub decreases-events : goal.decreases-events
decreases-events l = l.delay
