-- The steps behind are as widened, the others as on entry, and `before` is what those behind add up to.
use Rattle.std.proofs.Common.{◌≡◌, ◌+◌, ◌*◌, ◌≤◌, length, take, drop}
use Rattle.delays.proofs.Stretching.{total, wide}
use Rattle.delays.proofs.widening.widen.Given as goal

abbrev pub invariant-steps : goal.invariant-steps
invariant-steps l =
    (l.before ≡ total (drop l.i l.initial.steps))
    × (l.before + l.i * 4294967296 ≤ length l.initial.steps * 4294967296)
    × (take l.i l.steps ≡ take l.i l.initial.steps)
    × (drop l.i l.steps ≡ wide l.parts (drop l.i l.initial.steps))
