use Rattle.std.proofs.Common.{ℕ, ◌<◌, ◌≤◌, get_or}
use Rattle.runs.proofs.waits.soonest.Given as goal

abbrev pub invariant-waits : goal.invariant-waits
invariant-waits l = (1 ≤ l.least) × ((i : ℕ) → i < l.wait-index → l.least ≤ get_or l.wait-items i 0)
