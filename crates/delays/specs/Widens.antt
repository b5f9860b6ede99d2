-- What is promised of widening.
use Rattle.std.specs.Prelude.{◌≡◌, ℕ, ◌<◌, ◌≤◌, List, map, reverse, length}
use Rattle.kinds.specs.declared.steps.Step.{Step}
use Rattle.kinds.specs.Steps.{delay_of, redelayed}
use Rattle.delays.specs.Pace.{widened, fitting}

-- steps before, parts of a unit, steps after; of steps the newest is last
pub record Widens (ps : List Step) (D : ℕ) (qs : List Step) : Type 0 where
  pub short : length ps ≤ 65535 → qs ≡ redelayed ps (reverse (map fitting (widened D 0 (reverse (map delay_of ps)))))
  pub long : 65535 < length ps → qs ≡ ps
