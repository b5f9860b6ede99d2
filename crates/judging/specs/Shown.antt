-- What is seen of what a formula is judged by.
use Rattle.std.specs.Prelude.{ℕ}
use Rattle.judging.specs.declared.readings.Seen.{Seen}
use Rattle.judging.specs.declared.sides.Side.{Side}
use Rattle.judging.specs.Judging.{seen}
use Rattle.judging.specs.Truth.{View}

-- side is what a reading shows of the clocks
abbrev pub shown_by : {R : Type 0} → (R → ℕ → ℕ → Side) → Seen R → View
shown_by side s = seen s.values.now s.next.now (side s.reading.now)
