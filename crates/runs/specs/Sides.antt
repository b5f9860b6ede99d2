-- The law of readings for numbers of parts.
use Rattle.std.proofs.Common.{ℕ, ◌*◌, ◌<◌, ◌≤◌, slice_index, mul-le-mul_right, mul-lt-mul_of_pos_right, arith}
use Rattle.std.proofs.lemmas.Bool.Decides.{nat_tests}
use Rattle.judging.specs.Truth.{compared, Ordered}
use Rattle.runs.specs.declared.moments.Moment.{Moment}

pub ordered : (D : ℕ) (x : ℕ → ℕ) → 1 ≤ D → Ordered (λ c j. compared (x c) (j * D))
ordered D x h =
    record {
      below = λ c j k e l. let m : j * D ≤ k * D = mul-le-mul_right D l in grind (arith, nat_tests);
      above = λ c j k e l. let m : k * D ≤ j * D = mul-le-mul_right D l in grind (arith, nat_tests);
      at_below = λ c j k e l. let m : j * D < k * D = mul-lt-mul_of_pos_right l h in grind (arith, nat_tests);
      at_above = λ c j k e l. let m : k * D < j * D = mul-lt-mul_of_pos_right l h in grind (arith, nat_tests);
    }

pub moment_ordered : (s : Moment) → Ordered (λ c j. compared (slice_index s.clocks c) (j * s.unit))
moment_ordered s = ordered s.unit (λ c. slice_index s.clocks c) s.some
