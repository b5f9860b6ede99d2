-- The numbers of values that a record declares, as a list.
use Rattle.std.specs.Prelude.{ℕ, List, take}
use Rattle.instruction.specs.declared.sizes.Sizes.{Sizes}

abbrev pub value_counts : Sizes → List ℕ
value_counts z = take z.variables z.counts
