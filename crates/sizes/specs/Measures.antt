-- What the sizes that are read hold, as lists.
use Rattle.std.specs.Prelude.{ℕ, List, Ok, Err, Result}
use Rattle.std.specs.Borrow.{Bor}
use Rattle.instruction.specs.declared.faults.Fault.{Fault}
use Rattle.instruction.specs.declared.sizes.Sizes.{Sizes}
use Rattle.instruction.specs.Counts.{value_counts}

abbrev pub declared : Result (Bor (List ℕ)) Fault → Result (List ℕ) Fault
declared (Ok ns) = Ok ns.now
declared (Err x) = Err x

abbrev pub measures : Result Sizes Fault → Result (List ℕ × ℕ) Fault
measures (Ok z) = Ok (value_counts z, z.clocks)
measures (Err x) = Err x
