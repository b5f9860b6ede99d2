-- The values behind the numbers that are left are set, and what is left of the number has the other values.
use Rattle.std.proofs.Common.{◌≡◌, ◌-◌, ◌/◌, ◌++◌, length, drop, replicate}
use Rattle.instruction.specs.Counts.{value_counts}
use Rattle.instruction.specs.Sizes.{product}
use Rattle.valuations.specs.Radix.{digits}
use Rattle.valuations.proofs.values.Given as goal

abbrev pub invariant-variables : goal.invariant-variables
invariant-variables l =
    (l.i-iterator.iter.count ≡ 0)
    × (l.i-iterator.iter.iter.rest.now ++ drop (length l.i-iterator.iter.iter.rest.now) (value_counts l.sizes) ≡ value_counts l.sizes)
    × (length l.values ≡ 8)
    × (l.left ≡ l.valuation / product (drop (length l.i-iterator.iter.iter.rest.now) (value_counts l.sizes)))
    × (drop (length l.i-iterator.iter.iter.rest.now) l.values ≡ digits (drop (length l.i-iterator.iter.iter.rest.now) (value_counts l.sizes)) l.valuation ++ replicate (8 - length (value_counts l.sizes)) 0)
