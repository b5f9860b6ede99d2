-- Of the numbers and the values that are left: the room for numbers, whether the values are in range, and the number
-- that they make of the number so far.
use Rattle.std.proofs.Common.{◌≡◌, ◌+◌, ◌*◌, ◌≤◌, true, length}
use Rattle.instruction.specs.Counts.{value_counts}
use Rattle.instruction.specs.Sizes.{product, ranged}
use Rattle.valuations.specs.Radix.{number, within}
use Rattle.valuations.proofs.number.Given as goal

abbrev pub invariant-variables : goal.invariant-variables
invariant-variables l =
    (ranged l.n-iterator.a.rest.now ≡ true)
    × (length l.n-iterator.a.rest.now ≤ length l.n-iterator.b.rest.now)
    × ((l.number + 1) * product l.n-iterator.a.rest.now ≤ product (value_counts l.sizes))
    × (within l.n-iterator.a.rest.now l.n-iterator.b.rest.now ≡ within (value_counts l.sizes) l.fn.values)
    × (l.number * product l.n-iterator.a.rest.now + number l.n-iterator.a.rest.now l.n-iterator.b.rest.now ≡ number (value_counts l.sizes) l.fn.values)
