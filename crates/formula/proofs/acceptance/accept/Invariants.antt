-- What is left of the bytes is read as they were on entry, and so has the same answer.
use Rattle.std.proofs.Common.{◌≡◌}
use Rattle.instruction.specs.Counts.{value_counts}
use Rattle.formula.specs.Reader.{walk}
use Rattle.formula.proofs.acceptance.accept.Given as goal

abbrev pub invariant-instructions : goal.invariant-instructions
invariant-instructions l =
    goal.iterator-instructions.can_next l.found-iterator
    × goal.iterator-instructions.is_finite l.found-iterator
    × (l.found-iterator.end ≡ l.end)
    × (l.found-iterator.sizes.now ≡ l.sizes)
    × (l.found-iterator.section ≡ l.section)
    × (walk (value_counts l.sizes) l.sizes.clocks l.section l.end 0 l.waiting l.found-iterator.rest.now
    ≡ walk (value_counts l.sizes) l.sizes.clocks l.section l.end 0 0 l.code)
