-- What is left of the bytes is read as they were on entry, and so has the same answer.
use Rattle.std.proofs.Common.{◌≡◌}
use Rattle.instruction.specs.Counts.{value_counts}
use Rattle.instruction.specs.declared.sections.Section.TheVariants.{Transition}
use Rattle.formula.specs.Heights.{scanned}
use Rattle.formula.proofs.heights.highest.Given as goal

abbrev pub invariant-instructions : goal.invariant-instructions
invariant-instructions l =
    goal.iterator-instructions.can_next l.found-iterator
    × goal.iterator-instructions.is_finite l.found-iterator
    × (l.found-iterator.end ≡ 0)
    × (l.found-iterator.sizes.now ≡ l.sizes)
    × (l.found-iterator.section ≡ Transition)
    × (scanned (value_counts l.sizes) l.sizes.clocks l.clock 0 l.height l.found-iterator.rest.now
    ≡ scanned (value_counts l.sizes) l.sizes.clocks l.clock 0 0 l.code)
