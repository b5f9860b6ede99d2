-- What is left of the bytes is judged with what waits as all of them are on entry.
use Rattle.std.proofs.Common.{◌≡◌}
use Rattle.instruction.specs.Counts.{value_counts}
use Rattle.instruction.specs.declared.sections.Section.TheVariants.{Transition}
use Rattle.judging.specs.Truth.{View}
use Rattle.judging.specs.Judging.{judged, seen}
use Rattle.judging.proofs.judgement.judge.Given as goal

abbrev pub invariant-instructions : goal.invariant-instructions
invariant-instructions g l =
    let v : View = seen l.shown.values.now l.shown.next.now (g.R.Reading.side l.shown.reading.now) in
    (goal.iterator-instructions g).can_next l.found-iterator
    × (goal.iterator-instructions g).is_finite l.found-iterator
    × (l.found-iterator.end ≡ 0)
    × (l.found-iterator.sizes.now ≡ l.sizes)
    × (l.found-iterator.section ≡ Transition)
    × (judged (value_counts l.sizes) l.sizes.clocks v 0 l.stack l.found-iterator.rest.now ≡ judged (value_counts l.sizes) l.sizes.clocks v 0 0 l.code)
