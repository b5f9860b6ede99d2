-- The reset formulas that are cut off count on from those before; the record and its sizes stay the same.
use Rattle.std.proofs.Common.{◌≡◌, ◌-◌, [], length, take}
use Rattle.instruction.specs.Counts.{value_counts}
use Rattle.model.specs.Reading.{resetting}
use Rattle.model.proofs.sections.Left.resets.Given as goal

abbrev pub invariant-clocks : goal.invariant-clocks
invariant-clocks l =
    (length l.span-items ≡ l.self.sizes.now.clocks)
    × (l.left.end ≡ l.self.end)
    × (l.left.sizes ≡ l.self.sizes)
    × (resetting (value_counts l.self.sizes.now) l.self.sizes.now.clocks l.self.end (l.self.sizes.now.clocks - l.span-index) (take l.span-index l.span-items) l.left.bytes.now
    ≡ resetting (value_counts l.self.sizes.now) l.self.sizes.now.clocks l.self.end l.self.sizes.now.clocks [] l.self.bytes.now)
