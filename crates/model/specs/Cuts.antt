-- What a cut holds: where formulas lie, and what stands behind them.
use Rattle.std.specs.Prelude.{◌≡◌, ℕ, List, [], take, Ok, Err, Result}
use Rattle.instruction.specs.declared.faults.Fault.{Fault}
use Rattle.instruction.specs.declared.sections.Section.{Section}
use Rattle.instruction.specs.Counts.{value_counts}
use Rattle.model.specs.declared.layout.Span.{Span}
use Rattle.model.specs.declared.sections.Left.{Left}
use Rattle.model.specs.Reading.{Layout, cut, resetting, sections}

-- what reading makes of what is left: the formula at the front, the reset formulas, and all
abbrev pub due : Left → Section → Result (Span × List ℕ) Fault
due l s = cut (value_counts l.sizes.now) l.sizes.now.clocks l.end s l.bytes.now

abbrev pub resets_due : Left → Result (List Span × List ℕ) Fault
resets_due l = resetting (value_counts l.sizes.now) l.sizes.now.clocks l.end l.sizes.now.clocks [] l.bytes.now

abbrev pub all_due : Left → Result Layout Fault
all_due l = sections (value_counts l.sizes.now) l.sizes.now.clocks l.end l.bytes.now

-- what is left later of the same record
abbrev pub IsLater : Left → Left → Type 0
IsLater l k = (k.end ≡ l.end) × (k.sizes ≡ l.sizes)

-- the same as the code has them; of the places in an array the first n count
abbrev pub cuts : Result (Span × Left) Fault → Result (Span × List ℕ) Fault
cuts (Ok c) = Ok (c.0, c.1.bytes.now)
cuts (Err x) = Err x

abbrev pub gathered : ℕ → Result (List Span × Left) Fault → Result (List Span × List ℕ) Fault
gathered n (Ok g) = Ok (take n g.0, g.1.bytes.now)
gathered n (Err x) = Err x
