-- The marks of clock comparisons, and which sections speak of what.
use Rattle.std.specs.Prelude.{◌≡◌, ℕ, Bool, true, false}
use Rattle.instruction.specs.declared.instructions.Compare.{Compare}
use Rattle.instruction.specs.declared.instructions.Compare.TheVariants.{Less, AtMost, Exactly, AtLeast, More}
use Rattle.instruction.specs.declared.sections.Section.{Section}
use Rattle.instruction.specs.declared.sections.Section.TheVariants.{Variables, Clocks, Start, Invariant, Transition, Urgent, Question}

-- the marks <, l, =, g, >
abbrev pub mark : Compare → ℕ
mark Less = 60
mark AtMost = 108
mark Exactly = 61
mark AtLeast = 103
mark More = 62

-- which sections speak of next values, and which of clocks
abbrev pub next_allowed : Section → Bool
next_allowed Variables = false
next_allowed Clocks = true
next_allowed Start = false
next_allowed Invariant = false
next_allowed Transition = true
next_allowed Urgent = false
next_allowed Question = false

abbrev pub clocks_allowed : Section → Bool
clocks_allowed Variables = false
clocks_allowed Clocks = true
clocks_allowed Start = false
clocks_allowed Invariant = true
clocks_allowed Transition = true
clocks_allowed Urgent = false
clocks_allowed Question = false

abbrev pub HasNext : Section → Type 0
HasNext s = next_allowed s ≡ true

abbrev pub HasClocks : Section → Type 0
HasClocks s = clocks_allowed s ≡ true
