-- The section of a record that has the formula of a role.
use Rattle.instruction.specs.declared.sections.Section.{Section}
use Rattle.instruction.specs.declared.sections.Section.TheVariants as S
use Rattle.model.specs.declared.layout.Role.{Role}
use Rattle.model.specs.declared.layout.Role.TheVariants.{Reset, Start, Invariant, Transition, Urgent}

abbrev pub section_of : Role → Section
section_of (Reset c) = S.Clocks
section_of Start = S.Start
section_of Invariant = S.Invariant
section_of Transition = S.Transition
section_of Urgent = S.Urgent
