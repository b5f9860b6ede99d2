-- The number, the section and the position of every fault.
use Rattle.std.specs.Prelude.{ℕ}
use Rattle.instruction.specs.declared.sections.Section.{Section}
use Rattle.instruction.specs.declared.sections.Section.TheVariants.{Variables, Clocks, Start, Invariant, Transition, Urgent, Question}
use Rattle.instruction.specs.declared.faults.Fault.{Fault}
use Rattle.instruction.specs.declared.faults.Fault.TheVariants.{Ended, TooManyVariables, ValueCount, Product, TooManyClocks, TooLong, UnknownMark, Barred, CutShort, Undeclared, OutOfRange, Waiting, Trailing, RunNumbers}
use Rattle.instruction.specs.declared.faults.Refusal.{Refusal}

abbrev pub section_number : Section → ℕ
section_number Variables = 1
section_number Clocks = 2
section_number Start = 3
section_number Invariant = 4
section_number Transition = 5
section_number Urgent = 6
section_number Question = 7

abbrev pub told : ℕ → Section → ℕ → Refusal
told k s p = record { number = k; section = section_number s; position = p }

abbrev pub refusal : Fault → Refusal
refusal (Ended s p) = told 1 s p
refusal TooManyVariables = told 2 Variables 0
refusal (ValueCount p) = told 3 Variables p
refusal (Product p) = told 4 Variables p
refusal (TooManyClocks p) = told 5 Clocks p
refusal (TooLong s p) = told 6 s p
refusal (UnknownMark s p) = told 7 s p
refusal (Barred s p) = told 8 s p
refusal (CutShort s p) = told 9 s p
refusal (Undeclared s p) = told 10 s p
refusal (OutOfRange s p) = told 11 s p
refusal (Waiting s p) = told 12 s p
refusal (Trailing p) = told 13 Urgent p
refusal (RunNumbers p) = record { number = 18; section = 0; position = p }
