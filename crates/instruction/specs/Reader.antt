-- Reading one instruction: the first rule that is broken counts.
use Rattle.std.specs.Prelude.{ℕ, ◌+◌, ◌-◌, cond, List, [], ◌∷◌, length, Some, None, Option, Ok, Err, Result, ◌==◌, nat_le, nat_lt, slice_index}
use Rattle.instruction.specs.declared.faults.Fault.{Fault}
use Rattle.instruction.specs.declared.faults.Fault.TheVariants.{UnknownMark, Barred, CutShort, Undeclared, OutOfRange, Waiting}
use Rattle.instruction.specs.declared.instructions.Compare.{Compare}
use Rattle.instruction.specs.declared.instructions.Compare.TheVariants.{Less, AtMost, Exactly, AtLeast, More}
use Rattle.instruction.specs.declared.instructions.Instruction.{Instruction}
use Rattle.instruction.specs.declared.instructions.Instruction.TheVariants.{Is, Becomes, Stays, Clock, Always, Not, And, Or}
use Rattle.instruction.specs.declared.sections.Section.{Section}
use Rattle.instruction.specs.Marks.{next_allowed, clocks_allowed}

-- what `?` does
abbrev pub and_then : {A B : Type 0} → Result A Fault → (A → Result B Fault) → Result B Fault
and_then (Ok x) f = f x
and_then (Err e) f = Err e

-- two operands behind the mark
abbrev pub operands : Section → ℕ → List ℕ → Result (ℕ × ℕ) Fault
operands s at [] = Err (CutShort s at)
operands s at (m ∷ []) = Err (CutShort s at)
operands s at (m ∷ x ∷ []) = Err (CutShort s at)
operands s at (m ∷ x ∷ y ∷ rest) = Ok (x, y)

-- the first is declared, if it has a bound, and the second is below it
abbrev pub bounded : Section → ℕ → ℕ → ℕ → Option ℕ → Result (ℕ × ℕ) Fault
bounded s at x y None = Err (Undeclared s (at + 1))
bounded s at x y (Some n) = cond (nat_lt y n) (Ok (x, y)) (Err (OutOfRange s (at + 2)))

-- a variable and one of its values, behind the mark
abbrev pub pair : List ℕ → Section → ℕ → List ℕ → Result (ℕ × ℕ) Fault
pair ns s at [] = Err (CutShort s at)
pair ns s at (m ∷ []) = Err (CutShort s at)
pair ns s at (m ∷ i ∷ []) = Err (CutShort s at)
pair ns s at (m ∷ i ∷ k ∷ rest) = cond (nat_lt i (length ns)) (cond (nat_lt k (slice_index ns i)) (Ok (i, k)) (Err (OutOfRange s (at + 2)))) (Err (Undeclared s (at + 1)))

-- a variable
abbrev pub single : List ℕ → Section → ℕ → List ℕ → Result ℕ Fault
single ns s at [] = Err (CutShort s at)
single ns s at (m ∷ []) = Err (CutShort s at)
single ns s at (m ∷ i ∷ rest) = cond (nat_lt i (length ns)) (Ok i) (Err (Undeclared s (at + 1)))

-- a clock and a constant
abbrev pub clocked : ℕ → Section → ℕ → List ℕ → Result (ℕ × ℕ) Fault
clocked n s at [] = Err (CutShort s at)
clocked n s at (m ∷ []) = Err (CutShort s at)
clocked n s at (m ∷ c ∷ []) = Err (CutShort s at)
clocked n s at (m ∷ c ∷ j ∷ rest) = cond (nat_lt c n) (cond (nat_le j 250) (Ok (c, j)) (Err (OutOfRange s (at + 2)))) (Err (Undeclared s (at + 1)))

abbrev pub next_part : Section → ℕ → Result (Unit {0}) Fault
next_part s at = cond (next_allowed s) (Ok tt) (Err (Barred s at))

abbrev pub clock_part : Section → ℕ → Result (Unit {0}) Fault
clock_part s at = cond (clocks_allowed s) (Ok tt) (Err (Barred s at))

abbrev pub comparison : Compare → ℕ → Section → ℕ → List ℕ → Result Instruction Fault
comparison o n s at bs = and_then (clock_part s at) (λ _. and_then (clocked n s at bs) (λ p. Ok (Clock o p.0 p.1)))

abbrev pub is_part : List ℕ → Section → ℕ → List ℕ → Result Instruction Fault
is_part ns s at bs = and_then (pair ns s at bs) (λ p. Ok (Is p.0 p.1))

abbrev pub becomes_part : List ℕ → Section → ℕ → List ℕ → Result Instruction Fault
becomes_part ns s at bs = and_then (next_part s at) (λ _. and_then (pair ns s at bs) (λ p. Ok (Becomes p.0 p.1)))

abbrev pub stays_part : List ℕ → Section → ℕ → List ℕ → Result Instruction Fault
stays_part ns s at bs = and_then (next_part s at) (λ _. and_then (single ns s at bs) (λ i. Ok (Stays i)))

-- the instruction that begins with the mark m
abbrev pub marked : ℕ → List ℕ → ℕ → Section → ℕ → List ℕ → Result Instruction Fault
marked m ns n s at bs =
    cond (m == 118) (is_part ns s at bs)
    (cond (m == 110) (becomes_part ns s at bs)
    (cond (m == 115) (stays_part ns s at bs)
    (cond (m == 60) (comparison Less n s at bs)
    (cond (m == 108) (comparison AtMost n s at bs)
    (cond (m == 61) (comparison Exactly n s at bs)
    (cond (m == 103) (comparison AtLeast n s at bs)
    (cond (m == 62) (comparison More n s at bs)
    (cond (m == 116) (Ok Always)
    (cond (m == 33) (Ok Not)
    (cond (m == 38) (Ok And)
    (cond (m == 124) (Ok Or)
    (Err (UnknownMark s at)))))))))))))

-- the instruction at the front of the bytes, whose first has the position at
abbrev pub instruction : List ℕ → ℕ → Section → ℕ → List ℕ → Result Instruction Fault
instruction ns n s at [] = Err (CutShort s at)
instruction ns n s at (m ∷ bs) = marked m ns n s at (m ∷ bs)

abbrev pub width : Instruction → ℕ
width (Is i k) = 3
width (Becomes i k) = 3
width (Stays i) = 2
width (Clock o c j) = 3
width Always = 1
width Not = 1
width And = 1
width Or = 1

-- one value more, as long as 32 do not wait already
abbrev pub one_more : Section → ℕ → ℕ → Result ℕ Fault
one_more s at w = cond (nat_lt w 32) (Ok (w + 1)) (Err (Waiting s at))

-- how many values wait after an instruction
abbrev pub waits : Instruction → Section → ℕ → ℕ → Result ℕ Fault
waits (Is i k) s at w = one_more s at w
waits (Becomes i k) s at w = one_more s at w
waits (Stays i) s at w = one_more s at w
waits (Clock o c j) s at w = one_more s at w
waits Always s at w = one_more s at w
waits Not s at w = cond (nat_le 1 w) (Ok w) (Err (Waiting s at))
waits And s at w = cond (nat_le 2 w) (Ok (w - 1)) (Err (Waiting s at))
waits Or s at w = cond (nat_le 2 w) (Ok (w - 1)) (Err (Waiting s at))
