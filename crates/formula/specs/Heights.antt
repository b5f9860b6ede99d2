-- The largest constant that a clock is compared with.
use Rattle.std.specs.Prelude.{◌≡◌, ℕ, ◌-◌, max, cond, List, [], ◌∷◌, Ok, Err, Result, ◌==◌}
use Rattle.instruction.specs.declared.faults.Fault.{Fault}
use Rattle.instruction.specs.declared.instructions.Instruction.{Instruction}
use Rattle.instruction.specs.declared.instructions.Instruction.TheVariants.{Is, Becomes, Stays, Clock, Always, Not, And, Or}
use Rattle.instruction.specs.declared.sections.Section.{Section}
use Rattle.instruction.specs.declared.sections.Section.TheVariants.{Transition}
use Rattle.formula.specs.Formulas.{Formula, is, becomes, stays, clock, always, not, and, or, Writes}
use Rattle.instruction.specs.Reader.{instruction, width}

-- the largest constant that clock c is compared with in a formula, or 0
unfoldable pub height : ℕ → Formula → ℕ
height c (is i k) = 0
height c (becomes i k) = 0
height c (stays i) = 0
height c (clock o d j) = cond (d == c) j 0
height c always = 0
height c (not f) = height c f
height c (and f g) = max (height c f) (height c g)
height c (or f g) = max (height c f) (height c g)

-- the same of one instruction
abbrev pub constant_of : ℕ → Instruction → ℕ
constant_of c (Is i k) = 0
constant_of c (Becomes i k) = 0
constant_of c (Stays i) = 0
constant_of c (Clock o d j) = cond (d == c) j 0
constant_of c Always = 0
constant_of c Not = 0
constant_of c And = 0
constant_of c Or = 0

abbrev pub or_else : ℕ → Result Instruction Fault → (Instruction → ℕ) → ℕ
or_else h (Ok op) f = f op
or_else h (Err x) f = h

-- the instructions from the left up to the first that is none, where the first k bytes are passed
-- over and h is the largest constant so far
unfoldable pub scanned : List ℕ → ℕ → ℕ → ℕ → ℕ → List ℕ → ℕ
scanned ns n c k h [] = h
scanned ns n c (ℕ.suc k) h (b ∷ bs) = scanned ns n c k h bs
scanned ns n c ℕ.zero h (b ∷ bs) =
    or_else h (instruction ns n Transition 0 (b ∷ bs)) (λ op. scanned ns n c (width op - 1) (max h (constant_of c op)) bs)

-- what an answer says of the bytes
pub record Heights (ns : List ℕ) (n : ℕ) (c : ℕ) (bs : List ℕ) (r : ℕ) : Type 0 where
  pub answer : r ≡ scanned ns n c 0 0 bs
  pub means : (s : Section) (f : Formula) → Writes ns n s bs f → r ≡ height c f
