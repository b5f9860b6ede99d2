-- What is promised of an instruction that was read, and of one that was refused.
use Rattle.std.specs.Prelude.{◌≡◌, ℕ, ◌<◌, ◌≤◌, List, [], ◌∷◌, ◌++◌, length, drop, Ok, Err, Result, slice_index}
use Rattle.instruction.specs.declared.faults.Fault.{Fault}
use Rattle.instruction.specs.declared.instructions.Instruction.{Instruction}
use Rattle.instruction.specs.declared.instructions.Instruction.TheVariants.{Is, Becomes, Stays, Clock, Always, Not, And, Or}
use Rattle.instruction.specs.declared.sections.Section.{Section}
use Rattle.instruction.specs.Faults.{refusal}
use Rattle.instruction.specs.Marks.{mark, HasNext, HasClocks}
use Rattle.instruction.specs.Rules.{Breaks}
use Rattle.instruction.specs.Reader.{instruction, width}

-- the bytes of an instruction
abbrev pub spelled : Instruction → List ℕ
spelled (Is i k) = 118 ∷ i ∷ k ∷ []
spelled (Becomes i k) = 110 ∷ i ∷ k ∷ []
spelled (Stays i) = 115 ∷ i ∷ []
spelled (Clock o c j) = mark o ∷ c ∷ j ∷ []
spelled Always = 116 ∷ []
spelled Not = 33 ∷ []
spelled And = 38 ∷ []
spelled Or = 124 ∷ []

-- its operands are in range
abbrev pub Fit : List ℕ → ℕ → Section → Instruction → Type 0
Fit ns n s (Is i k) = (i < length ns) × (k < slice_index ns i)
Fit ns n s (Becomes i k) = HasNext s × (i < length ns) × (k < slice_index ns i)
Fit ns n s (Stays i) = HasNext s × (i < length ns)
Fit ns n s (Clock o c j) = HasClocks s × (c < n) × (j ≤ 250)
Fit ns n s Always = Unit {0}
Fit ns n s Not = Unit {0}
Fit ns n s And = Unit {0}
Fit ns n s Or = Unit {0}

pub record Reads (ns : List ℕ) (n : ℕ) (s : Section) (bs : List ℕ) (op : Instruction) : Type 0 where
  pub fit : Fit ns n s op
  pub bytes : bs ≡ spelled op ++ drop (width op) bs

-- an answer to the bytes, whose first has the position at
pub record Instructs (ns : List ℕ) (n : ℕ) (s : Section) (at : ℕ) (bs : List ℕ) (r : Result Instruction Fault) : Type 0 where
  pub answer : r ≡ instruction ns n s at bs
  -- what is read is what the bytes spell, and it fills at least one of them
  pub reads : (op : Instruction) → r ≡ Ok op → Reads ns n s bs op
  pub some : (op : Instruction) → r ≡ Ok op → (1 ≤ width op) × (width op ≤ length bs)
  -- what is refused breaks the rule of its fault, and none before it, however many values wait
  pub refused : (m : ℕ) (rest : List ℕ) (x : Fault) (w : ℕ) → bs ≡ m ∷ rest → r ≡ Err x → Breaks ns n s at w m rest (refusal x)
