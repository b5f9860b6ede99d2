-- What a refusal of a formula says: formulas that wait, and then a rule that is broken.
use Rattle.std.specs.Prelude.{◌≡◌, ℕ, ◌+◌, ◌-◌, ◌≤◌, List, [], ◌∷◌, ◌++◌, length, ◌≢◌}
use Rattle.instruction.specs.declared.sections.Section.{Section}
use Rattle.instruction.specs.declared.faults.Refusal.{Refusal}
use Rattle.instruction.specs.Faults.{told}
use Rattle.instruction.specs.Rules.{Breaks}
use Rattle.formula.specs.Formulas.{Formula, written, depth, Allowed}

-- the bytes that have made the formulas that wait, the last first
abbrev pub spell : List Formula → List ℕ
spell [] = []
spell (t ∷ ts) = spell ts ++ written t

-- formulas that may wait together
abbrev pub Held : List ℕ → ℕ → Section → List Formula → Type 0
Held ns n s [] = Unit {0}
Held ns n s (t ∷ ts) = Allowed s ns n t × (length ts + depth t ≤ 32) × Held ns n s ts

-- what is wrong with the bytes that are left, w values waiting; end is the position past the formula
pub data Stops (ns : List ℕ) (n : ℕ) (s : Section) (end w : ℕ) : List ℕ → Refusal → Type 0 where
  left_over : (w ≢ 1) → Stops ns n s end w [] (told 12 s end)
  breaks : (m : ℕ) (bs : List ℕ) (r : Refusal) → Breaks ns n s (end - length (m ∷ bs)) w m bs r → Stops ns n s end w (m ∷ bs) r

-- up to the fault the bytes are formulas that wait
pub record Refused (ns : List ℕ) (n : ℕ) (s : Section) (end : ℕ) (bs : List ℕ) (r : Refusal) : Type 0 where
  pub trees : List Formula
  pub held : Held ns n s trees
  pub rest : List ℕ
  pub bytes : bs ≡ spell trees ++ rest
  pub stop : Stops ns n s end (length trees) rest r
