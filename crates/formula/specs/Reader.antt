-- Reading a formula from the left: the first fault counts.
use Rattle.std.specs.Prelude.{◌≡◌, ℕ, ◌-◌, cond, List, [], ◌∷◌, length, Ok, Err, Result, ◌==◌}
use Rattle.instruction.specs.declared.faults.Fault.{Fault}
use Rattle.instruction.specs.declared.faults.Fault.TheVariants.{Waiting}
use Rattle.instruction.specs.declared.sections.Section.{Section}
use Rattle.instruction.specs.Faults.{refusal}
use Rattle.instruction.specs.Reader.{and_then, instruction, width, waits}
use Rattle.formula.specs.Formulas.{Formula, Writes}
use Rattle.formula.specs.Rules.{Refused}

-- the instructions from the left, where the first k bytes are passed over and w values wait; end is
-- the position past the formula
unfoldable pub walk : List ℕ → ℕ → Section → ℕ → ℕ → ℕ → List ℕ → Result (Unit {0}) Fault
walk ns n s end k w [] = cond (w == 1) (Ok tt) (Err (Waiting s end))
walk ns n s end (ℕ.suc k) w (b ∷ bs) = walk ns n s end k w bs
walk ns n s end ℕ.zero w (b ∷ bs) =
    and_then (instruction ns n s (end - length (b ∷ bs)) (b ∷ bs)) (λ op.
    and_then (waits op s (end - length (b ∷ bs)) w) (λ v. walk ns n s end (width op - 1) v bs))

-- what an answer says of the bytes
pub record Accepts (ns : List ℕ) (n : ℕ) (s : Section) (end : ℕ) (bs : List ℕ) (r : Result (Unit {0}) Fault) : Type 0 where
  pub answer : r ≡ walk ns n s end 0 0 bs
  pub accepts : (f : Formula) → Writes ns n s bs f → r ≡ Ok tt
  pub accepted : r ≡ Ok tt → (f : Formula) × Writes ns n s bs f
  pub refused : (x : Fault) → r ≡ Err x → Refused ns n s end bs (refusal x)
  pub unique : (f g : Formula) → Writes ns n s bs f → Writes ns n s bs g → f ≡ g
