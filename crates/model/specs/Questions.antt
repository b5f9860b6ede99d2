-- What is promised of an answer to a question.
use Rattle.std.specs.Prelude.{◌≡◌, ℕ, ◌<◌, ◌≤◌, cond, ◌⊎◌, List, length, Ok, Err, Result, nat_le}
use Rattle.instruction.specs.declared.faults.Fault.{Fault}
use Rattle.instruction.specs.declared.faults.Fault.TheVariants.{TooLong}
use Rattle.instruction.specs.declared.sections.Section.TheVariants.{Question}
use Rattle.instruction.specs.Faults.{refusal, told}
use Rattle.formula.specs.Formulas.{Formula, Writes}
use Rattle.formula.specs.Reader.{walk}
use Rattle.formula.specs.Rules.{Refused}

abbrev pub questioning : List ℕ → ℕ → List ℕ → Result (Unit {0}) Fault
questioning ns n bs = cond (nat_le (length bs) 2000) (walk ns n Question (length bs) 0 0 bs) (Err (TooLong Question 0))

pub record Asks (ns : List ℕ) (n : ℕ) (bs : List ℕ) (r : Result (Unit {0}) Fault) : Type 0 where
  -- first fault from the left
  pub answer : r ≡ questioning ns n bs
  -- accepted exactly when it is the writing of a formula that may stand in section 7
  pub accepts : (f : Formula) → Writes ns n Question bs f → length bs ≤ 2000 → r ≡ Ok tt
  pub accepted : r ≡ Ok tt → (f : Formula) × Writes ns n Question bs f × (length bs ≤ 2000)
  pub unique : (f g : Formula) → Writes ns n Question bs f → Writes ns n Question bs g → f ≡ g
  -- a refusal names a rule that is broken, behind formulas that wait
  pub refused : (x : Fault) → r ≡ Err x → ((2000 < length bs) × (refusal x ≡ told 6 Question 0)) ⊎ ((length bs ≤ 2000) × Refused ns n Question (length bs) bs (refusal x))
