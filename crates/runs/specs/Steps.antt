-- What one step of the check says of a state.
use Rattle.std.specs.Prelude.{◌≡◌, ℕ, Some, None, Option}
use Rattle.runs.specs.declared.reached.Reached.{Reached}
use Rattle.kinds.specs.declared.steps.Step.{Step}
use Rattle.tables.specs.Tables.{Table}
use Rattle.runs.specs.Runs.{State, OneStep}

abbrev pub state_of : Reached → State
state_of a = record { valuation = a.valuation; clocks = a.clocks }

-- the state after a step, or that the step cannot be taken
pub record Next (T : Table) (D : ℕ) (s : State) (p : Step) (r : Option Reached) : Type 0 where
  pub taken : (a : Reached) → r ≡ Some a → OneStep T D s p (state_of a)
  pub stuck : r ≡ None → (t : State) → OneStep T D s p t → ⊥
