-- What is promised of the run check.
use Rattle.std.specs.Prelude.{◌≡◌, ℕ, ◌+◌, Bool, cond, ◌&&◌, ◌||◌, List, [], ◌∷◌, length, Ok, Err, Result, ◌==◌, nat_le, nat_lt}
use Rattle.instruction.specs.declared.faults.Fault.{Fault}
use Rattle.instruction.specs.declared.faults.Fault.TheVariants.{RunNumbers}
use Rattle.instruction.specs.declared.sections.Section.TheVariants.{Question}
use Rattle.instruction.specs.Counts.{value_counts}
use Rattle.instruction.specs.Reader.{and_then}
use Rattle.instruction.specs.Sizes.{product}
use Rattle.formula.specs.Formulas.{Formula, Writes}
use Rattle.judging.specs.Truth.{View, holds}
use Rattle.model.specs.declared.layout.Model.{Model}
use Rattle.model.specs.Questions.{questioning}
use Rattle.model.specs.Reading.{layout}
use Rattle.model.specs.Promise.{laid}
use Rattle.model.specs.Systems.{System, Sound, Records}
use Rattle.kinds.specs.declared.steps.Step.{Step}
use Rattle.runs.specs.Instants.{Tells}
use Rattle.runs.specs.Runs.{Reaches}
use Rattle.tables.specs.Tables.{table_of, table_in, asked}

-- a step's kind is known, a discrete one has no delay, and its valuation is below S
abbrev pub fine : ℕ → Step → Bool
fine S p = (p.kind == 0 || (p.kind == 1 && p.delay == 0)) && nat_lt p.valuation S

-- the first step that is not, the first of them having the index i
unfoldable pub stepping : ℕ → ℕ → List Step → Result (Unit {0}) Fault
stepping S i [] = Ok tt
stepping S i (p ∷ ps) = cond (fine S p) (stepping S (i + 1) ps) (Err (RunNumbers i))

-- the denominator is from 1 to 65,535, the start valuation below S, and the steps are at most 65,535
abbrev pub numbered : ℕ → ℕ → ℕ → List Step → Bool
numbered S v D steps = ((nat_le 1 D && nat_le D 65535) && nat_lt v S) && nat_le (length steps) 65535

-- what is refused: the question first, then the numbers, then the steps from the left
abbrev pub admitting : List ℕ → ℕ → List ℕ → ℕ → ℕ → List Step → Result (Unit {0}) Fault
admitting ns n q v D steps =
    and_then (questioning ns n q) (λ _. cond (numbered (product ns) v D steps) (stepping (product ns) 0 steps) (Err (RunNumbers 0)))

pub record Checks (bs : List ℕ) (m : Model) (q : List ℕ) (v D : ℕ) (steps : List Step) (r : Result Bool Fault) : Type 0 where
  -- refused exactly by these rules
  pub refused : (x : Fault) → admitting (value_counts m.sizes) m.sizes.clocks q v D steps ≡ Err x → r ≡ Err x
  -- else yes exactly when these steps are a run that reaches the question
  pub answered : admitting (value_counts m.sizes) m.sizes.clocks q v D steps ≡ Ok tt → (b : Bool) × (r ≡ Ok b) × Tells b (Reaches (table_in bs m) (asked q m) D v steps)
  -- of a record that is the writing of a system, runs are those of that system
  pub system : (k : System) → Sound k → Records k bs → layout m ≡ laid k → table_in bs m ≡ table_of k
  -- of a question that is the writing of a formula, it asks for that formula
  pub question : (f : Formula) → Writes (value_counts m.sizes) m.sizes.clocks Question q f → (w : View) → asked q m w ≡ holds w f
