-- Places are enough: a chain reaches a question exactly when a run does.
use Rattle.std.specs.Prelude.{◌≡◌, ℕ, ◌*◌, ◌≤◌, Bool, List, [], ◌∷◌, length}
use Rattle.instruction.specs.declared.sections.Section.TheVariants.{Question}
use Rattle.formula.specs.Formulas.{Formula, Writes}
use Rattle.judging.specs.declared.sides.Side.TheVariants.{Above}
use Rattle.judging.specs.Judging.{seen}
use Rattle.judging.specs.Truth.{View, holds}
use Rattle.dense.specs.Trials.{dense}
use Rattle.kinds.specs.Time.{Meaning, Reaches as Chained}
use Rattle.model.specs.declared.layout.Model.{Model}
use Rattle.model.specs.Promise.{laid}
use Rattle.model.specs.Reading.{layout}
use Rattle.model.specs.Systems.{System, Sound, Records}
use Rattle.kinds.specs.declared.steps.Step.{Step}
use Rattle.runs.specs.Runs.{Reaches}
use Rattle.tables.specs.Settings.{setting_in}
use Rattle.tables.specs.Tables.{Table, table_of}
use Rattle.ticked.specs.Trials.{ticked}
use Rattle.timings.specs.Through.{Runs, DenseRegion, TickedRegion}
use Rattle.valuations.specs.Radix.{padded}

-- whether a question holds in a valuation; it reads no clock, so it does not matter how they stand
abbrev pub answers_in : Table → (View → Bool) → ℕ → Bool
answers_in T q v = q (seen (padded T.counts v) (padded T.counts v) (λ c j. Above))

-- a run that reaches the question
pub record SomeRun (T : Table) (q : View → Bool) : Type 0 where
  pub parts : ℕ
  pub some : 1 ≤ parts
  pub start : ℕ
  pub steps : List Step
  pub reaches : Reaches T q parts start steps

-- every delay is a whole number of units
unfoldable pub Whole : ℕ → List Step → Type 0
Whole D [] = Unit {0}
Whole D (p ∷ ps) = ((k : ℕ) × (p.delay ≡ k * D)) × Whole D ps

-- the same with whole delays
pub record SomeWholeRun (T : Table) (q : View → Bool) : Type 0 where
  pub run : SomeRun T q
  pub whole : Whole run.parts run.steps

-- chains of a kind of time reach a question exactly when runs do
pub record Exact {P : Type 0} (k : Meaning P) (T : Table) (q : View → Bool) : Type 0 where
  pub to_run : Chained k (answers_in T q) → SomeRun T q
  pub to_chain : SomeRun T q → Chained k (answers_in T q)

pub record ExactWhole {P : Type 0} (k : Meaning P) (T : Table) (q : View → Bool) : Type 0 where
  pub to_run : Chained k (answers_in T q) → SomeWholeRun T q
  pub to_chain : SomeWholeRun T q → Chained k (answers_in T q)

-- of a record that is the writing of a system, and a question that is the writing of a formula: chains of
-- dense time with the ceilings ms reach the question exactly when runs of the system do
abbrev pub DenseIsExact : List ℕ → Model → List ℕ → Type 0
DenseIsExact bs m ms =
    (k : System) → Sound k → Records k bs → layout m ≡ laid k → (q : List ℕ) (f : Formula) → Writes k.counts (length k.resets) Question q f → Exact (dense (setting_in bs m ms)) (table_of k) (λ v. holds v f)

-- and chains of ticked time exactly when runs of the system with whole delays do
abbrev pub TickedIsExact : List ℕ → Model → List ℕ → Type 0
TickedIsExact bs m ms =
    (k : System) → Sound k → Records k bs → layout m ≡ laid k → (q : List ℕ) (f : Formula) → Writes k.counts (length k.resets) Question q f → ExactWhole (ticked (setting_in bs m ms)) (table_of k) (λ v. holds v f)

-- of a record that is the writing of a system: the delays of every chain of dense time with the ceilings ms
-- make a run of the system through the chain's places
abbrev pub DenseRuns : List ℕ → Model → List ℕ → Type 0
DenseRuns bs m ms =
    (k : System) → Sound k → Records k bs → layout m ≡ laid k → Runs (dense (setting_in bs m ms)) (table_of k) (DenseRegion (setting_in bs m ms))

-- and those of every chain of ticked time
abbrev pub TickedRuns' : List ℕ → Model → List ℕ → Type 0
TickedRuns' bs m ms =
    (k : System) → Sound k → Records k bs → layout m ≡ laid k → Runs (ticked (setting_in bs m ms)) (table_of k) (TickedRegion (setting_in bs m ms))
