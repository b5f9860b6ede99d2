-- Runs through the places of chains, with the delays that a kind of time gives them.
use Rattle.std.specs.Prelude.{◌≡◌, ℕ, cond, List, [], ◌∷◌, Some, ◌==◌}
use Rattle.kinds.specs.declared.steps.Step.{Step}
use Rattle.kinds.specs.Time.{Meaning, Chain}
use Rattle.regions.specs.Clocks.{at}
use Rattle.regions.specs.declared.places.Place.{Place}
use Rattle.runs.specs.Runs.{State, clock, first, Begins, OneStep}
use Rattle.tables.specs.Settings.{Setting}
use Rattle.tables.specs.Tables.{Table}
use Rattle.ticked.specs.declared.places.Place.{Place as TickedPlace}
use Rattle.timings.specs.Agreement.{ceiling_of}
use Rattle.timings.specs.Standing.{Standing}
use Rattle.timings.specs.TickedStanding.{Stands}

-- the step record of a trial t into a place with valuation v, with delay d
abbrev pub step_for : ℕ → ℕ → ℕ → Step
step_for t v d = record { kind = cond (t == 0) 0 1; valuation = v; delay = d }

-- states, one for each place of a chain, such that each place is its state's region, consecutive states are
-- joined by the steps with these delays, and the first begins a run; trials and delays the newest first
pub data Through {P : Type 0} (k : Meaning P) (T : Table) (Region : State → P → Type 0) (D i : ℕ) : List ℕ → List ℕ → State → P → Type 0 where
  begin : (p : P) → Begins T D i → k.start i ≡ Some p → Region (first i) p → Through k T Region D i [] [] (first i) p
  next : {is ds : List ℕ} {s : State} {p : P} (t d : ℕ) (u : State) (q : P) → Through k T Region D i is ds s p → k.step p t ≡ Some q → OneStep T D s (step_for t (k.valuation q) d) u → Region u q → Through k T Region D i (t ∷ is) (d ∷ ds) u q

-- the delays of every chain are such
pub record Runs {P : Type 0} (k : Meaning P) (T : Table) (Region : ℕ → State → P → Type 0) : Type 0 where
  pub through : (i : ℕ) (is : List ℕ) (p : P) → Chain k i is p → (u : State) × Through k T (Region (k.parts i is)) (k.parts i is) i is (k.delays i is) u p

-- a dense place is the region of a state with the same valuation for whose clocks its own stand
abbrev pub DenseRegion : Setting → ℕ → State → Place → Type 0
DenseRegion K D s p = (s.valuation ≡ p.valuation) × Standing K.clocks D (ceiling_of K) (clock s) (at p.clocks)

-- a ticked place is that of a state for which it stands
abbrev pub TickedRegion : Setting → ℕ → State → TickedPlace → Type 0
TickedRegion K D s p = Stands K D p s
