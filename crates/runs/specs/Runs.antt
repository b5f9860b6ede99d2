-- States, steps and runs. Clocks are whole numbers of D-ths, D being one denominator for a whole run.
use Rattle.std.specs.Prelude.{◌≡◌, ℕ, ◌+◌, ◌*◌, ◌<◌, ◌≤◌, Bool, true, false, cond, List, [], ◌∷◌, slice_index}
use Rattle.instruction.specs.Sizes.{product}
use Rattle.judging.specs.Truth.{View, compared}
use Rattle.judging.specs.Judging.{seen}
use Rattle.valuations.specs.Radix.{padded}
use Rattle.tables.specs.Tables.{Table}
use Rattle.kinds.specs.declared.steps.Step.{Step}

-- a valuation, and the values of four clocks; those of clocks that are not declared are read by no
-- formula
pub record State : Type 0 where
  pub valuation : ℕ
  pub clocks : List ℕ

abbrev pub clock : State → ℕ → ℕ
clock s c = slice_index s.clocks c

abbrev pub four_of : (ℕ → ℕ) → List ℕ
four_of f = f 0 ∷ f 1 ∷ f 2 ∷ f 3 ∷ []

-- what a state shows on the way into a next valuation w
abbrev pub view : Table → ℕ → State → ℕ → View
view T D s w = seen (padded T.counts s.valuation) (padded T.counts w) (λ c j. compared (clock s c) (j * D))

-- what a state shows by itself
abbrev pub now : Table → ℕ → State → View
now T D s = view T D s s.valuation

-- all clocks at 0
abbrev pub first : ℕ → State
first v = record { valuation = v; clocks = four_of (λ _. 0) }

abbrev pub later : State → ℕ → State
later s d = record { valuation = s.valuation; clocks = four_of (λ c. clock s c + d) }

-- the same state in n times finer parts
abbrev pub finer : ℕ → State → State
finer n s = record { valuation = s.valuation; clocks = four_of (λ c. n * clock s c) }

-- a clock whose reset formula holds of old variables, old clocks and next variables becomes 0
abbrev pub moved : Table → ℕ → State → ℕ → State
moved T D s w = record { valuation = w; clocks = four_of (λ c. cond (T.reset c (view T D s w)) 0 (clock s c)) }

-- a run begins in a valid state in which start holds and every clock is 0
pub record Begins (T : Table) (D v : ℕ) : Type 0 where
  pub within : v < product T.counts
  pub starts : T.start (now T D (first v)) ≡ true
  pub valid : T.invariant (now T D (first v)) ≡ true

-- urgent is false, and each state after more than 0 and up to d parts is valid, at every fraction in
-- between, with any multiple of D as its denominator
pub record Elapses (T : Table) (D : ℕ) (s : State) (d : ℕ) : Type 0 where
  pub calm : T.urgent (now T D s) ≡ false
  pub valid : (n e : ℕ) → 1 ≤ n → 0 < e → e ≤ n * d → T.invariant (now T (n * D) (later (finer n s) e)) ≡ true

pub record Moves (T : Table) (D : ℕ) (s : State) (w : ℕ) : Type 0 where
  pub within : w < product T.counts
  pub allowed : T.transition (view T D s w) ≡ true
  pub valid : T.invariant (now T D (moved T D s w)) ≡ true

-- a step record: kind 0 is an elapse, which names the valuation that stays; kind 1 is a discrete step
-- into its valuation, with no delay
pub data OneStep (T : Table) (D : ℕ) (s : State) (p : Step) : State → Type 0 where
  waits : p.kind ≡ 0 → p.valuation ≡ s.valuation → Elapses T D s p.delay → OneStep T D s p (later s p.delay)
  moves : p.kind ≡ 1 → p.delay ≡ 0 → Moves T D s p.valuation → OneStep T D s p (moved T D s p.valuation)

pub data Run (T : Table) (D : ℕ) : State → List Step → State → Type 0 where
  stop : {s : State} → Run T D s [] s
  on : {s t u : State} {rest : List Step} (p : Step) → OneStep T D s p t → Run T D t rest u → Run T D s (p ∷ rest) u

-- the rest of a run from a state on, to a state in which the question holds
pub record Leads (T : Table) (q : View → Bool) (D : ℕ) (s : State) (steps : List Step) : Type 0 where
  pub last : State
  pub run : Run T D s steps last
  pub asked : q (now T D last) ≡ true

-- a run that reaches the question
pub record Reaches (T : Table) (q : View → Bool) (D v : ℕ) (steps : List Step) : Type 0 where
  pub begins : Begins T D v
  pub leads : Leads T q D (first v) steps
