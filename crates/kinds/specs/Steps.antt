-- Step records: the numbers of their kinds, and records that are given delays.
use Rattle.std.specs.Prelude.{◌≡◌, ℕ, cond, zero, suc, ◌<◌, ◌≤◌, List, [], ◌∷◌, map, reverse, length, Ok, Err, Result}
use Rattle.kinds.specs.declared.steps.Step.{Step}
use Rattle.kinds.specs.declared.steps.StepKind.{StepKind}
use Rattle.kinds.specs.declared.steps.StepKind.TheVariants.{Elapse, Discrete}
use Rattle.kinds.specs.declared.steps.UnknownKind.{UnknownKind}
use Rattle.kinds.specs.Time.{Meaning}

-- the number by which a record tells a kind
abbrev pub kind_number : StepKind → ℕ
kind_number Elapse = 0
kind_number Discrete = 1

-- the kind that a number stands for; no other number stands for one
abbrev pub kind_of : ℕ → Result StepKind UnknownKind
kind_of zero = Ok Elapse
kind_of (suc zero) = Ok Discrete
kind_of (suc (suc n)) = Err (record { number = suc (suc n) })

abbrev pub delay_of : Step → ℕ
delay_of p = p.delay

-- a step with another delay
abbrev pub with_delay : Step → ℕ → Step
with_delay p d = record { kind = p.kind; valuation = p.valuation; delay = d }

-- the record of a step by trial t into place p, with the number of the trial for a delay
abbrev pub tried_as : {P : Type 0} → Meaning P → P → ℕ → Step
tried_as k p t = record { kind = cond (k.elapses t) 0 1; valuation = k.valuation p; delay = t }

-- steps with other delays, both from the first on
unfoldable pub redelayed : List Step → List ℕ → List Step
redelayed [] ds = []
redelayed (p ∷ ps) [] = p ∷ ps
redelayed (p ∷ ps) (d ∷ ds) = with_delay p d ∷ redelayed ps ds

-- the trials of a chain, the newest first, by the records that have their numbers as delays
abbrev pub trials_of : List Step → List ℕ
trials_of ps = reverse (map delay_of ps)

-- the records ps have become qs, with denominator r
pub record Delayed {P : Type 0} (k : Meaning P) (i : ℕ) (ps qs : List Step) (r : ℕ) : Type 0 where
  pub parts : length ps ≤ 65534 → r ≡ k.parts i (trials_of ps)
  pub filled : length ps ≤ 65534 → qs ≡ redelayed ps (reverse (k.delays i (trials_of ps)))
  -- more steps than a chain has
  pub long : 65534 < length ps → (r ≡ 0) × (qs ≡ ps)
