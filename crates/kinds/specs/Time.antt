-- What a kind of time means, whatever its places are made of.
use Rattle.std.specs.Prelude.{◌≡◌, ℕ, suc, ◌+◌, ◌<◌, ◌≤◌, Bool, true, cond, List, [], ◌∷◌, length, Some, None, Option}

pub record Meaning (P : Type 0) : Type 0 where
  -- how many valuations, start trials and step trials there are
  pub valuations : ℕ
  pub starts : ℕ
  pub trials : ℕ
  -- the place that a trial gives
  pub start : ℕ → Option P
  pub step : P → ℕ → Option P
  -- whether time passes in a step trial
  pub elapses : ℕ → Bool
  pub same : P → P → Bool
  pub valuation : P → ℕ
  pub slot : P → ℕ
  -- of a chain from a start trial by step trials, the newest first: the denominator of its delays, and the
  -- delay of each step in parts of a unit, the newest first
  pub parts : ℕ → List ℕ → ℕ
  pub delays : ℕ → List ℕ → List ℕ

-- nothing both, or places that are the same
abbrev pub Alike : {P : Type 0} → (P → P → Bool) → Option P → Option P → Type 0
Alike same (Some p) (Some q) = same p q ≡ true
Alike same (Some p) None = ⊥
Alike same None (Some q) = ⊥
Alike same None None = Unit {0}

-- a chain from a start trial by step trials, the newest first
pub data Chain {P : Type 0} (k : Meaning P) (i : ℕ) : List ℕ → P → Type 0 where
  from : (p : P) → i < k.starts → k.start i ≡ Some p → Chain k i [] p
  more : {is : List ℕ} {p : P} (t : ℕ) (q : P) → Chain k i is p → t < k.trials → k.step p t ≡ Some q → Chain k i (t ∷ is) q

-- in how many of the trials time passes
unfoldable pub waits : (ℕ → Bool) → List ℕ → ℕ
waits elapses [] = 0
waits elapses (t ∷ is) = cond (elapses t) 1 0 + waits elapses is

-- a chain's denominator and delays
pub record Timed {P : Type 0} (k : Meaning P) (i : ℕ) (is : List ℕ) : Type 0 where
  pub some : 1 ≤ k.parts i is
  pub few : k.parts i is ≤ suc (waits k.elapses is)
  pub each : length (k.delays i is) ≡ length is

-- what every kind of time shows of itself
pub record Lawful {P : Type 0} (k : Meaning P) : Type 0 where
  pub some : 1 ≤ k.starts
  pub few_starts : k.starts ≤ 65535
  pub few_trials : k.trials ≤ 65535
  -- sameness is an equivalence
  pub itself : (p : P) → k.same p p ≡ true
  pub turned : (p q : P) → k.same p q ≡ true → k.same q p ≡ true
  pub joined : (p q r : P) → k.same p q ≡ true → k.same q r ≡ true → k.same p r ≡ true
  -- same places have the same valuation, slot number and trials
  pub values : (p q : P) → k.same p q ≡ true → k.valuation p ≡ k.valuation q
  pub slots : (p q : P) → k.same p q ≡ true → k.slot p ≡ k.slot q
  pub steps : (p q : P) (i : ℕ) → k.same p q ≡ true → Alike k.same (k.step p i) (k.step q i)
  -- valuations stay below their number
  pub started : (i : ℕ) (p : P) → k.start i ≡ Some p → k.valuation p < k.valuations
  pub stepped : (p q : P) (i : ℕ) → k.valuation p < k.valuations → k.step p i ≡ Some q → k.valuation q < k.valuations
  -- the denominator is from 1 to the steps in which time passes plus one, and each step has a delay
  pub timed : (i : ℕ) (is : List ℕ) (p : P) → Chain k i is p → Timed k i is

-- a chain to a place with a valuation that answers
pub record Reaches {P : Type 0} (k : Meaning P) (asked : ℕ → Bool) : Type 0 where
  pub start : ℕ
  pub trials : List ℕ
  pub place : P
  pub chain : Chain k start trials place
  pub answers : asked (k.valuation place) ≡ true
