-- The trials of ticked time.
use Rattle.std.specs.Prelude.{◌≡◌, ℕ, zero, suc, ◌+◌, ◌*◌, ◌<◌, ◌≤◌, Bool, true, false, cond, not, ◌&&◌, List, map, length, Some, None, Option, ◌==◌, nat_lt}
use Rattle.instruction.specs.Sizes.{product}
use Rattle.judging.specs.Truth.{View, compared}
use Rattle.judging.specs.Judging.{seen}
use Rattle.judging.specs.declared.sides.Side.{Side}
use Rattle.kinds.specs.declared.steps.Step.{Step}
use Rattle.kinds.specs.Steps.{with_delay}
use Rattle.kinds.specs.Time.{Meaning, Chain}
use Rattle.valuations.specs.Radix.{padded}
use Rattle.tables.specs.Settings.{Setting}
use Rattle.tables.specs.Trials.{Making}
use Rattle.ticked.specs.declared.places.Ticks.{Ticks}
use Rattle.ticked.specs.declared.places.Ticks.TheVariants.{Over, At}
use Rattle.ticked.specs.declared.places.Place.{Place}
use Rattle.ticked.specs.Ticks.{at, limit, four_of, side_of, begun, later, cleared, hit, same_place, slot_of, Under}

-- a place, if a condition holds
abbrev pub only : Bool → Place → Option Place
only b p = cond b (Some p) None

abbrev pub place : ℕ → List Ticks → Place
place v xs = record { valuation = v; clocks = xs }

abbrev pub sides : Bool → Place → ℕ → ℕ → Side
sides half p c j = side_of half (at p.clocks c) j

-- one unit for trial 0, which is elapse, and none for the others
abbrev pub units_of : ℕ → ℕ
units_of t = cond (t == 0) 1 0

-- a step with the delay of the trial that its delay names
abbrev pub in_units : Step → Step
in_units p = with_delay p (units_of p.delay)

module _ (K : Setting) where
  abbrev pub values : ℕ → List ℕ
  values v = padded K.table.counts v

  -- all clocks at 0
  abbrev pub origin : ℕ → Place
  origin v = place v (four_of (begun K.clocks))

  abbrev pub elapsed : Place → Place
  elapsed p = place p.valuation (four_of (λ c. later (limit K.ceilings c) (at p.clocks c)))

  -- what a place shows of old variables, clocks and next variables, the variables by their values
  abbrev pub shown : List ℕ → List ℕ → Bool → Place → View
  shown xs ys half p = seen xs ys (sides half p)

  -- a clock whose reset formula holds becomes 0
  abbrev pub moved : List ℕ → List ℕ → Place → ℕ → Place
  moved xs ys p w = place w (four_of (λ c. cleared (K.table.reset c (shown xs ys false p)) (at p.clocks c)))

  -- valuation v with all clocks 0, if it begins a run
  abbrev pub beginning : List ℕ → ℕ → Option Place
  beginning xs v = only (K.table.start (shown xs xs false (origin v)) && K.table.invariant (shown xs xs false (origin v))) (origin v)

  -- one unit: urgent is false, and the state is valid at the half and at the end
  abbrev pub passing : List ℕ → Place → Option Place
  passing xs p =
      only (not (K.table.urgent (shown xs xs false p)) && (K.table.invariant (shown xs xs true p) && K.table.invariant (shown xs xs false (elapsed p)))) (elapsed p)

  -- the discrete step into valuation w: the transition is allowed, and the new place is valid
  abbrev pub entering : List ℕ → List ℕ → Place → ℕ → Option Place
  entering xs ys p w =
      only (K.table.transition (shown xs ys false p) && K.table.invariant (shown ys ys false (moved xs ys p w))) (moved xs ys p w)

  abbrev pub starting : ℕ → Option Place
  starting i = cond (nat_lt i (product K.table.counts)) (beginning (values i) i) None

  -- step trial 0 is elapse, trial w + 1 the discrete step into valuation w
  abbrev pub stepping : Place → ℕ → Option Place
  stepping p zero = passing (values p.valuation) p
  stepping p (suc w) = cond (nat_lt w (product K.table.counts)) (entering (values p.valuation) (values w) p w) None

  -- what the trials are made of
  abbrev pub making : Making Place
  making =
      record { setting = K; origin = origin; cleared = λ bs p w. place w (four_of (λ c. cleared (hit bs c) (at p.clocks c))); standing = λ p. p.valuation; passing = passing }

  abbrev pub ticked : Meaning Place
  ticked =
      record { valuations = product K.table.counts; starts = product K.table.counts; trials = suc (product K.table.counts); start = starting; step = stepping; elapses = λ i. (i == 0); same = same_place; valuation = λ p. p.valuation; slot = slot_of; parts = λ i is. 1; delays = λ i is. map units_of is }

  -- a place that can occur: its clocks are up to their ceilings or over, and over if they are not declared
  pub record Occurs (p : Place) : Type 0 where
    pub four : length p.clocks ≡ 4
    pub under : (c : ℕ) → c < 4 → Under (limit K.ceilings c) (at p.clocks c)
    pub past : (c : ℕ) → K.clocks ≤ c → at p.clocks c ≡ Over
    pub within : p.valuation < product K.table.counts

  pub record Ticking : Type 0 where
    -- every place of a chain can occur
    pub chains : (i : ℕ) (is : List ℕ) (p : Place) → Chain ticked i is p → Occurs p
    -- at a whole moment a clock stands to a constant as its number does, at the half as the number and a half
    pub whole : (w j : ℕ) → side_of false (At w) j ≡ compared w j
    pub halfway : (w j : ℕ) → side_of true (At w) j ≡ compared (2 * w + 1) (2 * j)
    -- an over clock stands to a constant up to its ceiling as each number above the ceiling does
    pub over : (half : Bool) (M x j : ℕ) → M < x → j ≤ M → side_of half Over j ≡ compared x j
