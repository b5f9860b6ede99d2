-- The trials of dense time.
use Rattle.std.specs.Prelude.{◌≡◌, ℕ, zero, suc, ◌+◌, ◌*◌, ◌<◌, ◌≤◌, Bool, cond, not, ◌&&◌, List, length, Some, None, Option, ◌==◌, nat_lt}
use Rattle.instruction.specs.Sizes.{product}
use Rattle.judging.specs.Truth.{View, compared}
use Rattle.judging.specs.Judging.{seen}
use Rattle.judging.specs.declared.sides.Side.{Side}
use Rattle.kinds.specs.Time.{Meaning, Chain}
use Rattle.valuations.specs.Radix.{padded}
use Rattle.tables.specs.Settings.{Setting}
use Rattle.tables.specs.Trials.{Making}
use Rattle.regions.specs.declared.clocks.Clock.{Clock}
use Rattle.regions.specs.declared.clocks.Clock.TheVariants.{Over, Counted}
use Rattle.regions.specs.declared.places.Place.{Place}
use Rattle.regions.specs.Clocks.{at, limit, four_of, trim_all, capped, hit, restarted, Sounds, Padded}
use Rattle.regions.specs.Gaps.{Gapless, Alike}
use Rattle.regions.specs.Regions.{after, tidy, side_of}
use Rattle.regions.specs.Sameness.{same_place}
use Rattle.regions.specs.Slots.{slot_of}
use Rattle.dense.specs.Delays.{timing}

-- a place, if a condition holds
abbrev pub only : Bool → Place → Option Place
only b p = cond b (Some p) None

abbrev pub place : ℕ → List Clock → Place
place v ps = record { valuation = v; clocks = ps }

abbrev pub sides : Place → ℕ → ℕ → Side
sides p c j = side_of (at p.clocks c) j

-- what a place shows of old variables, clocks and next variables, the variables by their values
abbrev pub shown : List ℕ → List ℕ → Place → View
shown xs ys p = seen xs ys (sides p)

-- at the start a declared clock is 0; one that is not declared is over
abbrev pub begun : ℕ → ℕ → Clock
begun n c = cond (nat_lt c n) (Counted 0 0) Over

module _ (K : Setting) where
  abbrev pub values : ℕ → List ℕ
  values v = padded K.table.counts v

  -- all clocks at 0
  abbrev pub origin : ℕ → Place
  origin v = place v (four_of (begun K.clocks))

  -- after the least time that changes how the clocks stand to whole numbers and to each other
  abbrev pub elapsed : Place → Place
  elapsed p = place p.valuation (four_of (after 4 (limit K.ceilings) (trim_all K.ceilings p.clocks)))

  -- a clock whose reset formula holds becomes 0, and gaps in the ranks are closed
  abbrev pub moved : List ℕ → List ℕ → Place → ℕ → Place
  moved xs ys p w = place w (four_of (tidy 4 (λ c. capped (restarted (K.table.reset c (shown xs ys p)) (at p.clocks c)))))

  -- valuation v with all clocks 0, if it begins a run
  abbrev pub beginning : List ℕ → ℕ → Option Place
  beginning xs v = only (K.table.start (shown xs xs (origin v)) && K.table.invariant (shown xs xs (origin v))) (origin v)

  -- elapse: urgent is false, and the new place is valid
  abbrev pub passing : List ℕ → Place → Option Place
  passing xs p = only (not (K.table.urgent (shown xs xs p)) && K.table.invariant (shown xs xs (elapsed p))) (elapsed p)

  -- the discrete step into valuation w: the transition is allowed, and the new place is valid
  abbrev pub entering : List ℕ → List ℕ → Place → ℕ → Option Place
  entering xs ys p w =
      only (K.table.transition (shown xs ys p) && K.table.invariant (shown ys ys (moved xs ys p w))) (moved xs ys p w)

  abbrev pub starting : ℕ → Option Place
  starting i = cond (nat_lt i (product K.table.counts)) (beginning (values i) i) None

  -- step trial 0 is elapse, trial w + 1 the discrete step into valuation w
  abbrev pub stepping : Place → ℕ → Option Place
  stepping p zero = passing (values p.valuation) p
  stepping p (suc w) = cond (nat_lt w (product K.table.counts)) (entering (values p.valuation) (values w) p w) None

  -- what the trials are made of
  abbrev pub making : Making Place
  making =
      record { setting = K; origin = origin; cleared = λ bs p w. place w (four_of (tidy 4 (λ c. capped (restarted (hit bs c) (at p.clocks c))))); standing = λ p. p.valuation; passing = passing }

  abbrev pub dense : Meaning Place
  dense =
      record { valuations = product K.table.counts; starts = product K.table.counts; trials = suc (product K.table.counts); start = starting; step = stepping; elapses = λ i. (i == 0); same = same_place; valuation = λ p. p.valuation; slot = slot_of; parts = λ i is. (timing starting stepping i is).parts; delays = λ i is. (timing starting stepping i is).delays }

  -- a place that can occur: no clock is counted above its ceiling, ranks have no gaps, and a clock that
  -- is not declared is over
  pub record Occurs (p : Place) : Type 0 where
    pub four : length p.clocks ≡ 4
    pub sound : Sounds K.ceilings p.clocks
    pub gapless : Gapless 4 (at p.clocks)
    pub past : Padded K.clocks (at p.clocks)
    pub within : p.valuation < product K.table.counts

  pub record Regional : Type 0 where
    -- every place of a chain can occur
    pub chains : (i : ℕ) (is : List ℕ) (p : Place) → Chain dense i is p → Occurs p
    -- of such places the trials are these
    pub elapses : (p : Place) → Occurs p → elapsed p ≡ place p.valuation (four_of (after 4 (limit K.ceilings) (at p.clocks)))
    pub moves : (xs ys : List ℕ) (p : Place) (w : ℕ) → Occurs p → moved xs ys p w ≡ place w (four_of (tidy 4 (λ c. restarted (K.table.reset c (shown xs ys p)) (at p.clocks c))))
    -- two of them that order their counted clocks alike, with the same whole parts and the same over
    -- clocks, are equal
    pub one : (p q : Place) → Occurs p → Occurs q → p.valuation ≡ q.valuation → Alike 4 (at p.clocks) (at q.clocks) → p ≡ q
    -- a clock on a whole number stands to a constant as that number does, a clock with a fraction as the
    -- number and a half, and an over clock to a constant up to its ceiling as each number above the ceiling
    pub whole : (w j : ℕ) → side_of (Counted w 0) j ≡ compared w j
    pub between : (w r j : ℕ) → 0 < r → side_of (Counted w r) j ≡ compared (2 * w + 1) (2 * j)
    pub over : (M x j : ℕ) → M < x → j ≤ M → side_of Over j ≡ compared x j
