-- Delays for the steps of a chain, one after the other.
--
-- The present moment is known by the fractions of the clocks, in parts of a unit. Where a clock leaves
-- its whole number there may be no part between it and the next clock, so every unit gets one part
-- more, right after the present moment, and the step waits for that part.
use Rattle.std.specs.Prelude.{ℕ, suc, ◌+◌, ◌-◌, ◌/◌, min, max, Bool, cond, List, [], ◌∷◌, slice_index}
use Rattle.delays.specs.declared.paces.Passing.{Passing}
use Rattle.delays.specs.declared.paces.Passing.TheVariants.{Still, Leaving, Meeting}

-- the highest of four fractions
abbrev pub highest : List ℕ → ℕ
highest fs = max (slice_index fs 0) (max (slice_index fs 1) (max (slice_index fs 2) (slice_index fs 3)))

-- how many parts a step waits: none if it is discrete, one if clocks leave their whole numbers, and
-- else until the highest fraction is a whole unit
abbrev pub wait_of : Passing → ℕ → List ℕ → ℕ
wait_of Still D fs = 0
wait_of Leaving D fs = 1
wait_of Meeting D fs = D - highest fs

-- how many parts a unit has from then on
abbrev pub parts_after : Passing → ℕ → ℕ
parts_after Still D = D
parts_after Leaving D = suc D
parts_after Meeting D = D

-- the fraction of a clock after the step: none if it is then on a whole number or over
abbrev pub fraction_after : Bool → ℕ → ℕ → ℕ
fraction_after ranked wait f = cond ranked (f + wait) 0

abbrev pub fractions_after : (ℕ → Bool) → ℕ → List ℕ → List ℕ
fractions_after ranked wait fs =
    fraction_after (ranked 0) wait (slice_index fs 0) ∷ fraction_after (ranked 1) wait (slice_index fs 1) ∷ fraction_after (ranked 2) wait (slice_index fs 2) ∷ fraction_after (ranked 3) wait (slice_index fs 3) ∷ []

-- b parts ago, after every unit up to now got one part more
abbrev pub stretched : ℕ → ℕ → ℕ
stretched D b = b + b / D

-- the delays, the newest first, after that; the newest ended b parts ago
unfoldable pub widened : ℕ → ℕ → List ℕ → List ℕ
widened D b [] = []
widened D b (d ∷ ds) = (stretched D (b + d) - stretched D b) ∷ widened D (b + d) ds

-- the delays after a step, its own first
abbrev pub delays_after : Passing → ℕ → ℕ → List ℕ → List ℕ
delays_after Still D w ds = w ∷ ds
delays_after Leaving D w ds = w ∷ widened D 0 ds
delays_after Meeting D w ds = w ∷ ds

-- what 32 bits hold
abbrev pub fitting : ℕ → ℕ
fitting x = min x 4294967295
