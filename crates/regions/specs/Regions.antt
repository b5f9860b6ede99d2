-- Dense places: how time passes in them, how the gaps of their ranks close, and what they show.
use Rattle.std.specs.Prelude.{ℕ, zero, suc, ◌+◌, max, Bool, false, cond, ◌||◌, ◌==◌, nat_lt}
use Rattle.judging.specs.declared.sides.Side.{Side}
use Rattle.judging.specs.declared.sides.Side.TheVariants.{Below, At, Above}
use Rattle.regions.specs.declared.clocks.Clock.{Clock}
use Rattle.regions.specs.declared.clocks.Clock.TheVariants.{Over, Counted}

abbrev pub rank_of : Clock → ℕ
rank_of Over = 0
rank_of (Counted w r) = r

-- on a whole number
abbrev pub sharp : Clock → Bool
sharp Over = false
sharp (Counted w r) = r == 0

-- some of the first n clocks is on a whole number
unfoldable pub any_sharp : ℕ → (ℕ → Clock) → Bool
any_sharp zero ps = false
any_sharp (suc n) ps = sharp (ps n) || any_sharp n ps

-- the highest rank of the first n clocks
unfoldable pub highest : ℕ → (ℕ → Clock) → ℕ
highest zero ps = 0
highest (suc n) ps = max (rank_of (ps n)) (highest n ps)

-- a clock leaves its whole number, the others stay above it; at its ceiling M it is over
abbrev pub lift : ℕ → Clock → Clock
lift M Over = Over
lift M (Counted w r) = cond (r == 0) (cond (w == M) Over (Counted w 1)) (Counted w (suc r))

-- a clock with the highest rank comes to its next whole number
abbrev pub roll : ℕ → Clock → Clock
roll top Over = Over
roll top (Counted w r) = cond (r == top) (Counted (suc w) 0) (Counted w r)

-- n clocks after the least time that changes how they stand to whole numbers, with gaps
abbrev pub elapsed : ℕ → (ℕ → ℕ) → (ℕ → Clock) → ℕ → Clock
elapsed n M ps c = cond (any_sharp n ps) (lift (M c) (ps c)) (roll (highest n ps) (ps c))

-- a rank is in use
unfoldable pub used : ℕ → (ℕ → Clock) → ℕ → Bool
used zero ps k = false
used (suc n) ps k = rank_of (ps n) == k || used n ps k

-- each rank becomes the number of ranks in use from 1 up to it
unfoldable pub closed : ℕ → (ℕ → Clock) → ℕ → ℕ
closed n ps zero = 0
closed n ps (suc r) = closed n ps r + cond (used n ps (suc r)) 1 0

abbrev pub renamed : (ℕ → ℕ) → Clock → Clock
renamed φ Over = Over
renamed φ (Counted w r) = Counted w (φ r)

-- n clocks with their gaps closed
abbrev pub tidy : ℕ → (ℕ → Clock) → ℕ → Clock
tidy n ps c = renamed (closed n ps) (ps c)

abbrev pub after : ℕ → (ℕ → ℕ) → (ℕ → Clock) → ℕ → Clock
after n M ps = tidy n (elapsed n M ps)

-- where a clock stands to a constant
abbrev pub side_of : Clock → ℕ → Side
side_of Over j = Above
side_of (Counted w r) j = cond (nat_lt w j) Below (cond (w == j) (cond (r == 0) At Above) Above)
