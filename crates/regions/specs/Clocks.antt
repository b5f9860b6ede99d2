-- The four clocks of a place.
use Rattle.std.specs.Prelude.{◌≡◌, ℕ, zero, suc, ◌/◌, ◌%◌, ◌^◌, ◌<◌, ◌≤◌, min, Bool, false, cond, List, [], ◌∷◌, ◌==◌, bit_or, count_ones, nat_lt, slice_index, slice_index_or}
use Rattle.regions.specs.declared.clocks.Clock.{Clock}
use Rattle.regions.specs.declared.clocks.Clock.TheVariants.{Over, Counted}
use Rattle.regions.specs.Regions.{rank_of}

-- the clocks of a place, by index; those past its end are over
abbrev pub at : List Clock → ℕ → Clock
at ps c = slice_index_or ps c Over

abbrev pub four_of : (ℕ → Clock) → List Clock
four_of f = f 0 ∷ f 1 ∷ f 2 ∷ f 3 ∷ []

abbrev pub Every : (Clock → Type 0) → List Clock → Type 0
Every P ps = P (at ps 0) × P (at ps 1) × P (at ps 2) × P (at ps 3)

abbrev pub whole_of : Clock → ℕ
whole_of Over = 0
whole_of (Counted w r) = w

-- ranks past 31 do not occur; they count as 31
abbrev pub capped : Clock → Clock
capped Over = Over
capped (Counted w r) = Counted w (min r 31)

abbrev pub bit_of : Clock → ℕ
bit_of Over = 0
bit_of (Counted w r) = 2 ^ min r 31

-- the mask of the ranks in use, bit r for rank r
abbrev pub mask_of : ℕ → (ℕ → Clock) → ℕ
mask_of zero ps = 0
mask_of (suc n) ps = bit_or (mask_of n ps) (bit_of (ps n))

-- how many ones a mask has from bit 1 up to bit r
abbrev pub ones_to : ℕ → ℕ → ℕ
ones_to m r = count_ones (m / 2 % 2 ^ r)

-- the ceilings, by index
abbrev pub limit : List ℕ → ℕ → ℕ
limit ms c = slice_index ms c

-- a clock as it can occur under a ceiling: above it, it is over; ranks past 15 do not occur, and
-- count as 15
abbrev pub trimmed : ℕ → Clock → Clock
trimmed M Over = Over
trimmed M (Counted w r) = cond (nat_lt w M) (Counted w (min r 15)) (cond (w == M) (cond (r == 0) (Counted w 0) Over) Over)

abbrev pub trim_all : List ℕ → List Clock → ℕ → Clock
trim_all ms ps c = trimmed (limit ms c) (at ps c)

-- a clock that one elapse moves within its type
abbrev pub Fit : Clock → Type 0
Fit p = (rank_of p ≤ 15) × (0 < rank_of p → whole_of p < 65535)

-- a clock that can occur under a ceiling
abbrev pub Sound : ℕ → Clock → Type 0
Sound M Over = Unit {0}
Sound M (Counted w r) = (w ≤ M) × (w ≡ M → r ≡ 0) × (r ≤ 4)

abbrev pub Sounds : List ℕ → List Clock → Type 0
Sounds ms ps = Sound (limit ms 0) (at ps 0) × Sound (limit ms 1) (at ps 1) × Sound (limit ms 2) (at ps 2) × Sound (limit ms 3) (at ps 3)

-- which clocks a discrete step resets
abbrev pub hit : List Bool → ℕ → Bool
hit bs c = slice_index_or bs c false

abbrev pub restarted : Bool → Clock → Clock
restarted b p = cond b (Counted 0 0) p

-- clocks past the first n are not there, and stand as over
abbrev pub Padded : ℕ → (ℕ → Clock) → Type 0
Padded n f = (c : ℕ) → n ≤ c → f c ≡ Over
