-- Clocks of ticked places.
use Rattle.std.specs.Prelude.{ℕ, suc, ◌/◌, ◌≤◌, Bool, true, false, cond, ◌&&◌, List, [], ◌∷◌, ◌==◌, nat_lt, slice_index, slice_index_or}
use Rattle.kinds.specs.Slots.{mixing}
use Rattle.judging.specs.declared.sides.Side.{Side}
use Rattle.judging.specs.declared.sides.Side.TheVariants.{Below, At as Meets, Above}
use Rattle.ticked.specs.declared.places.Ticks.{Ticks}
use Rattle.ticked.specs.declared.places.Ticks.TheVariants.{Over, At}
use Rattle.ticked.specs.declared.places.Place.{Place}

abbrev pub at : List Ticks → ℕ → Ticks
at xs c = slice_index_or xs c Over

abbrev pub limit : List ℕ → ℕ → ℕ
limit ms c = slice_index ms c

abbrev pub hit : List Bool → ℕ → Bool
hit bs c = slice_index_or bs c false

abbrev pub four_of : (ℕ → Ticks) → List Ticks
four_of f = f 0 ∷ f 1 ∷ f 2 ∷ f 3 ∷ []

-- the side of a constant that a clock is on, at a whole moment or half a unit later
abbrev pub side_of : Bool → Ticks → ℕ → Side
side_of half Over j = Above
side_of half (At w) j = cond (nat_lt w j) Below (cond (w == j) (cond half Above Meets) Above)

-- at the start a declared clock is 0; one that is not declared is over
abbrev pub begun : ℕ → ℕ → Ticks
begun n c = cond (nat_lt c n) (At 0) Over

-- one unit later, under a ceiling
abbrev pub later : ℕ → Ticks → Ticks
later M Over = Over
later M (At w) = cond (nat_lt w M) (At (suc w)) Over

abbrev pub cleared : Bool → Ticks → Ticks
cleared b x = cond b (At 0) x

-- a clock that can occur under a ceiling
abbrev pub Under : ℕ → Ticks → Type 0
Under M Over = Unit {0}
Under M (At w) = w ≤ M

abbrev pub same_ticks : Ticks → Ticks → Bool
same_ticks Over Over = true
same_ticks Over (At v) = false
same_ticks (At w) Over = false
same_ticks (At w) (At v) = w == v

unfoldable pub same_clocks : List Ticks → List Ticks → Bool
same_clocks [] [] = true
same_clocks [] (y ∷ ys) = false
same_clocks (x ∷ xs) [] = false
same_clocks (x ∷ xs) (y ∷ ys) = same_ticks x y && same_clocks xs ys

abbrev pub same_place : Place → Place → Bool
same_place p q = p.valuation == q.valuation && same_clocks p.clocks q.clocks

abbrev pub code : Ticks → ℕ
code Over = 0
code (At w) = suc w

abbrev pub slot_of : Place → ℕ
slot_of p =
    mixing (mixing (mixing (mixing (mixing 0 p.valuation) (code (at p.clocks 0))) (code (at p.clocks 1))) (code (at p.clocks 2))) (code (at p.clocks 3)) / 65536
