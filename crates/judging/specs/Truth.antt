-- When a formula holds.
use Rattle.std.specs.Prelude.{◌≡◌, ℕ, ◌<◌, ◌≤◌, Bool, true, false, cond, not as flip, ◌&&◌, ◌||◌, ◌==◌, nat_lt}
use Rattle.instruction.specs.declared.instructions.Compare.{Compare}
use Rattle.instruction.specs.declared.instructions.Compare.TheVariants.{Less, AtMost, Exactly, AtLeast, More}
use Rattle.formula.specs.Formulas.{Formula, is, becomes, stays, clock, always, not, and, or}
use Rattle.judging.specs.declared.sides.Side.{Side}
use Rattle.judging.specs.declared.sides.Side.TheVariants.{Below, At, Above}

-- where x stands to y
abbrev pub compared : ℕ → ℕ → Side
compared x y = cond (nat_lt x y) Below (cond (x == y) At Above)

-- what ties the sides of one clock to different constants together
pub record Ordered (side : ℕ → ℕ → Side) : Type 0 where
  pub below : (c j k : ℕ) → side c j ≡ Below → j ≤ k → side c k ≡ Below
  pub above : (c j k : ℕ) → side c j ≡ Above → k ≤ j → side c k ≡ Above
  pub at_below : (c j k : ℕ) → side c j ≡ At → j < k → side c k ≡ Below
  pub at_above : (c j k : ℕ) → side c j ≡ At → k < j → side c k ≡ Above

-- what a formula is judged by: the value and the next value of each variable, and the side of each
-- clock to each constant
pub record View : Type 0 where
  pub value : ℕ → ℕ
  pub next : ℕ → ℕ
  pub side : ℕ → ℕ → Side

abbrev pub meets : Compare → Side → Bool
meets Less Below = true
meets Less At = false
meets Less Above = false
meets AtMost Below = true
meets AtMost At = true
meets AtMost Above = false
meets Exactly Below = false
meets Exactly At = true
meets Exactly Above = false
meets AtLeast Below = false
meets AtLeast At = true
meets AtLeast Above = true
meets More Below = false
meets More At = false
meets More Above = true

unfoldable pub holds : View → Formula → Bool
holds v (is i k) = v.value i == k
holds v (becomes i k) = v.next i == k
holds v (stays i) = v.next i == v.value i
holds v (clock o c j) = meets o (v.side c j)
holds v always = true
holds v (not f) = flip (holds v f)
holds v (and f g) = (holds v f && holds v g)
holds v (or f g) = (holds v f || holds v g)
