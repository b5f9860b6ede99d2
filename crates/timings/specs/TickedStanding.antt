-- What it is for a ticked place to stand for a state.
use Rattle.std.specs.Prelude.{◌≡◌, ℕ, ◌+◌, ◌*◌, ◌<◌, cond, nat_le}
use Rattle.runs.specs.Runs.{State, clock}
use Rattle.tables.specs.Settings.{Setting}
use Rattle.ticked.specs.declared.places.Ticks.{Ticks}
use Rattle.ticked.specs.declared.places.Ticks.TheVariants.{Over, At}
use Rattle.ticked.specs.declared.places.Place.{Place}
use Rattle.ticked.specs.Ticks.{at, limit}

-- w units under the ceiling M
abbrev pub counted : ℕ → ℕ → Ticks
counted M w = cond (nat_le w M) (At w) Over

-- each declared clock of the state is e parts past a whole number of units, D parts a unit; the place has
-- that number
pub record Past (K : Setting) (D e : ℕ) (p : Place) (s : State) : Type 0 where
  pub valuation : p.valuation ≡ s.valuation
  pub wholes : ℕ → ℕ
  pub clocks : (c : ℕ) → c < K.clocks → clock s c ≡ wholes c * D + e
  pub ticks : (c : ℕ) → c < K.clocks → at p.clocks c ≡ counted (limit K.ceilings c) (wholes c)

-- each is a whole number of units
abbrev pub Stands : Setting → ℕ → Place → State → Type 0
Stands K D p s = Past K D 0 p s
