-- What it is for the clocks of a dense place to stand for the clocks of a state.
use Rattle.std.specs.Prelude.{◌≡◌, ℕ, ◌+◌, ◌*◌, ◌<◌, ◌≤◌}
use Rattle.regions.specs.declared.clocks.Clock.{Clock}
use Rattle.regions.specs.declared.clocks.Clock.TheVariants.{Over, Counted}

-- one clock: its value x and its fraction f are in parts of which E make a unit, and its ceiling is M units.
-- Over is above the ceiling; counted is up to it, with whole part w and fraction f, and rank 0 means no
-- fraction
abbrev pub One : ℕ → ℕ → ℕ → ℕ → Clock → Type 0
One E M x f Over = M * E < x
One E M x f (Counted w r) = (x ≡ w * E + f) × (f < E) × (x ≤ M * E) × (r ≡ 0 → f ≡ 0) × (f ≡ 0 → r ≡ 0)

-- two clocks of one state, with fractions f and g: counted ones have the order of their fractions as the
-- order of their ranks
abbrev pub Two : ℕ → ℕ → Clock → Clock → Type 0
Two f g Over Over = Unit {0}
Two f g Over (Counted v s) = Unit {0}
Two f g (Counted w r) Over = Unit {0}
Two f g (Counted w r) (Counted v s) = (r ≤ s → f ≤ g) × (f ≤ g → r ≤ s)

-- the first n clocks, with values xs and fractions fs, under ceilings M
pub record Stands (n E : ℕ) (M xs fs : ℕ → ℕ) (ps : ℕ → Clock) : Type 0 where
  pub each : (c : ℕ) → c < n → One E (M c) (xs c) (fs c) (ps c)
  pub both : (c d : ℕ) → c < n → d < n → Two (fs c) (fs d) (ps c) (ps d)

-- with some fractions
abbrev pub Standing : ℕ → ℕ → (ℕ → ℕ) → (ℕ → ℕ) → (ℕ → Clock) → Type 0
Standing n E M xs ps = (fs : ℕ → ℕ) × Stands n E M xs fs ps
