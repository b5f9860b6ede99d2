-- Ranks without gaps, and places that say the same of their clocks.
use Rattle.std.specs.Prelude.{◌≡◌, ℕ, ◌<◌, ◌≤◌}
use Rattle.regions.specs.declared.clocks.Clock.{Clock}
use Rattle.regions.specs.declared.clocks.Clock.TheVariants.{Over, Counted}
use Rattle.regions.specs.Regions.{rank_of}

-- every number from 1 up to a clock's rank is the rank of some clock
abbrev pub Gapless : ℕ → (ℕ → Clock) → Type 0
Gapless n ps = (c : ℕ) → c < n → (k : ℕ) → 0 < k → k ≤ rank_of (ps c) → (d : ℕ) × (d < n) × (rank_of (ps d) ≡ k)

abbrev pub Counts : Clock → Type 0
Counts Over = ⊥
Counts (Counted w r) = Unit {0}

-- both over, or both with one whole part, and both or neither on it
abbrev pub Matches : Clock → Clock → Type 0
Matches Over Over = Unit {0}
Matches Over (Counted v s) = ⊥
Matches (Counted w r) Over = ⊥
Matches (Counted w r) (Counted v s) = (w ≡ v) × (r ≡ 0 → s ≡ 0) × (s ≡ 0 → r ≡ 0)

-- the clocks match, and the counted ones have the same order
pub record Alike (n : ℕ) (ps qs : ℕ → Clock) : Type 0 where
  pub each : (c : ℕ) → c < n → Matches (ps c) (qs c)
  pub there : (c d : ℕ) → c < n → d < n → Counts (ps c) → Counts (ps d) → rank_of (ps c) ≤ rank_of (ps d) → rank_of (qs c) ≤ rank_of (qs d)
  pub back : (c d : ℕ) → c < n → d < n → Counts (ps c) → Counts (ps d) → rank_of (qs c) ≤ rank_of (qs d) → rank_of (ps c) ≤ rank_of (ps d)
