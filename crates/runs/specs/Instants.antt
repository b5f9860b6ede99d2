-- Every moment of a delay, and the few at which a formula can change.
use Rattle.std.specs.Prelude.{◌≡◌, ℕ, ◌+◌, ◌*◌, ◌^◌, ◌<◌, ◌≤◌, Bool, true, ◌⊎◌, List, slice_index}
use Rattle.judging.specs.declared.sides.Side.{Side}
use Rattle.judging.specs.Truth.{compared}

-- the sides of clocks that stand at x, in parts of which D make a unit
abbrev pub sides_at : ℕ → (ℕ → ℕ) → ℕ → ℕ → Side
sides_at D x c j = compared (x c) (j * D)

-- the truth of a formula hangs on the sides of four clocks to constants up to their ceilings M
abbrev pub Depends : (ℕ → ℕ) → ((ℕ → ℕ → Side) → Bool) → Type 0
Depends M inv = (s t : ℕ → ℕ → Side) → ((c j : ℕ) → c < 4 → j ≤ M c → s c j ≡ t c j) → inv s ≡ inv t

-- it holds at every moment after more than 0 and up to d parts, at every fraction in between
abbrev pub Always : ((ℕ → ℕ → Side) → Bool) → ℕ → (ℕ → ℕ) → ℕ → Type 0
Always inv D x d = (n e : ℕ) → 1 ≤ n → 0 < e → e ≤ n * d → inv (sides_at (n * D) (λ c. n * x c + e)) ≡ true

-- no clock meets a constant up to its ceiling after more than 0 and less than t parts
abbrev pub Quiet : (ℕ → ℕ) → ℕ → (ℕ → ℕ) → ℕ → Type 0
Quiet M D x t = (c j : ℕ) → c < 4 → j ≤ M c → (j * D ≤ x c) ⊎ (x c + t ≤ j * D)

-- the clock x has passed a whole number, and its next one, if that is up to the ceiling, is at least t
-- parts away
pub record Soon (x D ceiling t : ℕ) : Type 0 where
  pub passed : ℕ
  pub low : passed * D ≤ x
  pub high : passed < ceiling → x + t ≤ (passed + 1) * D

-- of each of four clocks
abbrev pub Every4 : (ℕ → Type 0) → Type 0
Every4 P = P 0 × P 1 × P 2 × P 3

-- so of four clocks, and the wait is not 0
pub record Soonest (D : ℕ) (xs ms : List ℕ) (t : ℕ) : Type 0 where
  pub some : 1 ≤ t
  pub each : Soon (slice_index xs 0) D (slice_index ms 0) t × Soon (slice_index xs 1) D (slice_index ms 1) t × Soon (slice_index xs 2) D (slice_index ms 2) t × Soon (slice_index xs 3) D (slice_index ms 3) t

-- there is room for d parts more in four clocks
abbrev pub Room : ℕ → List ℕ → Type 0
Room d xs = (slice_index xs 0 + d ≤ 2 ^ 62) × (slice_index xs 1 + d ≤ 2 ^ 62) × (slice_index xs 2 + d ≤ 2 ^ 62) × (slice_index xs 3 + d ≤ 2 ^ 62)

-- whether something lasts
pub record Tells (r : Bool) (A : Type 0) : Type 0 where
  pub yes : r ≡ true → A
  pub back : A → r ≡ true
