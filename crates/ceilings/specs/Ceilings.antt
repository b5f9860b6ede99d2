-- Ceilings: the largest constant that a clock is compared with where time matters.
use Rattle.std.specs.Prelude.{◌≡◌, ℕ, max, List, [], ◌∷◌, take, drop}
use Rattle.formula.specs.Formulas.{Formula}
use Rattle.formula.specs.Heights.{height, scanned}
use Rattle.model.specs.declared.layout.Span.{Span}
use Rattle.model.specs.Systems.{System, Sound, Records}
use Rattle.model.specs.Reading.{Layout}
use Rattle.model.specs.Promise.{laid}

-- the largest constant that clock c is compared with in the formulas, or 0
unfoldable pub tallest : ℕ → List Formula → ℕ
tallest c [] = 0
tallest c (f ∷ fs) = max (height c f) (tallest c fs)

-- a clock's ceiling in a system
abbrev pub ceiling : System → ℕ → ℕ
ceiling m c = tallest c (m.invariant ∷ m.transition ∷ m.resets)

-- the same of the bytes at a span, and at several
abbrev pub height_at : List ℕ → Layout → ℕ → Span → ℕ
height_at bs y c p = scanned y.counts y.clocks c 0 0 (take p.len (drop p.at bs))

unfoldable pub peak : List ℕ → Layout → ℕ → List Span → ℕ
peak bs y c [] = 0
peak bs y c (p ∷ ps) = max (height_at bs y c p) (peak bs y c ps)

abbrev pub ceiling_at : List ℕ → Layout → ℕ → ℕ
ceiling_at bs y c = peak bs y c (y.invariant ∷ y.transition ∷ y.resets)

-- the ceilings of the four clocks, 0 for a clock that is not declared
pub record Ceilings (bs : List ℕ) (y : Layout) (xs : List ℕ) : Type 0 where
  pub answer : xs ≡ ceiling_at bs y 0 ∷ ceiling_at bs y 1 ∷ ceiling_at bs y 2 ∷ ceiling_at bs y 3 ∷ []
  -- of a record that is the writing of a system, that system's
  pub means : (m : System) → Sound m → Records m bs → y ≡ laid m → xs ≡ ceiling m 0 ∷ ceiling m 1 ∷ ceiling m 2 ∷ ceiling m 3 ∷ []
