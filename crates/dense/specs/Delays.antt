-- The delays of a chain of dense time.
use Rattle.std.specs.Prelude.{ℕ, Bool, cond, not, List, [], ◌∷◌, Some, None, Option, ◌==◌}
use Rattle.delays.specs.declared.paces.Passing.{Passing}
use Rattle.delays.specs.declared.paces.Passing.TheVariants.{Still, Leaving, Meeting}
use Rattle.delays.specs.Pace.{wait_of, parts_after, fractions_after, delays_after}
use Rattle.regions.specs.declared.places.Place.{Place}
use Rattle.regions.specs.Clocks.{at}
use Rattle.regions.specs.Regions.{any_sharp, rank_of}

-- how time passes in a trial from a place
abbrev pub passing_of : ℕ → Place → Passing
passing_of t p = cond (t == 0) (cond (any_sharp 4 (at p.clocks)) Leaving Meeting) Still

-- which clocks of a place have a fraction
abbrev pub ranked : Place → ℕ → Bool
ranked q c = not (rank_of (at q.clocks c) == 0)

-- where a chain has got to, and the delays of its steps, the newest first; no place where a trial gave
-- nothing
pub record Timing : Type 0 where
  pub place : Option Place
  pub parts : ℕ
  pub fractions : List ℕ
  pub delays : List ℕ

-- after a trial from place p to place q
abbrev pub advanced : ℕ → Place → Place → Timing → Timing
advanced t p q s =
    record { place = Some q; parts = parts_after (passing_of t p) s.parts; fractions = fractions_after (ranked q) (wait_of (passing_of t p) s.parts s.fractions) s.fractions; delays = delays_after (passing_of t p) s.parts (wait_of (passing_of t p) s.parts s.fractions) s.delays }

abbrev pub stuck : Timing → Timing
stuck s = record { place = None; parts = s.parts; fractions = s.fractions; delays = 0 ∷ s.delays }

abbrev pub arriving : ℕ → Place → Option Place → Timing → Timing
arriving t p None s = stuck s
arriving t p (Some q) s = advanced t p q s

abbrev pub trying : (Place → ℕ → Option Place) → ℕ → Option Place → Timing → Timing
trying step t None s = stuck s
trying step t (Some p) s = arriving t p (step p t) s

-- of a chain from a start trial by step trials, the newest first
unfoldable pub timing : (ℕ → Option Place) → (Place → ℕ → Option Place) → ℕ → List ℕ → Timing
timing start step i [] = record { place = start i; parts = 1; fractions = 0 ∷ 0 ∷ 0 ∷ 0 ∷ []; delays = [] }
timing start step i (t ∷ is) = trying step t (timing start step i is).place (timing start step i is)
