-- A place's reading has the law of readings.
use Rattle.std.specs.Prelude.{◌≡◌, ℕ, ◌<◌, ◌≤◌, refl}
use Rattle.std.proofs.Common.{arith}
use Rattle.std.proofs.lemmas.Bool.Decides.{nat_tests}
use Rattle.judging.specs.declared.sides.Side.TheVariants.{Below, At, Above}
use Rattle.judging.specs.Truth.{Ordered}
use Rattle.judging.proofs.Apart.{above-below, above-at}
use Rattle.regions.specs.declared.clocks.Clock.{Clock}
use Rattle.regions.specs.declared.clocks.Clock.TheVariants.{Over, Counted}
use Rattle.regions.specs.declared.places.Place.{Place}
use Rattle.regions.specs.Clocks.{at}
use Rattle.regions.specs.Regions.{side_of}

below : (p : Clock) (j k : ℕ) → side_of p j ≡ Below → j ≤ k → side_of p k ≡ Below
below Over j k e l = above-below e
below (Counted w r) j k e l = grind (arith, nat_tests)

above : (p : Clock) (j k : ℕ) → side_of p j ≡ Above → k ≤ j → side_of p k ≡ Above
above Over j k e l = refl
above (Counted w r) j k e l = grind (arith, nat_tests)

at-below : (p : Clock) (j k : ℕ) → side_of p j ≡ At → j < k → side_of p k ≡ Below
at-below Over j k e l = above-at e
at-below (Counted w r) j k e l = grind (arith, nat_tests)

at_above : (p : Clock) (j k : ℕ) → side_of p j ≡ At → k < j → side_of p k ≡ Above
at_above Over j k e l = refl
at_above (Counted w r) j k e l = grind (arith, nat_tests)

pub place_ordered : (p : Place) → Ordered (λ c j. side_of (at p.clocks c) j)
place_ordered p =
    record { below = λ c. below (at p.clocks c); above = λ c. above (at p.clocks c); at_below = λ c. at-below (at p.clocks c); at_above = λ c. at_above (at p.clocks c) }
