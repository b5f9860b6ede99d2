-- What the answers promise.
use Rattle.std.specs.Prelude.{◌≡◌, ℕ, ◌≤◌, Bool, true, false, List}
use Rattle.regions.specs.declared.clocks.Clock.{Clock}
use Rattle.regions.specs.declared.places.Place.{Place}
use Rattle.regions.specs.Regions.{tidy, after}
use Rattle.regions.specs.Clocks.{at, four_of, limit, trim_all, capped, hit, restarted, Sounds, Padded}
use Rattle.regions.specs.Gaps.{Gapless, Alike}
use Rattle.regions.specs.Sameness.{same_place}

-- clocks ps under the ceilings ms have become r by the least time that changes how they stand
pub record Elapsed (ms : List ℕ) (ps r : List Clock) : Type 0 where
  -- on all clocks
  pub value : r ≡ four_of (after 4 (limit ms) (trim_all ms ps))
  -- on clocks that can occur
  pub exact : Sounds ms ps → r ≡ four_of (after 4 (limit ms) (at ps))
  -- only clocks that can occur come out, and their ranks have no gaps
  pub sound : Sounds ms r
  pub gapless : Gapless 4 (at r)
  -- last clocks that are over stay over
  pub padded : (n : ℕ) → n ≤ 4 → Padded n (at ps) → Padded n (at r)

-- of clocks ps those that bs says were set to 0, and the rest kept
pub record Cleared (bs : List Bool) (ps r : List Clock) : Type 0 where
  -- on all clocks
  pub value : r ≡ four_of (tidy 4 (λ c. capped (restarted (hit bs c) (at ps c))))
  -- on clocks that can occur
  pub exact : (ms : List ℕ) → Sounds ms ps → r ≡ four_of (tidy 4 (λ c. restarted (hit bs c) (at ps c)))
  -- from clocks that can occur come such clocks, and their ranks have no gaps
  pub sound : (ms : List ℕ) → Sounds ms ps → Sounds ms r
  pub gapless : Gapless 4 (at r)
  -- last clocks that are over and not reset stay over
  pub padded : (n : ℕ) → n ≤ 4 → Padded n (at ps) → ((c : ℕ) → n ≤ c → hit bs c ≡ false) → Padded n (at r)

-- whether p and q are the same place
pub record Tells (p q : Place) (r : Bool) : Type 0 where
  pub answer : r ≡ same_place p q
  pub equal : r ≡ true → p ≡ q
  pub back : p ≡ q → r ≡ true
  -- places without gaps that say the same of their clocks are the same
  pub alike : Gapless 4 (at p.clocks) → Gapless 4 (at q.clocks) → Alike 4 (at p.clocks) (at q.clocks) → p.valuation ≡ q.valuation → r ≡ true
