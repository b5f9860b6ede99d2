-- Ticked time keeps the law of kinds of time, and what a place and a moment show of their clocks that of
-- readings.
use Rattle.std.specs.Prelude.{◌≡◌, ℕ, zero, suc, ◌<◌, ◌≤◌, Bool, true, false, List, Some, refl}
use Rattle.std.proofs.Common.{eqb, ap, arith}
use Rattle.std.proofs.lemmas.Bool.{eqb-true, eq-eqb, and_from, and_parts, false≢true}
use Rattle.std.proofs.lemmas.Bool.Decides.{nat_tests}
use Rattle.std.proofs.lemmas.List.{length-map}
use Rattle.instruction.specs.Sizes.{product}
use Rattle.instruction.specs.Counts.{value_counts}
use Rattle.instruction.proofs.Ranged.{product-positive}
use Rattle.judging.specs.declared.sides.Side.TheVariants.{Below, At as Meets, Above}
use Rattle.judging.specs.Truth.{Ordered}
use Rattle.judging.proofs.Apart.{above-below, above-at}
use Rattle.kinds.specs.Time.{Timed, Lawful}
use Rattle.kinds.proofs.Equal.{Pairs, all-is, all-itself, given, given-below, timed-whole, lawful as lawful_by}
use Rattle.model.specs.declared.layout.Model.{Model}
use Rattle.tables.specs.Settings.{Setting, setting_in}
use Rattle.ticked.specs.declared.places.Ticks.{Ticks}
use Rattle.ticked.specs.declared.places.Ticks.TheVariants.{Over, At}
use Rattle.ticked.specs.declared.places.Place.{Place}
use Rattle.ticked.specs.declared.readings.Moment.{Moment}
use Rattle.ticked.specs.Ticks.{at, side_of, same_ticks, same_clocks, same_place}
use Rattle.ticked.specs.Trials.{units_of, origin, elapsed, moved, values, starting, stepping, ticked}

-- Places that are the same are equal.
pub ticks-is : (x y : Ticks) → same_ticks x y ≡ true → x ≡ y
ticks-is Over Over h = refl
ticks-is Over (At v) h = absurd (false≢true h)
ticks-is (At w) Over h = absurd (false≢true h)
ticks-is (At w) (At v) h = ap At (eqb-true w v h)

pub ticks-itself : (x : Ticks) → same_ticks x x ≡ true
ticks-itself Over = refl
ticks-itself (At w) = eq-eqb w w refl

pub paired : Pairs Ticks same_ticks same_clocks
unfolding same_clocks
paired = record { none = refl; left = λ y ys. refl; right = λ x xs. refl; both = λ x y xs ys. refl }

pub same-is : (p q : Place) → same_place p q ≡ true → p ≡ q
same-is p q h =
    let b = and_parts (eqb p.valuation q.valuation) (same_clocks p.clocks q.clocks) h in
    let e : p.valuation ≡ q.valuation = eqb-true p.valuation q.valuation b.0 in
    let f : p.clocks ≡ q.clocks = all-is paired ticks-is p.clocks q.clocks b.1 in
    λ i. record { valuation = e i; clocks = f i }

pub same-itself : (p : Place) → same_place p p ≡ true
same-itself p =
    and_from (eqb p.valuation p.valuation) (same_clocks p.clocks p.clocks) (eq-eqb p.valuation p.valuation refl) (all-itself paired ticks-itself p.clocks)

module _ (K : Setting) where
  abbrev within : Place → Type 0
  within p = p.valuation < product K.table.counts

  started : (i : ℕ) (p : Place) → starting K i ≡ Some p → within p
  started i p h = given-below within i (product K.table.counts) _ (origin K i) p h (λ l _. l)

  stays_within : (p q : Place) (i : ℕ) → within p → stepping K p i ≡ Some q → within q
  stays_within p q zero v h = given within _ (elapsed K p) q h (λ _. v)
  stays_within p q (suc w) v h =
      given-below within w (product K.table.counts) _ (moved K (values K p.valuation) (values K w) p w) q h (λ l _. l)

  timed : (i : ℕ) (is : List ℕ) → Timed (ticked K) i is
  timed i is = timed-whole (ticked K) i is refl (length-map is units_of)

  pub lawful : 1 ≤ product K.table.counts → product K.table.counts ≤ 1024 → Lawful (ticked K)
  lawful some few =
      lawful_by (ticked K) same-is same-itself some few refl started stays_within timed

pub lawful_in : (bytes : List ℕ) (model : Model) (ceilings : List ℕ) → Lawful (ticked (setting_in bytes model ceilings))
lawful_in bytes model ceilings =
    lawful (setting_in bytes model ceilings) (product-positive (value_counts model.sizes) model.sizes.in_range) model.sizes.few_valuations

-- one clock's sides
below : (half : Bool) (x : Ticks) (j k : ℕ) → side_of half x j ≡ Below → j ≤ k → side_of half x k ≡ Below
below half Over j k e l = above-below e
below half (At w) j k e l = grind (arith, nat_tests)

above : (half : Bool) (x : Ticks) (j k : ℕ) → side_of half x j ≡ Above → k ≤ j → side_of half x k ≡ Above
above half Over j k e l = refl
above half (At w) j k e l = grind (arith, nat_tests)

at_below : (half : Bool) (x : Ticks) (j k : ℕ) → side_of half x j ≡ Meets → j < k → side_of half x k ≡ Below
at_below half Over j k e l = above-at e
at_below half (At w) j k e l = grind (arith, nat_tests)

at_above : (half : Bool) (x : Ticks) (j k : ℕ) → side_of half x j ≡ Meets → k < j → side_of half x k ≡ Above
at_above half Over j k e l = refl
at_above half (At w) j k e l = grind (arith, nat_tests)

ordered : (half : Bool) (xs : List Ticks) → Ordered (λ c j. side_of half (at xs c) j)
ordered half xs =
    record { below = λ c. below half (at xs c); above = λ c. above half (at xs c); at_below = λ c. at_below half (at xs c); at_above = λ c. at_above half (at xs c) }

pub place_ordered : (p : Place) → Ordered (λ c j. side_of false (at p.clocks c) j)
place_ordered p = ordered false p.clocks

pub moment_ordered : (s : Moment) → Ordered (λ c j. side_of s.half (at s.clocks c) j)
moment_ordered s = ordered s.half s.clocks
