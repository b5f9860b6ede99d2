-- Same places are equal, and equal ones the same.
use Rattle.std.proofs.Common.{◌≡◌, true, eqb, refl, ap₂}
use Rattle.std.proofs.lemmas.Bool.{and_parts, and_from, false≢true, eqb-true, eq-eqb}
use Rattle.kinds.proofs.Equal.{Pairs, all-is, all-itself}
use Rattle.regions.specs.declared.clocks.Clock.{Clock}
use Rattle.regions.specs.declared.clocks.Clock.TheVariants.{Over, Counted}
use Rattle.regions.specs.declared.places.Place.{Place}
use Rattle.regions.specs.Sameness.{same_clock, same_clocks, same_place}

pub clock-is : (p q : Clock) → same_clock p q ≡ true → p ≡ q
clock-is Over Over e = refl
clock-is Over (Counted v s) e = absurd (false≢true e)
clock-is (Counted w r) Over e = absurd (false≢true e)
clock-is (Counted w r) (Counted v s) e =
    let b = and_parts (eqb w v) (eqb r s) e in ap₂ Counted (eqb-true w v b.0) (eqb-true r s b.1)

pub clock-itself : (p : Clock) → same_clock p p ≡ true
clock-itself Over = refl
clock-itself (Counted w r) = and_from (eqb w w) (eqb r r) (eq-eqb w w refl) (eq-eqb r r refl)

pub paired : Pairs Clock same_clock same_clocks
unfolding same_clocks
paired = record { none = refl; left = λ q qs. refl; right = λ p ps. refl; both = λ p q ps qs. refl }

pub place-by : (p q : Place) → p.valuation ≡ q.valuation → p.clocks ≡ q.clocks → p ≡ q
place-by p q x y = λ i. record { valuation = x i; clocks = y i }

pub same-is : (p q : Place) → same_place p q ≡ true → p ≡ q
same-is p q e =
    let b = and_parts (eqb p.valuation q.valuation) (same_clocks p.clocks q.clocks) e in
    place-by p q (eqb-true p.valuation q.valuation b.0) (all-is paired clock-is p.clocks q.clocks b.1)

pub same-itself : (p : Place) → same_place p p ≡ true
same-itself p =
    and_from (eqb p.valuation p.valuation) (same_clocks p.clocks p.clocks) (eq-eqb p.valuation p.valuation refl) (all-itself paired clock-itself p.clocks)
