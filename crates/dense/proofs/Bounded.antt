-- Fractions and delays of a chain are at most a unit, so that 32 bits hold them.
use Rattle.std.proofs.Common.{◌≡◌, ℕ, zero, suc, ◌+◌, ◌-◌, ◌<◌, ◌≤◌, Bool, true, false, List, [], ◌∷◌, map, length, get_or, Some, None, Option, refl, ap, ◌∙◌, arith}
use native.Mathlib.Nat.{add-div_right, div-zero}
use Rattle.delays.specs.declared.paces.Passing.{Passing}
use Rattle.delays.specs.declared.paces.Passing.TheVariants.{Still, Leaving, Meeting}
use Rattle.delays.specs.Pace.{highest, wait_of, parts_after, fraction_after, fractions_after, stretched, widened, delays_after, fitting}
use Rattle.delays.proofs.Stretching.{stretched-le}
use Rattle.regions.specs.declared.places.Place.{Place}
use Rattle.dense.specs.Delays.{Timing, passing_of, ranked, stuck, arriving, trying, timing}

-- each number of a list is at most D
abbrev pub Within : ℕ → List ℕ → Type 0
Within D xs = (k : ℕ) → get_or xs k 0 ≤ D

pub none_within : (D : ℕ) → Within D []
none_within D zero = omega arith
none_within D (suc k) = omega arith

pub more_within : (D x : ℕ) (xs : List ℕ) → x ≤ D → Within D xs → Within D (x ∷ xs)
more_within D x xs h w zero = h
more_within D x xs h w (suc k) = w k

pub fitting-few : (x : ℕ) → x ≤ 65536 → fitting x ≡ x
fitting-few x h = omega arith

pub fitting-all : (xs : List ℕ) → Within 65536 xs → map fitting xs ≡ xs
fitting-all [] w = refl
fitting-all (x ∷ xs) w = ap (λ y. y ∷ map fitting xs) (fitting-few x (w 0)) ∙ ap (λ l. x ∷ l) (fitting-all xs (λ k. w (suc k)))

stretched-far : (D b : ℕ) → stretched D (b + D) ≤ stretched D b + suc D
stretched-far zero b = omega (arith, div-zero b, div-zero (b + 0))
stretched-far (suc D) b = let some : 0 < suc D = omega arith in omega (arith, add-div_right b {k = suc D} some)

-- a delay of at most a unit still is when widened
widened-one : (D b d : ℕ) → d ≤ D → stretched D (b + d) - stretched D b ≤ suc D
widened-one D b d h = omega (arith, stretched-far D b, stretched-le D (b + d) (b + D) (omega arith))

pub widened-within : (D b : ℕ) (ds : List ℕ) → Within D ds → Within (suc D) (widened D b ds)
unfolding widened
widened-within D b [] w = none_within (suc D)
widened-within D b (d ∷ ds) w = more_within (suc D) _ _ (widened-one D b d (w 0)) (widened-within D (b + d) ds (λ k. w (suc k)))

fraction-within : (D E w f : ℕ) (b : Bool) → f + w ≤ E → fraction_after b w f ≤ E
fraction-within D E w f true h = h
fraction-within D E w f false h = omega arith

four-within : (D a b c d : ℕ) → a ≤ D → b ≤ D → c ≤ D → d ≤ D → Within D (a ∷ b ∷ c ∷ d ∷ [])
four-within D a b c d h i j k =
    more_within D a (b ∷ c ∷ d ∷ []) h (more_within D b (c ∷ d ∷ []) i (more_within D c (d ∷ []) j (more_within D d [] k (none_within D))))

-- what all four fractions are at most when the step is over
waited : (x : Passing) (D f : ℕ) (fs : List ℕ) → f ≤ highest fs → highest fs ≤ D → f + wait_of x D fs ≤ parts_after x D
waited Still D f fs g h = omega arith
waited Leaving D f fs g h = omega arith
waited Meeting D f fs g h = omega arith

pub fractions-within : (x : Passing) (r : ℕ → Bool) (D : ℕ) (fs : List ℕ) → Within D fs → Within (parts_after x D) (fractions_after r (wait_of x D fs) fs)
fractions-within x r D fs w =
    let top : highest fs ≤ D = omega (arith, w 0, w 1, w 2, w 3) in
    let one : (c f : ℕ) → f ≤ highest fs → fraction_after (r c) (wait_of x D fs) f ≤ parts_after x D = λ c f l. fraction-within D (parts_after x D) (wait_of x D fs) f (r c) (waited x D f fs l top) in
    four-within (parts_after x D) _ _ _ _ (one 0 (get_or fs 0 0) (omega arith)) (one 1 (get_or fs 1 0) (omega arith)) (one 2 (get_or fs 2 0) (omega arith)) (one 3 (get_or fs 3 0) (omega arith))

wait-within : (x : Passing) (D : ℕ) (fs : List ℕ) → wait_of x D fs ≤ parts_after x D
wait-within Still D fs = omega arith
wait-within Leaving D fs = omega arith
wait-within Meeting D fs = omega arith

pub delays-within : (x : Passing) (D : ℕ) (fs ds : List ℕ) → Within D ds → Within (parts_after x D) (delays_after x D (wait_of x D fs) ds)
delays-within Still D fs ds w = more_within D _ ds (wait-within Still D fs) w
delays-within Leaving D fs ds w = more_within (suc D) _ _ (wait-within Leaving D fs) (widened-within D 0 ds w)
delays-within Meeting D fs ds w = more_within D _ ds (wait-within Meeting D fs) w

-- of a chain of n steps
pub record Bounded (n : ℕ) (s : Timing) : Type 0 where
  pub few : s.parts ≤ suc n
  pub fractions : Within s.parts s.fractions
  pub delays : Within s.parts s.delays

bounded-stuck : (n : ℕ) (s : Timing) → Bounded n s → Bounded (suc n) (stuck s)
bounded-stuck n s b = record { few = omega (arith, b.few); fractions = b.fractions; delays = more_within s.parts 0 s.delays (omega arith) b.delays }

pub parts_more : (x : Passing) (D n : ℕ) → D ≤ n → parts_after x D ≤ suc n
parts_more Still D n h = omega arith
parts_more Leaving D n h = omega arith
parts_more Meeting D n h = omega arith

bounded-arriving : (n t : ℕ) (p : Place) (o : Option Place) (s : Timing) → Bounded n s → Bounded (suc n) (arriving t p o s)
bounded-arriving n t p None s b = bounded-stuck n s b
bounded-arriving n t p (Some q) s b =
    record { few = parts_more (passing_of t p) s.parts (suc n) b.few; fractions = fractions-within (passing_of t p) (ranked q) s.parts s.fractions b.fractions; delays = delays-within (passing_of t p) s.parts s.fractions s.delays b.delays }

module _ (start : ℕ → Option Place) (step : Place → ℕ → Option Place) where
  bounded-trying : (n t : ℕ) (o : Option Place) (s : Timing) → Bounded n s → Bounded (suc n) (trying step t o s)
  bounded-trying n t None s b = bounded-stuck n s b
  bounded-trying n t (Some p) s b = bounded-arriving n t p (step p t) s b

  pub bounded : (i : ℕ) (is : List ℕ) → Bounded (length is) (timing start step i is)
  unfolding timing
  bounded i [] = record { few = omega arith; fractions = four-within 1 0 0 0 0 (omega arith) (omega arith) (omega arith) (omega arith); delays = none_within 1 }
  bounded i (t ∷ is) = bounded-trying (length is) t (timing start step i is).place (timing start step i is) (bounded i is)
