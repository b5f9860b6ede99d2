-- The denominator and the number of delays of a chain.
use Rattle.std.proofs.Common.{◌≡◌, ℕ, suc, ◌+◌, ◌≤◌, Bool, true, false, cond, eqb, List, [], ◌∷◌, length, Some, None, Option, refl, ap, ◌∙◌, arith}
use Rattle.delays.specs.declared.paces.Passing.{Passing}
use Rattle.delays.specs.declared.paces.Passing.TheVariants.{Still, Leaving, Meeting}
use Rattle.delays.specs.Pace.{wait_of, parts_after, widened, delays_after}
use Rattle.kinds.specs.Time.{waits}
use Rattle.regions.specs.declared.places.Place.{Place}
use Rattle.regions.specs.Clocks.{at}
use Rattle.regions.specs.Regions.{any_sharp}
use Rattle.dense.specs.Delays.{Timing, passing_of, stuck, arriving, trying, timing}

pub length-widened : (D b : ℕ) (ds : List ℕ) → length (widened D b ds) ≡ length ds
unfolding widened
length-widened D b [] = refl
length-widened D b (d ∷ ds) = ap suc (length-widened D (b + d) ds)

length-after : (x : Passing) (D w : ℕ) (ds : List ℕ) → length (delays_after x D w ds) ≡ suc (length ds)
length-after Still D w ds = refl
length-after Leaving D w ds = ap suc (length-widened D 0 ds)
length-after Meeting D w ds = refl

least : (x : Passing) (D : ℕ) → D ≤ parts_after x D
least Still D = omega arith
least Leaving D = omega arith
least Meeting D = omega arith

most : (elapse sharp : Bool) (D : ℕ) → parts_after (cond elapse (cond sharp Leaving Meeting) Still) D ≤ cond elapse 1 0 + D
most true true D = omega arith
most true false D = omega arith
most false sharp D = omega arith

-- what one trial does to the parts and to the number of delays
pub record Grown (t : ℕ) (s r : Timing) : Type 0 where
  pub least : s.parts ≤ r.parts
  pub most : r.parts ≤ cond (eqb t 0) 1 0 + s.parts
  pub each : length r.delays ≡ suc (length s.delays)

no_less : (b : Bool) (n : ℕ) → n ≤ cond b 1 0 + n
no_less true n = omega arith
no_less false n = omega arith

grown-stuck : (t : ℕ) (s : Timing) → Grown t s (stuck s)
grown-stuck t s = record { least = omega arith; most = no_less (eqb t 0) s.parts; each = refl }

grown-arriving : (t : ℕ) (p : Place) (o : Option Place) (s : Timing) → Grown t s (arriving t p o s)
grown-arriving t p None s = grown-stuck t s
grown-arriving t p (Some q) s =
    record { least = least (passing_of t p) s.parts; most = most (eqb t 0) (any_sharp 4 (at p.clocks)) s.parts; each = length-after (passing_of t p) s.parts (wait_of (passing_of t p) s.parts s.fractions) s.delays }

module _ (start : ℕ → Option Place) (step : Place → ℕ → Option Place) where
  grown-trying : (t : ℕ) (o : Option Place) (s : Timing) → Grown t s (trying step t o s)
  grown-trying t None s = grown-stuck t s
  grown-trying t (Some p) s = grown-arriving t p (step p t) s

  pub timing-first : (i : ℕ) → timing start step i [] ≡ record { place = start i; parts = 1; fractions = 0 ∷ 0 ∷ 0 ∷ 0 ∷ []; delays = [] }
  unfolding timing
  timing-first i = refl

  pub timing-next : (i t : ℕ) (is : List ℕ) → timing start step i (t ∷ is) ≡ trying step t (timing start step i is).place (timing start step i is)
  unfolding timing
  timing-next i t is = refl

  pub grows : (i t : ℕ) (is : List ℕ) → Grown t (timing start step i is) (timing start step i (t ∷ is))
  unfolding timing
  grows i t is = grown-trying t (timing start step i is).place (timing start step i is)

  pub parts-some : (i : ℕ) (is : List ℕ) → 1 ≤ (timing start step i is).parts
  parts-some i [] = let e : (timing start step i []).parts ≡ 1 = ap (λ s. s.parts) (timing-first i) in omega arith
  parts-some i (t ∷ is) = let g : (timing start step i is).parts ≤ (timing start step i (t ∷ is)).parts = (grows i t is).least in omega (arith, parts-some i is)

  pub parts-few : (i : ℕ) (is : List ℕ) → (timing start step i is).parts ≤ suc (waits (λ t. eqb t 0) is)
  unfolding waits
  parts-few i [] = let e : (timing start step i []).parts ≡ 1 = ap (λ s. s.parts) (timing-first i) in omega arith
  parts-few i (t ∷ is) =
      let g : (timing start step i (t ∷ is)).parts ≤ cond (eqb t 0) 1 0 + (timing start step i is).parts = (grows i t is).most in
      omega (arith, parts-few i is)

  pub delays-each : (i : ℕ) (is : List ℕ) → length (timing start step i is).delays ≡ length is
  delays-each i [] = ap (λ s. length s.delays) (timing-first i)
  delays-each i (t ∷ is) = (grows i t is).each ∙ ap suc (delays-each i is)
