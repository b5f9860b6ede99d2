-- A state and a place that stands for it show the same to the formulas.
use Rattle.std.proofs.Common.{◌≡◌, ℕ, ◌+◌, ◌*◌, ◌<◌, ◌≤◌, cond, get_or, sym, refl, ap, ◌∙◌, zero-mul, arith}
use Rattle.std.proofs.lemmas.Bool.{lt-ltb}
use Rattle.tables.specs.Settings.{Setting}
use Rattle.regions.specs.declared.clocks.Clock.TheVariants.{Over, Counted}
use Rattle.regions.specs.declared.places.Place.{Place}
use Rattle.regions.specs.Clocks.{at}
use Rattle.regions.proofs.Fours.{at-four as at-four-clocks}
use Rattle.runs.specs.Runs.{State, clock, view, now, first, later, finer}
use Rattle.runs.proofs.Four.{at-four}
use Rattle.valuations.specs.Radix.{padded}
use Rattle.dense.specs.Trials.{begun, origin}
use Rattle.timings.specs.Agreement.{Agrees, ceiling_of}
use Rattle.timings.specs.Standing.{Stands, Standing}
use Rattle.timings.proofs.Standing.{same-clocks, same_place}
use Rattle.timings.proofs.Side.{same-side}
use Rattle.timings.proofs.Trying.{sight, alone}

-- the variables' values in a valuation, by their indices
abbrev pub valued : Setting → ℕ → ℕ → ℕ
valued K v i = get_or (padded K.table.counts v) i 0

module _ (K : Setting) (E : ℕ) (s : State) (p : Place) (e : s.valuation ≡ p.valuation) (t : Standing K.clocks E (ceiling_of K) (clock s) (at p.clocks)) where
  -- on the way into a next valuation w
  pub agrees : (w : ℕ) → Agrees K.clocks (ceiling_of K) (view K.table E s w) (sight K p w)
  agrees w =
      record { value = ap (valued K) e; next = refl; side = λ c j i k. same-side E (ceiling_of K c) (clock s c) (t.0 c) j (at p.clocks c) (t.1.each c i) k }

  -- by themselves
  pub agrees-alone : Agrees K.clocks (ceiling_of K) (now K.table E s) (alone K p)
  agrees-alone =
      record { value = ap (valued K) e; next = ap (valued K) e; side = λ c j i k. same-side E (ceiling_of K c) (clock s c) (t.0 c) j (at p.clocks c) (t.1.each c i) k }

-- the clocks of a state some time later, in finer parts
pub at-later : (s : State) (d c : ℕ) → c < 4 → clock s c + d ≡ clock (later s d) c
at-later s d c h = sym (at-four (λ c. clock s c + d) c h)

pub at-moment : (s : State) (k d c : ℕ) → c < 4 → k * clock s c + d ≡ clock (later (finer k s) d) c
at-moment s k d c h = ap (λ x. x + d) (sym (at-four (λ c. k * clock s c) c h)) ∙ at-later (finer k s) d c h

zeros-stand : (n D : ℕ) (M : ℕ → ℕ) → 0 < D → Stands n D M (λ c. 0) (λ c. 0) (λ c. Counted 0 0)
zeros-stand n D M l = record { each = λ c h. grind (arith, zero-mul D); both = λ c d h i. omega arith }

begun-at : (K : Setting) → K.clocks ≤ 4 → (v c : ℕ) → c < K.clocks → Counted 0 0 ≡ at (origin K v).clocks c
begun-at K f v c h =
    sym (at-four-clocks (begun K.clocks) c (omega arith) ∙ ap (λ b. cond b (Counted 0 0) Over) (lt-ltb c K.clocks h))

-- the first place stands for clocks that are 0
pub origin-stands : (K : Setting) → K.clocks ≤ 4 → (D : ℕ) → 0 < D → (v : ℕ) (xs : ℕ → ℕ) → ((c : ℕ) → c < K.clocks → 0 ≡ xs c) → Stands K.clocks D (ceiling_of K) xs (λ c. 0) (at (origin K v).clocks)
origin-stands K f D l v xs z =
    same_place (begun-at K f v) (same-clocks z (zeros-stand K.clocks D (ceiling_of K) l))

pub at_first : (v c : ℕ) → c < 4 → 0 ≡ clock (first v) c
at_first v c h = sym (at-four (λ _. 0) c h)
