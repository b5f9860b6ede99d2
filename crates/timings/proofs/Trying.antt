-- What the trials of dense time say, of places that can occur.
use Rattle.std.proofs.Common.{◌≡◌, ℕ, zero, suc, ◌<◌, ◌≤◌, true, false, cond, not, List, Some, refl, ap, ◌∙◌}
use Rattle.std.proofs.lemmas.Bool.{and_parts, not-true, lt-ltb}
use Rattle.instruction.specs.Sizes.{product}
use Rattle.judging.specs.Truth.{View}
use Rattle.kinds.proofs.Equal.{given, given-below}
use Rattle.kinds.specs.Time.{Chain}
use Rattle.tables.specs.Settings.{Setting}
use Rattle.regions.specs.declared.clocks.Clock.{Clock}
use Rattle.regions.specs.declared.clocks.Clock.TheVariants.{Counted}
use Rattle.regions.specs.declared.places.Place.{Place}
use Rattle.regions.specs.Clocks.{at, Padded}
use Rattle.regions.specs.Regions.{after, tidy}
use Rattle.regions.proofs.Padding.{fewer-at}
use Rattle.dense.specs.Trials.{shown, values, origin, elapsed, moved, starting, stepping, dense, Occurs}
use Rattle.dense.proofs.Occurring.{regional}
use Rattle.timings.specs.Agreement.{ceiling_of}
use Rattle.timings.proofs.Fewer.{tidy-at}

-- what a place shows on the way into a next valuation w
abbrev pub sight : Setting → Place → ℕ → View
sight K p w = shown (values K p.valuation) (values K w) p

-- by itself
abbrev pub alone : Setting → Place → View
alone K p = sight K p p.valuation

module _ (K : Setting) where
  pub record Began (v : ℕ) : Type 0 where
    pub within : v < product K.table.counts
    pub starts : K.table.start (alone K (origin K v)) ≡ true
    pub valid : K.table.invariant (alone K (origin K v)) ≡ true

  pub record Passed (p q : Place) : Type 0 where
    pub stays : p.valuation ≡ q.valuation
    pub calm : K.table.urgent (alone K p) ≡ false
    pub valid : K.table.invariant (alone K q) ≡ true
    pub clocks : at q.clocks ≡ after K.clocks (ceiling_of K) (at p.clocks)

  -- the clocks after the discrete step into w
  abbrev pub cleared : Place → ℕ → ℕ → Clock
  cleared p w = tidy K.clocks (λ c. cond (K.table.reset c (sight K p w)) (Counted 0 0) (at p.clocks c))

  pub record Entered (p : Place) (w : ℕ) (q : Place) : Type 0 where
    pub within : w < product K.table.counts
    pub comes : w ≡ q.valuation
    pub allowed : K.table.transition (sight K p w) ≡ true
    pub valid : K.table.invariant (alone K q) ≡ true
    pub clocks : at q.clocks ≡ cleared p w

-- a start trial that gave a place
pub began : (K : Setting) (i : ℕ) (p : Place) → starting K i ≡ Some p → Began K i × (p ≡ origin K i)
began K i p h =
    given-below (λ x. Began K i × (x ≡ origin K i)) i (product K.table.counts) _ (origin K i) p h
    (λ l b. let g = and_parts (K.table.start (alone K (origin K i))) (K.table.invariant (alone K (origin K i))) b in
    (record { within = l; starts = g.0; valid = g.1 }, refl))

module _ (K : Setting) (few : K.clocks ≤ 4) (none : (c : ℕ) (v : View) → K.clocks ≤ c → K.table.reset c v ≡ false) where
  pub occurs : {i : ℕ} {is : List ℕ} {p : Place} → Chain (dense K) i is p → Occurs K p
  occurs {i} {is} {p} c = (regional K none few).chains i is p c

  pub elapsed-at : (p : Place) → Occurs K p → at (elapsed K p).clocks ≡ after K.clocks (ceiling_of K) (at p.clocks)
  elapsed-at p o =
      fewer-at p.clocks (elapsed K p).clocks (ceiling_of K) o.four (ap (λ x. x.clocks) ((regional K none few).elapses p o)) K.clocks few o.past

  pub moved_at : (p : Place) (w : ℕ) → Occurs K p → at (moved K (values K p.valuation) (values K w) p w).clocks ≡ cleared K p w
  moved_at p w o =
      tidy-at K.clocks f (moved K (values K p.valuation) (values K w) p w).clocks (ap (λ x. x.clocks) ((regional K none few).moves (values K p.valuation) (values K w) p w o)) few pads
    where
      f : ℕ → Clock
      f c = cond (K.table.reset c (sight K p w)) (Counted 0 0) (at p.clocks c)

      pads : Padded K.clocks f
      pads c h = ap (λ b. cond b (Counted 0 0) (at p.clocks c)) (none c (sight K p w) h) ∙ o.past c h

  -- a trial that gave a place
  pub passed : (p q : Place) → Occurs K p → stepping K p zero ≡ Some q → Passed K p q
  passed p q o h =
      given (Passed K p) _ (elapsed K p) q h
      (λ b. let g = and_parts (not (K.table.urgent (alone K p))) (K.table.invariant (alone K (elapsed K p))) b in
      record { stays = refl; calm = not-true (K.table.urgent (alone K p)) g.0; valid = g.1; clocks = elapsed-at p o })

  pub entered : (p q : Place) (w : ℕ) → Occurs K p → stepping K p (suc w) ≡ Some q → Entered K p w q
  entered p q w o h =
      let m : Place = moved K (values K p.valuation) (values K w) p w in
      given-below (Entered K p w) w (product K.table.counts) _ m q h
      (λ l b. let g = and_parts (K.table.transition (sight K p w)) (K.table.invariant (alone K m)) b in
      record { within = l; comes = refl; allowed = g.0; valid = g.1; clocks = moved_at p w o })

-- what makes a trial give a place
pub begins : (K : Setting) (v : ℕ) → Began K v → starting K v ≡ Some (origin K v)
begins K v b = rw (lt-ltb v (product K.table.counts) b.within, b.starts, b.valid) refl

pub passes : (K : Setting) (p : Place) → K.table.urgent (alone K p) ≡ false → K.table.invariant (alone K (elapsed K p)) ≡ true → stepping K p zero ≡ Some (elapsed K p)
passes K p c v = rw (c, v) refl

pub enters : (K : Setting) (p : Place) (w : ℕ) → w < product K.table.counts → K.table.transition (sight K p w) ≡ true → K.table.invariant (alone K (moved K (values K p.valuation) (values K w) p w)) ≡ true → stepping K p (suc w) ≡ Some (moved K (values K p.valuation) (values K w) p w)
enters K p w l a v = rw (lt-ltb w (product K.table.counts) l, a, v) refl
