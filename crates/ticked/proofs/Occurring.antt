-- Every place of a chain of ticked time can occur.
use Rattle.std.proofs.Common.{◌≡◌, ℕ, zero, suc, ◌+◌, ◌*◌, ◌<◌, ◌≤◌, Bool, true, false, ltb, List, refl, ap, ◌∙◌, arith}
use Rattle.std.proofs.lemmas.Bool.{ltb-true}
use Rattle.instruction.specs.Sizes.{product}
use Rattle.judging.specs.Truth.{View, compared}
use Rattle.kinds.proofs.Equal.{given, given-below}
use Rattle.kinds.specs.Time.{Chain, from, more}
use Rattle.tables.specs.Settings.{Setting}
use Rattle.ticked.specs.declared.places.Ticks.{Ticks}
use Rattle.ticked.specs.declared.places.Ticks.TheVariants.{Over, At}
use Rattle.ticked.specs.declared.places.Place.{Place}
use Rattle.ticked.specs.Ticks.{at, limit, four_of, side_of, begun, later, cleared, Under}
use Rattle.ticked.specs.Trials.{origin, elapsed, moved, shown, values, ticked, Occurs, Ticking}

module _ (K : Setting) where
  -- every place of a chain can occur
  first-occurs : (v : ℕ) → v < product K.table.counts → Occurs K (origin K v)
  first-occurs v h =
      record { four = refl; under = under; past = past; within = h }
    where
      one : (c : ℕ) → Under (limit K.ceilings c) (begun K.clocks c)
      one c = go (ltb c K.clocks) refl
        where
          go : (b : Bool) → ltb c K.clocks ≡ b → Under (limit K.ceilings c) (begun K.clocks c)
          go true e = rw e (omega arith)
          go false e = rw e tt

      under : (c : ℕ) → c < 4 → Under (limit K.ceilings c) (at (four_of (begun K.clocks)) c)
      under zero l = one 0
      under (suc zero) l = one 1
      under (suc (suc zero)) l = one 2
      under (suc (suc (suc zero))) l = one 3
      under (suc (suc (suc (suc c)))) l = absurd (omega arith)

      none : (c : ℕ) → K.clocks ≤ c → begun K.clocks c ≡ Over
      none c l = go (ltb c K.clocks) refl
        where
          go : (b : Bool) → ltb c K.clocks ≡ b → begun K.clocks c ≡ Over
          go true e = absurd (omega (arith, ltb-true c K.clocks e))
          go false e = rw e refl

      past : (c : ℕ) → K.clocks ≤ c → at (four_of (begun K.clocks)) c ≡ Over
      past zero l = none 0 l
      past (suc zero) l = none 1 l
      past (suc (suc zero)) l = none 2 l
      past (suc (suc (suc zero))) l = none 3 l
      past (suc (suc (suc (suc c)))) l = refl

  later-under : (M : ℕ) (x : Ticks) → Under M x → Under M (later M x)
  later-under M Over h = tt
  later-under M (At w) h = go (ltb w M) refl
    where
      go : (b : Bool) → ltb w M ≡ b → Under M (later M (At w))
      go true e = rw e (ltb-true w M e)
      go false e = rw e tt

  cleared-under : (M : ℕ) (b : Bool) (x : Ticks) → Under M x → Under M (cleared b x)
  cleared-under M true x h = omega arith
  cleared-under M false x h = h

  -- four clocks one by one
  each-four : (P : ℕ → Ticks → Type 0) (f : ℕ → Ticks) → ((c : ℕ) → c < 4 → P c (f c)) → (c : ℕ) → c < 4 → P c (at (four_of f) c)
  each-four P f h zero l = h 0 (omega arith)
  each-four P f h (suc zero) l = h 1 (omega arith)
  each-four P f h (suc (suc zero)) l = h 2 (omega arith)
  each-four P f h (suc (suc (suc zero))) l = h 3 (omega arith)
  each-four P f h (suc (suc (suc (suc c)))) l = absurd (omega arith)

  past-four : (f : ℕ → Ticks) (n : ℕ) → ((c : ℕ) → n ≤ c → f c ≡ Over) → (c : ℕ) → n ≤ c → at (four_of f) c ≡ Over
  past-four f n h zero l = h 0 l
  past-four f n h (suc zero) l = h 1 l
  past-four f n h (suc (suc zero)) l = h 2 l
  past-four f n h (suc (suc (suc zero))) l = h 3 l
  past-four f n h (suc (suc (suc (suc c)))) l = refl

  elapsed-occurs : (p : Place) → Occurs K p → Occurs K (elapsed K p)
  elapsed-occurs p o =
      record {
        four = refl;
        under = each-four (λ c x. Under (limit K.ceilings c) x) (λ c. later (limit K.ceilings c) (at p.clocks c)) (λ c l. later-under (limit K.ceilings c) (at p.clocks c) (o.under c l));
        past = past-four (λ c. later (limit K.ceilings c) (at p.clocks c)) K.clocks (λ c l. ap (later (limit K.ceilings c)) (o.past c l));
        within = o.within;
      }

  moved-occurs : ((c : ℕ) (v : View) → K.clocks ≤ c → K.table.reset c v ≡ false) → (p : Place) (w : ℕ) → w < product K.table.counts → Occurs K p → Occurs K (moved K (values K p.valuation) (values K w) p w)
  moved-occurs none p w l o =
      let v : View = shown K (values K p.valuation) (values K w) false p in
      record {
        four = refl;
        under = each-four (λ c x. Under (limit K.ceilings c) x) (λ c. cleared (K.table.reset c v) (at p.clocks c)) (λ c h. cleared-under (limit K.ceilings c) (K.table.reset c v) (at p.clocks c) (o.under c h));
        past = past-four (λ c. cleared (K.table.reset c v) (at p.clocks c)) K.clocks (λ c h. ap (λ b. cleared b (at p.clocks c)) (none c v h) ∙ o.past c h);
        within = l;
      }

  module _ (none : (c : ℕ) (v : View) → K.clocks ≤ c → K.table.reset c v ≡ false) where
    occurs : (i : ℕ) (is : List ℕ) (p : Place) → Chain (ticked K) i is p → Occurs K p
    occurs i _ _ (from p l h) = given-below (Occurs K) i (product K.table.counts) _ (origin K i) p h (λ l _. first-occurs i l)
    occurs i _ _ (more {is = is} {p = p} zero q c l h) = given (Occurs K) _ (elapsed K p) q h (λ _. elapsed-occurs p (occurs i is p c))
    occurs i _ _ (more {is = is} {p = p} (suc w) q c l h) =
        given-below (Occurs K) w (product K.table.counts) _ (moved K (values K p.valuation) (values K w) p w) q h
        (λ g _. moved-occurs none p w g (occurs i is p c))

    pub ticking : Ticking K
    ticking =
        record {
          chains = occurs;
          whole = λ w j. refl;
          halfway = half-side;
          over = over-side;
        }
      where
        half-side : (w j : ℕ) → side_of true (At w) j ≡ compared (2 * w + 1) (2 * j)
        half-side w j = grind arith

        over-side : (half : Bool) (M x j : ℕ) → M < x → j ≤ M → side_of half Over j ≡ compared x j
        over-side half M x j g h = grind arith
