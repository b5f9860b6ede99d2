-- What is true of the places of dense time.
use Rattle.std.proofs.Common.{◌≡◌, ℕ, zero, suc, ◌+◌, ◌*◌, ◌<◌, ◌≤◌, Bool, true, false, ltb, List, sym, refl, ap, ◌∙◌, arith}
use Rattle.std.proofs.lemmas.Bool.{ltb-true}
use Rattle.instruction.specs.Sizes.{product}
use Rattle.judging.specs.Truth.{View, compared}
use Rattle.kinds.proofs.Equal.{given, given-below}
use Rattle.kinds.specs.Time.{Chain, from, more}
use Rattle.tables.specs.Tables.{four as four-bools}
use Rattle.tables.specs.Settings.{Setting}
use Rattle.regions.specs.declared.clocks.Clock.TheVariants.{Over, Counted}
use Rattle.regions.specs.declared.places.Place.{Place}
use Rattle.regions.specs.Clocks.{at, limit, four_of, trim_all, capped, restarted, hit, Sound}
use Rattle.regions.specs.Regions.{tidy, elapsed as elapsing, side_of, rank_of}
use Rattle.regions.specs.Promise.{Elapsed, Cleared}
use Rattle.regions.proofs.Alike.{no_gaps, alike-one}
use Rattle.regions.proofs.Closing.{tidy-same}
use Rattle.regions.proofs.Fours.{below-four, same-four, over-at}
use Rattle.regions.proofs.Same.{place-by}
use Rattle.regions.proofs.Told.{elapse-told, reset-told}
use Rattle.dense.specs.Trials.{place, shown, begun, origin, elapsed, moved, values, dense, Occurs, Regional}

module _ (K : Setting) where
  -- the first place of a run
  begun-none : (c : ℕ) → K.clocks ≤ c → begun K.clocks c ≡ Over
  begun-none c l = go (ltb c K.clocks) refl
    where
      go : (b : Bool) → ltb c K.clocks ≡ b → begun K.clocks c ≡ Over
      go true e = absurd (omega (arith, ltb-true c K.clocks e))
      go false e = rw e refl

  begun-sound : (M c : ℕ) → Sound M (begun K.clocks c)
  begun-sound M c = go (ltb c K.clocks) refl
    where
      go : (b : Bool) → ltb c K.clocks ≡ b → Sound M (begun K.clocks c)
      go true e = rw e (omega arith, λ _. refl, omega arith)
      go false e = rw e tt

  begun-sharp : (c : ℕ) → rank_of (begun K.clocks c) ≡ 0
  begun-sharp c = go (ltb c K.clocks) refl
    where
      go : (b : Bool) → ltb c K.clocks ≡ b → rank_of (begun K.clocks c) ≡ 0
      go true e = rw e refl
      go false e = rw e refl

  first-occurs : (v : ℕ) → v < product K.table.counts → Occurs K (origin K v)
  first-occurs v h =
      record {
        four = refl;
        sound = (begun-sound (limit K.ceilings 0) 0, begun-sound (limit K.ceilings 1) 1, begun-sound (limit K.ceilings 2) 2, begun-sound (limit K.ceilings 3) 3);
        gapless = λ c l k g m. absurd (omega (arith, below-four (λ d. rank_of (at (four_of (begun K.clocks)) d) ≡ 0) (begun-sharp 0) (begun-sharp 1) (begun-sharp 2) (begun-sharp 3) c l));
        past = λ c l. over-at (begun K.clocks) c (begun-none c l);
        within = h;
      }

  elapse-is : (p : Place) → Elapsed K.ceilings p.clocks (elapsed K p).clocks
  elapse-is p = elapse-told p.clocks K.ceilings (elapsed K p).clocks refl (no_gaps (elapsed K p).clocks (elapsing 4 (limit K.ceilings) (trim_all K.ceilings p.clocks)) refl)

  elapsed-occurs : K.clocks ≤ 4 → (p : Place) → Occurs K p → Occurs K (elapsed K p)
  elapsed-occurs n p o =
      let e = elapse-is p in
      record { four = refl; sound = e.sound; gapless = e.gapless; past = e.padded K.clocks n o.past; within = o.within }

  module _ (xs ys : List ℕ) (p : Place) (w : ℕ) where
    abbrev hits : List Bool
    hits = four-bools (λ c. K.table.reset c (shown xs ys p))

    hit-is : (c : ℕ) → c < 4 → hit hits c ≡ K.table.reset c (shown xs ys p)
    hit-is = below-four (λ c. hit hits c ≡ K.table.reset c (shown xs ys p)) refl refl refl refl

    by-hits : (moved K xs ys p w).clocks ≡ four_of (tidy 4 (λ c. capped (restarted (hit hits c) (at p.clocks c))))
    by-hits =
        same-four (tidy 4 (λ c. capped (restarted (K.table.reset c (shown xs ys p)) (at p.clocks c)))) (tidy 4 (λ c. capped (restarted (hit hits c) (at p.clocks c))))
        (tidy-same 4 (λ c. capped (restarted (K.table.reset c (shown xs ys p)) (at p.clocks c))) (λ c. capped (restarted (hit hits c) (at p.clocks c)))
        (λ c l. ap (λ b. capped (restarted b (at p.clocks c))) (sym (hit-is c l))))

    move-is : Cleared hits p.clocks (moved K xs ys p w).clocks
    move-is =
        reset-told p.clocks hits (moved K xs ys p w).clocks by-hits (no_gaps (moved K xs ys p w).clocks (λ c. capped (restarted (K.table.reset c (shown xs ys p)) (at p.clocks c))) refl)

    unhit : ((c : ℕ) (v : View) → K.clocks ≤ c → K.table.reset c v ≡ false) → (c : ℕ) → K.clocks ≤ c → hit hits c ≡ false
    unhit none zero l = none 0 (shown xs ys p) l
    unhit none (suc zero) l = none 1 (shown xs ys p) l
    unhit none (suc (suc zero)) l = none 2 (shown xs ys p) l
    unhit none (suc (suc (suc zero))) l = none 3 (shown xs ys p) l
    unhit none (suc (suc (suc (suc c)))) l = refl

    moved-occurs : ((c : ℕ) (v : View) → K.clocks ≤ c → K.table.reset c v ≡ false) → K.clocks ≤ 4 → w < product K.table.counts → Occurs K p → Occurs K (moved K xs ys p w)
    moved-occurs none n l o =
        let e = move-is in
        record { four = refl; sound = e.sound K.ceilings o.sound; gapless = e.gapless; past = e.padded K.clocks n o.past (unhit none); within = l }

    moved-exact : Occurs K p → moved K xs ys p w ≡ place w (four_of (tidy 4 (λ c. restarted (K.table.reset c (shown xs ys p)) (at p.clocks c))))
    moved-exact o =
        ap (place w)
        (move-is.exact K.ceilings o.sound
        ∙ same-four (tidy 4 (λ c. restarted (hit hits c) (at p.clocks c))) (tidy 4 (λ c. restarted (K.table.reset c (shown xs ys p)) (at p.clocks c)))
        (tidy-same 4 (λ c. restarted (hit hits c) (at p.clocks c)) (λ c. restarted (K.table.reset c (shown xs ys p)) (at p.clocks c))
        (λ c l. ap (λ b. restarted b (at p.clocks c)) (hit-is c l))))

  module _ (none : (c : ℕ) (v : View) → K.clocks ≤ c → K.table.reset c v ≡ false) (few : K.clocks ≤ 4) where
    occurs : (i : ℕ) (is : List ℕ) (p : Place) → Chain (dense K) i is p → Occurs K p
    occurs i _ _ (from p l h) = given-below (Occurs K) i (product K.table.counts) _ (origin K i) p h (λ l _. first-occurs i l)
    occurs i _ _ (more {is = is} {p = p} zero q c l h) = given (Occurs K) _ (elapsed K p) q h (λ _. elapsed-occurs few p (occurs i is p c))
    occurs i _ _ (more {is = is} {p = p} (suc w) q c l h) =
        let v = values K p.valuation in
        given-below (Occurs K) w (product K.table.counts) _ (moved K v (values K w) p w) q h
        (λ g _. moved-occurs v (values K w) p w none few g (occurs i is p c))

    pub regional : Regional K
    regional =
        record {
          chains = occurs;
          elapses = λ p o. ap (place p.valuation) ((elapse-is p).exact o.sound);
          moves = λ xs ys p w o. moved-exact xs ys p w o;
          one = λ p q o u v a. place-by p q v (alike-one p.clocks q.clocks o.four u.four o.gapless u.gapless a);
          whole = λ w j. refl;
          between = between;
          over = over;
        }
      where
        between : (w r j : ℕ) → 0 < r → side_of (Counted w r) j ≡ compared (2 * w + 1) (2 * j)
        between w r j h = grind arith

        over : (M x j : ℕ) → M < x → j ≤ M → side_of Over j ≡ compared x j
        over M x j g h = grind arith
