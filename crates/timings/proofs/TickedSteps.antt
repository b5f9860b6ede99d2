-- A step of a ticked place is a step of the state that it stands for, with a delay of one unit or none.
use Rattle.std.proofs.Common.{◌≡◌, ℕ, zero, suc, ◌+◌, ◌*◌, ◌<◌, ◌≤◌, Bool, true, false, cond, ◌⊎◌, get_or, Some, None, sym, refl, ap, ◌∙◌, subst, inl, inr, mul-le-mul_right, suc-mul, arith}
use Rattle.std.proofs.lemmas.Bool.{cases_lt, and_parts, and_from, not_from_false, not-true, lt-ltb}
use Rattle.instruction.specs.Sizes.{product}
use Rattle.judging.specs.Truth.{View}
use Rattle.kinds.proofs.Equal.{given, given-below}
use Rattle.runs.specs.Runs.{State, now, first, later, finer, moved, Begins, Elapses, Moves}
use Rattle.tables.specs.Settings.{Setting}
use Rattle.ticked.specs.declared.places.Place.{Place}
use Rattle.ticked.specs.Trials.{only, values, origin, elapsed, shown, moved as moved_to, beginning, entering, starting, stepping}
use Rattle.timings.specs.Agreement.{Shows}
use Rattle.timings.specs.TickedStanding.{Past, Stands}
use Rattle.timings.proofs.TickedPlaces.{clock-later, clock-finer, begin, moment, unit, same_whole, same_half, move}

module _ (K : Setting) (q : View → Bool) (S : Shows K q) where
  -- what a place shows by itself
  abbrev own : Bool → Place → View
  own half p = shown K (values K p.valuation) (values K p.valuation) half p

  urgent-same : (D : ℕ) (p : Place) (s : State) → p.valuation ≡ s.valuation → K.table.urgent (own false p) ≡ K.table.urgent (now K.table D s)
  urgent-same D p s e = let f : ◌≡◌ {A = ℕ → ℕ} (λ i. get_or (values K p.valuation) i 0) (λ i. get_or (values K s.valuation) i 0) = ap (λ v. λ i. get_or (values K v) i 0) e in
      S.urgent (own false p) (now K.table D s) f f

  valid-whole : (D : ℕ) (p : Place) (s : State) → 1 ≤ D → Stands K D p s → K.table.invariant (own false p) ≡ K.table.invariant (now K.table D s)
  valid-whole D p s o h =
      ap (λ v. K.table.invariant (shown K (values K p.valuation) (values K v) false p)) h.valuation
      ∙ S.invariant _ _ (same_whole K q S D p s s.valuation o h)

  valid-half : (D e : ℕ) (p : Place) (s : State) → 0 < e → e < D → Past K D e p s → K.table.invariant (own true p) ≡ K.table.invariant (now K.table D s)
  valid-half D e p s o l h =
      ap (λ v. K.table.invariant (shown K (values K p.valuation) (values K v) true p)) h.valuation
      ∙ S.invariant _ _ (same_half K q S D e p s s.valuation o l h)

  -- start trials
  start_is : (D v : ℕ) → K.table.start (own false (origin K v)) ≡ K.table.start (now K.table D (first v))
  start_is D v = S.start _ _ refl refl

  pub begun : (i : ℕ) (p : Place) → starting K i ≡ Some p → Begins K.table 1 i × (p ≡ origin K i)
  begun i p h =
      given-below (λ x. Begins K.table 1 i × (x ≡ origin K i)) i (product K.table.counts) _ (origin K i) p h
      (λ l b. let g = and_parts _ _ b in (
        record {
          within = l;
          starts = sym (start_is 1 i) ∙ g.0;
          valid = sym (valid-whole 1 (origin K i) (first i) (omega arith) (begin K q S 1 i)) ∙ g.1;
        },
        refl,
      ))

  pub begins-tick : (D v : ℕ) → 1 ≤ D → Begins K.table D v → starting K v ≡ Some (origin K v)
  begins-tick D v o b =
      ap (λ x. cond x (beginning K (values K v) v) None) (lt-ltb v (product K.table.counts) b.within)
      ∙ ap (λ x. only x (origin K v)) (and_from _ _ (start_is D v ∙ b.starts) (valid-whole D (origin K v) (first v) o (begin K q S D v) ∙ b.valid))

  -- a unit passes exactly when every moment in it is valid
  pub passed : (D : ℕ) (p r : Place) (s : State) → 1 ≤ D → Stands K D p s → stepping K p zero ≡ Some r → Elapses K.table D s D × Stands K D r (later s D)
  passed D p r s o h e =
      given (λ x. Elapses K.table D s D × Stands K D x (later s D)) _ (elapsed K p) r e
      (λ h'. let a = and_parts _ _ h' in
      let b = and_parts _ _ a.1 in (
        record {
          calm = sym (urgent-same D p s h.valuation) ∙ not-true _ a.0;
          valid = λ n f l k m. go b.0 b.1 n f l k m (cases_lt f (n * D));
        },
        unit K q S D p (later s D) (subst (λ N. Past K N D p (later s D)) (omega arith) (moment K q S D 1 D p s (later s D) h refl (λ c l. clock-later s D c l ∙ omega arith))),
      ))
    where
      go : K.table.invariant (own true p) ≡ true → K.table.invariant (own false (elapsed K p)) ≡ true → (n f : ℕ) → 1 ≤ n → 0 < f → f ≤ n * D → (f < n * D) ⊎ (n * D ≤ f) → K.table.invariant (now K.table (n * D) (later (finer n s) f)) ≡ true
      go x y n f l k m (inl z) = sym (valid-half (n * D) f p (later (finer n s) f) k z (moment K q S D n f p s (later (finer n s) f) h refl (λ c i. clock-later (finer n s) f c i ∙ ap (λ u. u + f) (clock-finer n s c i)))) ∙ x
      go x y n f l k m (inr z) =
          sym (valid-whole (n * D) (elapsed K p) (later (finer n s) f) (omega arith) (unit K q S (n * D) p (later (finer n s) f) (subst (λ u. Past K (n * D) u p (later (finer n s) f)) (omega arith) (moment K q S D n f p s (later (finer n s) f) h refl (λ c i. clock-later (finer n s) f c i ∙ ap (λ u. u + f) (clock-finer n s c i)))))) ∙ y

  -- discrete steps
  pub entered : (D : ℕ) (p r : Place) (s : State) (w : ℕ) → 1 ≤ D → Stands K D p s → stepping K p (suc w) ≡ Some r → Moves K.table D s w × Stands K D r (moved K.table D s w)
  entered D p r s w o h e =
      let t = moved_to K (values K p.valuation) (values K w) p w in
      given-below (λ x. Moves K.table D s w × Stands K D x (moved K.table D s w)) w (product K.table.counts) _ t r e
      (λ l g. let b = and_parts _ _ g in (
        record {
          within = l;
          allowed = sym (S.transition _ _ (same_whole K q S D p s w o h)) ∙ b.0;
          valid = sym (valid-whole D t (moved K.table D s w) o (move K q S D p s w o h)) ∙ b.1;
        },
        move K q S D p s w o h,
      ))

  pub moves-tick : (D : ℕ) (p : Place) (s : State) (w : ℕ) → 1 ≤ D → Stands K D p s → Moves K.table D s w → stepping K p (suc w) ≡ Some (moved_to K (values K p.valuation) (values K w) p w)
  moves-tick D p s w o h m =
      let t = moved_to K (values K p.valuation) (values K w) p w in
      ap (λ x. cond x (entering K (values K p.valuation) (values K w) p w) None) (lt-ltb w (product K.table.counts) m.within)
      ∙ ap (λ x. only x t) (and_from _ _ (S.transition _ _ (same_whole K q S D p s w o h) ∙ m.allowed) (valid-whole D t (moved K.table D s w) o (move K q S D p s w o h) ∙ m.valid))

  -- one unit more of a delay of k units, i of them passed
  pub passes-tick : (D k i : ℕ) (p : Place) (s : State) → 1 ≤ D → i < k → Elapses K.table D s (k * D) → Stands K D p (later s (i * D)) → (stepping K p zero ≡ Some (elapsed K p)) × Stands K D (elapsed K p) (later s (suc i * D))
  passes-tick D k i p s o l e h =
      let row : suc i * D ≤ k * D = mul-le-mul_right D l in
      let m : Past K (2 * D) D p (later (finer 2 s) (2 * (i * D) + D)) = moment K q S D 2 D p (later s (i * D)) (later (finer 2 s) (2 * (i * D) + D)) h refl (λ c j. omega (arith, clock-later (finer 2 s) (2 * (i * D) + D) c j, clock-finer 2 s c j, clock-later s (i * D) c j)) in
      let u : Stands K D (elapsed K p) (later s (suc i * D)) = unit K q S D p (later s (suc i * D)) (subst (λ N. Past K N D p (later s (suc i * D))) (omega arith) (moment K q S D 1 D p (later s (i * D)) (later s (suc i * D)) h refl (λ c j. omega (arith, clock-later s (suc i * D) c j, clock-later s (i * D) c j, suc-mul i D)))) in
      let w : Stands K (1 * D) (elapsed K p) (later (finer 1 s) (suc i * D)) = moment K q S D 1 0 (elapsed K p) (later s (suc i * D)) (later (finer 1 s) (suc i * D)) u refl (λ c j. omega (arith, clock-later (finer 1 s) (suc i * D) c j, clock-finer 1 s c j, clock-later s (suc i * D) c j)) in (
        ap (λ x. only x (elapsed K p))
            (and_from _ _ (not_from_false _ (urgent-same D p s h.valuation ∙ e.calm))
            (and_from _ _
            (valid-half (2 * D) D p (later (finer 2 s) (2 * (i * D) + D)) (omega arith) (omega arith) m ∙ e.valid 2 (2 * (i * D) + D) (omega arith) (omega arith) (omega (arith, suc-mul i D)))
            (valid-whole (1 * D) (elapsed K p) (later (finer 1 s) (suc i * D)) (omega arith) w ∙ e.valid 1 (suc i * D) (omega arith) (omega (arith, suc-mul i D)) (omega arith)))),
        u,
      )
