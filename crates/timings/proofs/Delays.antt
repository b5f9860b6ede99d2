-- The delays of every dense chain make a run through its places.
use Rattle.std.proofs.Common.{◌≡◌, ℕ, suc, ◌+◌, ◌*◌, ◌<◌, Bool, true, cond, List, [], ◌∷◌, sym, refl, ap, ◌∙◌, subst, ap₂, ⊎_elim, arith}
use Rattle.judging.specs.Truth.{View}
use Rattle.tables.specs.Settings.{Setting}
use Rattle.regions.specs.declared.places.Place.{Place}
use Rattle.regions.specs.Clocks.{at}
use Rattle.runs.specs.Runs.{State, clock, four_of, view, now, first, later, finer, moved, Begins, Elapses, Moves, OneStep, waits, moves}
use Rattle.runs.proofs.Four.{at-four}
use Rattle.dense.specs.Trials.{dense, origin}
use Rattle.timings.specs.Agreement.{ceiling_of, Shows}
use Rattle.timings.specs.Standing.{Standing}
use Rattle.timings.specs.Through.{step_for, Through, begin, next, Runs, DenseRegion}
use Rattle.timings.proofs.Standing.{same-clocks}
use Rattle.timings.proofs.Build.{traced}
use Rattle.timings.proofs.Joined.{not-elapse}
use Rattle.timings.proofs.Passage.{Passage, moment}
use Rattle.timings.proofs.Trace.{Trace, begin as first-place, wait, enter, standing}
use Rattle.timings.proofs.Truth.{agrees, agrees-alone, at-moment}
use Rattle.timings.proofs.Trying.{sight, alone, begins, Passed, Entered}

-- the state of clocks that are given by a function
abbrev state : (ℕ → ℕ) → Place → State
state xs p = record { valuation = p.valuation; clocks = four_of xs }

same-four : (f g : ℕ → ℕ) → ((c : ℕ) → c < 4 → f c ≡ g c) → four_of f ≡ four_of g
same-four f g h =
    let a = h 0 (omega arith) in
    let b = h 1 (omega arith) in
    let c = h 2 (omega arith) in
    let d = h 3 (omega arith) in
    cc

same-state : (v u : ℕ) (xs ys : List ℕ) → v ≡ u → xs ≡ ys → ◌≡◌ {A = State} (record { valuation = v; clocks = xs }) (record { valuation = u; clocks = ys })
same-state v u xs ys e h = cc

module _ (K : Setting) (q : View → Bool) (k : Shows K q) (D i : ℕ) (pos : 0 < D) where
  valid-place : {is ds : List ℕ} {xs : ℕ → ℕ} {p : Place} → Trace K D i is ds xs p → K.table.invariant (alone K p) ≡ true
  valid-place (first-place e b) = b.valid
  valid-place (wait p q d l m t h u g e) = u.valid
  valid-place (enter p q w t h u e) = u.valid

  four : (c : ℕ) → c < K.clocks → c < 4
  four c h = omega (arith, k.few)

  stands_at : {is ds : List ℕ} {xs : ℕ → ℕ} {p : Place} → Trace K D i is ds xs p → Standing K.clocks D (ceiling_of K) (clock (state xs p)) (at p.clocks)
  stands_at {is} {ds} {xs} {p} t =
      let s = standing K k.few D i pos t in
      (s.0, same-clocks (λ c h. sym (at-four xs c (four c h))) s.1)

  elapses-so : {is ds : List ℕ} {xs : ℕ → ℕ} (p p' : Place) (d : ℕ) → Trace K D i is ds xs p → Passed K p p' → Passage K.clocks D (ceiling_of K) xs (at p.clocks) d → Elapses K.table D (state xs p) d
  elapses-so {is} {ds} {xs} p p' d t u g =
      record { calm = k.urgent (now K.table D s) (alone K p) refl refl ∙ u.calm; valid = λ n a h l j. ⊎_elim (λ w. sides n a p refl w ∙ valid-place t) (λ w. sides n a p' u.stays (subst (Standing K.clocks (n * D) (ceiling_of K) (λ c. n * xs c + a)) (sym u.clocks) w) ∙ u.valid) (moment g n a h l j) }
    where
      s : State
      s = state xs p

      sides : (n a : ℕ) (r : Place) → p.valuation ≡ r.valuation → Standing K.clocks (n * D) (ceiling_of K) (λ c. n * xs c + a) (at r.clocks) → K.table.invariant (now K.table (n * D) (later (finer n s) a)) ≡ K.table.invariant (alone K r)
      sides n a r e w =
          k.invariant (now K.table (n * D) (later (finer n s) a)) (alone K r) (agrees-alone K (n * D) (later (finer n s) a) r e (w.0, same-clocks (λ c h. ap (λ x. n * x + a) (sym (at-four xs c (four c h))) ∙ at-moment s n a c (four c h)) w.1))

  later-is : (xs ys : ℕ → ℕ) (p p' : Place) (d : ℕ) → p.valuation ≡ p'.valuation → ((c : ℕ) → ys c ≡ xs c + d) → later (state xs p) d ≡ state ys p'
  later-is xs ys p p' d v e =
      same-state p.valuation p'.valuation (four_of (λ c. clock (state xs p) c + d)) (four_of ys) v (same-four (λ c. clock (state xs p) c + d) ys (λ c h. ap (λ x. x + d) (at-four xs c h) ∙ sym (e c)))

  moved-is : {is ds : List ℕ} {xs ys : ℕ → ℕ} (p p' : Place) (w : ℕ) → Trace K D i is ds xs p → w ≡ p'.valuation → ((c : ℕ) → ys c ≡ cond (K.table.reset c (sight K p w)) 0 (xs c)) → moved K.table D (state xs p) w ≡ state ys p'
  moved-is {is} {ds} {xs} {ys} p p' w t v e =
      same-state w p'.valuation (four_of (λ c. cond (K.table.reset c (view K.table D s w)) 0 (clock s c))) (four_of ys) v (same-four (λ c. cond (K.table.reset c (view K.table D s w)) 0 (clock s c)) ys (λ c h. ap₂ (λ b x. cond b 0 x) (k.reset c (view K.table D s w) (sight K p w) (agrees K D s p refl (stands_at t) w)) (at-four xs c h) ∙ sym (e c)))
    where
      s : State
      s = state xs p

  moves_so : {is ds : List ℕ} {xs ys : ℕ → ℕ} (p p' : Place) (w : ℕ) → Trace K D i is ds xs p → Entered K p w p' → ((c : ℕ) → ys c ≡ cond (K.table.reset c (sight K p w)) 0 (xs c)) → Standing K.clocks D (ceiling_of K) (clock (state ys p')) (at p'.clocks) → Moves K.table D (state xs p) w
  moves_so {is} {ds} {xs} {ys} p p' w t u e st =
      record { within = u.within; allowed = k.transition (view K.table D (state xs p) w) (sight K p w) (agrees K D (state xs p) p refl (stands_at t) w) ∙ u.allowed; valid = subst (λ s. K.table.invariant (now K.table D s) ≡ true) (sym (moved-is {ys = ys} p p' w t u.comes e)) (k.invariant (now K.table D (state ys p')) (alone K p') (agrees-alone K D (state ys p') p' refl st) ∙ u.valid) }

  -- the states of a trace
  pub through : {is ds : List ℕ} {xs : ℕ → ℕ} {p : Place} → Trace K D i is ds xs p → Through (dense K) K.table (DenseRegion K D) D i is ds (state xs p) p
  through {xs = xs} (first-place e b) =
      let z : first i ≡ state xs (origin K i) = same-state i i (four_of (λ _. 0)) (four_of xs) refl (same-four (λ _. 0) xs (λ c h. sym (e c))) in
      let s : Standing K.clocks D (ceiling_of K) (clock (state xs (origin K i))) (at (origin K i).clocks) = stands_at {is = []} {ds = []} {xs = xs} {p = origin K i} (first-place e b) in
      let g : Begins K.table D i = record { within = b.within; starts = k.start (now K.table D (first i)) (alone K (origin K i)) refl refl ∙ b.starts; valid = ap (λ s. K.table.invariant (now K.table D s)) z ∙ k.invariant (now K.table D (state xs (origin K i))) (alone K (origin K i)) (agrees-alone K D (state xs (origin K i)) (origin K i) refl s) ∙ b.valid } in
      let r : DenseRegion K D (first i) (origin K i) = subst (λ s. DenseRegion K D s (origin K i)) (sym z) (refl, s) in
      subst (λ s. Through (dense K) K.table (DenseRegion K D) D i [] [] s (origin K i)) z (begin (origin K i) g (begins K i b) r)
  through {xs = ys} (wait {is = is} {ds = ds} {xs = xs} p p' d l m t h u g e) =
      let r : DenseRegion K D (state ys p') p' = (refl, stands_at {is = 0 ∷ is} {ds = d ∷ ds} {xs = ys} {p = p'} (wait p p' d l m t h u g e)) in
      let o : OneStep K.table D (state xs p) (step_for 0 p'.valuation d) (later (state xs p) d) = waits refl (sym u.stays) (elapses-so p p' d t u g) in
      next 0 d (state ys p') p' (through t) h (subst (OneStep K.table D (state xs p) (step_for 0 p'.valuation d)) (later-is xs ys p p' d u.stays e) o) r
  through {xs = ys} (enter {is = is} {ds = ds} {xs = xs} p p' w t h u e) =
      let st : Standing K.clocks D (ceiling_of K) (clock (state ys p')) (at p'.clocks) = stands_at {is = suc w ∷ is} {ds = 0 ∷ ds} {xs = ys} {p = p'} (enter p p' w t h u e) in
      let o : OneStep K.table D (state xs p) (step_for (suc w) w 0) (moved K.table D (state xs p) w) = moves (ap (λ b. cond b 0 1) (not-elapse w)) refl (moves_so {ys = ys} p p' w t u e st) in
      let o' : OneStep K.table D (state xs p) (step_for (suc w) p'.valuation 0) (moved K.table D (state xs p) w) = subst (λ v. OneStep K.table D (state xs p) (step_for (suc w) v 0) (moved K.table D (state xs p) w)) u.comes o in
      next (suc w) 0 (state ys p') p' (through t) h (subst (OneStep K.table D (state xs p) (step_for (suc w) p'.valuation 0)) (moved-is {xs = xs} {ys = ys} p p' w t u.comes e) o') (refl, st)

pub dense-runs : (K : Setting) (q : View → Bool) → Shows K q → Runs (dense K) K.table (DenseRegion K)
dense-runs K q k =
    record { through = λ i is p c. let t = traced K k.few k.none i c in (state t.clocks p, through K q k ((dense K).parts i is) i t.some t.trace) }
