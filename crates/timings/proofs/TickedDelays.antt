-- A chain of ticked places is a run through them: an elapse of one unit or a discrete step for each trial.
use Rattle.std.proofs.Common.{ℕ, zero, suc, Bool, cond, eqb, List, ◌∷◌, map, sym, refl, ap, subst, arith}
use Rattle.judging.specs.Truth.{View}
use Rattle.kinds.specs.Time.{Chain, from, more}
use Rattle.runs.specs.Runs.{State, first, later, moved, OneStep, waits, moves}
use Rattle.tables.specs.Settings.{Setting}
use Rattle.ticked.specs.declared.places.Place.{Place}
use Rattle.ticked.specs.Trials.{ticked}
use Rattle.timings.specs.Agreement.{Shows}
use Rattle.timings.specs.Through.{step_for, Through, begin, next, Runs, TickedRegion}
use Rattle.timings.specs.TickedStanding.{Stands}
use Rattle.timings.proofs.Joined.{not-elapse, arrived}
use Rattle.timings.proofs.TickedPlaces.{begin as origin-stands}
use Rattle.timings.proofs.TickedSteps.{begun, passed, entered}

module _ (K : Setting) (q : View → Bool) (S : Shows K q) where
  -- with one part to a unit
  abbrev Along : ℕ → List ℕ → Place → Type 0
  Along i is p = (u : State) × Through (ticked K) K.table (TickedRegion K 1) 1 i is (map (λ t. cond (eqb t 0) 1 0) is) u p

  along : (i : ℕ) (is : List ℕ) (p : Place) → Chain (ticked K) i is p → Along i is p
  along i _ _ (from p l h) =
      let g = begun K q S i p h in
      let z : Stands K 1 p (first i) = subst (λ x. Stands K 1 x (first i)) (sym g.1) (origin-stands K q S 1 i) in
      (first i, begin p g.0 h z)
  along i _ _ (more {is = is} {p = p} zero r c l h) = go (along i is p c)
    where
      go : Along i is p → Along i (0 ∷ is) r
      go (s, t) =
          let g = passed K q S 1 p r s (omega arith) (arrived t) h in
          (later s 1, next 0 1 (later s 1) r t h (waits refl g.1.valuation g.0) g.1)
  along i _ _ (more {is = is} {p = p} (suc w) r c l h) = go (along i is p c)
    where
      go : Along i is p → Along i (suc w ∷ is) r
      go (s, t) =
          let g = entered K q S 1 p r s w (omega arith) (arrived t) h in
          let d : ℕ = cond (eqb (suc w) 0) 1 0 in
          let o : OneStep K.table 1 s (step_for (suc w) r.valuation d) (moved K.table 1 s w) = subst (λ v. OneStep K.table 1 s (step_for (suc w) v d) (moved K.table 1 s w)) (sym g.1.valuation) (moves (ap (λ b. cond b 0 1) (not-elapse w)) (ap (λ b. cond b 1 0) (not-elapse w)) g.0) in
          (moved K.table 1 s w, next (suc w) d (moved K.table 1 s w) r t h o g.1)

pub ticked-runs : (K : Setting) (q : View → Bool) → Shows K q → Runs (ticked K) K.table (TickedRegion K)
ticked-runs K q S = record { through = along K q S }
