-- A run with whole delays is a chain of ticked places: a trial for each unit of a delay and for each discrete step.
use Rattle.std.proofs.Common.{◌≡◌, ℕ, zero, suc, ◌*◌, ◌≤◌, Bool, List, [], ◌∷◌, sym, subst, arith}
use Rattle.judging.specs.Truth.{View}
use Rattle.kinds.specs.Time.{Chain, from, more}
use Rattle.kinds.specs.declared.steps.Step.{Step}
use Rattle.runs.specs.Runs.{State, first, later, Begins, Elapses, OneStep, waits, moves, Run, stop, on}
use Rattle.tables.specs.Settings.{Setting}
use Rattle.ticked.specs.declared.places.Place.{Place}
use Rattle.ticked.specs.Trials.{values, origin, elapsed, moved as moved_to, ticked}
use Rattle.timings.specs.Agreement.{Shows}
use Rattle.timings.specs.Theorems.{Whole}
use Rattle.timings.specs.TickedStanding.{Stands}
use Rattle.timings.proofs.TickedPlaces.{clock-later, begin, move}
use Rattle.timings.proofs.TickedSteps.{begins-tick, passes-tick, moves-tick}

-- a chain to a place that stands for the state
pub record ChainTo (K : Setting) (D : ℕ) (s : State) : Type 0 where
  pub start : ℕ
  pub trials : List ℕ
  pub place : Place
  pub chain : Chain (ticked K) start trials place
  pub stands : Stands K D place s

module _ (K : Setting) (q : View → Bool) (S : Shows K q) (D : ℕ) (some : 1 ≤ D) where
  begin-chain : (v : ℕ) → Begins K.table D v → ChainTo K D (first v)
  begin-chain v b =
      record {
        start = v;
        trials = [];
        place = origin K v;
        chain = from (origin K v) b.within (begins-tick K q S D v some b);
        stands = begin K q S D v;
      }

  -- no delay
  none-later : (p : Place) (s : State) → Stands K D p s → Stands K D p (later s (0 * D))
  none-later p s h =
      record {
        valuation = h.valuation;
        wholes = h.wholes;
        clocks = λ c l. omega (arith, clock-later s (0 * D) c (omega (arith, S.few)), h.clocks c l);
        ticks = h.ticks;
      }

  -- i units of k
  units : (s : State) (k i : ℕ) → i ≤ k → Elapses K.table D s (k * D) → ChainTo K D s → ChainTo K D (later s (i * D))
  units s k zero l e x = record { start = x.start; trials = x.trials; place = x.place; chain = x.chain; stands = none-later x.place s x.stands }
  units s k (suc i) l e x =
      let y = units s k i (omega arith) e x in
      let g = passes-tick K q S D k i y.place s some l e y.stands in
      record {
        start = y.start;
        trials = 0 ∷ y.trials;
        place = elapsed K y.place;
        chain = more 0 (elapsed K y.place) y.chain (omega arith) g.0;
        stands = g.1;
      }

  one-chain : (s : State) (p : Step) (t : State) (k : ℕ) → p.delay ≡ k * D → OneStep K.table D s p t → ChainTo K D s → ChainTo K D t
  one-chain s p _ k d (waits z v e) x =
      subst (λ n. ChainTo K D (later s n)) (sym d) (units s k k (omega arith) (subst (Elapses K.table D s) d e) x)
  one-chain s p _ k d (moves z n m) x =
      let r = moved_to K (values K x.place.valuation) (values K p.valuation) x.place p.valuation in
      record {
        start = x.start;
        trials = suc p.valuation ∷ x.trials;
        place = r;
        chain = more (suc p.valuation) r x.chain (omega (arith, m.within)) (moves-tick K q S D x.place s p.valuation some x.stands m);
        stands = move K q S D x.place s p.valuation some x.stands;
      }

  all-chain : (s t : State) (ps : List Step) → Run K.table D s ps t → Whole D ps → ChainTo K D s → ChainTo K D t
  unfolding Whole
  all-chain s _ _ stop w x = x
  all-chain s t _ (on {t = r} {rest = rest} p o rs) w x = all-chain r t rest rs w.1 (one-chain s p r w.0.0 w.0.1 o x)

  pub ticks-of-run : (v : ℕ) (ps : List Step) (t : State) → Begins K.table D v → Run K.table D (first v) ps t → Whole D ps → ChainTo K D t
  ticks-of-run v ps t b r w = all-chain (first v) t ps r w (begin-chain v b)
