-- Every run is followed by a dense chain.
use Rattle.std.proofs.Common.{◌≡◌, ℕ, suc, ◌+◌, ◌*◌, ◌<◌, ◌≤◌, Bool, true, false, cond, List, [], ◌∷◌, sym, refl, ap, ◌∙◌, subst, arith}
use Rattle.judging.specs.Truth.{View}
use Rattle.kinds.specs.Time.{Chain, from, more, Reaches as Chained}
use Rattle.tables.specs.Settings.{Setting}
use Rattle.regions.specs.declared.clocks.Clock.{Clock}
use Rattle.regions.specs.declared.places.Place.{Place}
use Rattle.regions.specs.Clocks.{at}
use Rattle.regions.specs.Regions.{after}
use Rattle.kinds.specs.declared.steps.Step.{Step}
use Rattle.runs.specs.Runs.{State, clock, view, now, first, later, finer, moved, Begins, Elapses, Moves, OneStep, waits, moves, Run, stop, on}
use Rattle.runs.proofs.Four.{at-four}
use Rattle.dense.specs.Trials.{dense, values, origin, elapsed, moved as entering}
use Rattle.timings.specs.Agreement.{Agrees, ceiling_of, Shows}
use Rattle.timings.specs.Theorems.{answers_in, SomeRun}
use Rattle.timings.specs.Standing.{Stands}
use Rattle.timings.proofs.Standing.{same-clocks}
use Rattle.timings.proofs.Half.{Met, same_met, elapse-walk}
use Rattle.timings.proofs.Move.{reset}
use Rattle.timings.proofs.Tidy.{tidied}
use Rattle.timings.proofs.Truth.{valued, agrees, agrees-alone, at-later, at-moment, origin-stands, at_first}
use Rattle.timings.proofs.Trying.{sight, alone, occurs, elapsed-at, moved_at, begins, passes, enters}

-- a place of a chain, with a valuation v and clocks ps
pub record Led (K : Setting) (v : ℕ) (ps : ℕ → Clock) : Type 0 where
  pub start : ℕ
  pub trials : List ℕ
  pub place : Place
  pub chain : Chain (dense K) start trials place
  pub within : v ≡ place.valuation
  pub clocks : at place.clocks ≡ ps

-- it stands for a state
abbrev pub Followed : Setting → ℕ → State → Type 0
Followed K D s = Met K.clocks D (ceiling_of K) (clock s) (Led K s.valuation)

module _ (K : Setting) (q : View → Bool) (k : Shows K q) (D : ℕ) (pos : 0 < D) where
  four : (c : ℕ) → c < K.clocks → c < 4
  four c h = omega (arith, k.few)

  pub followed-start : (v : ℕ) → Begins K.table D v → Followed K D (first v)
  followed-start v b =
      record { place = at (origin K v).clocks; parts = λ c. 0; stands = t; holds = record { start = v; trials = []; place = origin K v; chain = from (origin K v) b.within (begins K v (record { within = b.within; starts = k.start (alone K (origin K v)) (now K.table D (first v)) refl refl ∙ b.starts; valid = sym (k.invariant (now K.table D (first v)) (alone K (origin K v)) (agrees-alone K D (first v) (origin K v) refl (λ c. 0, t))) ∙ b.valid })); within = refl; clocks = refl } }
    where
      t : Stands K.clocks D (ceiling_of K) (clock (first v)) (λ c. 0) (at (origin K v).clocks)
      t = origin-stands K k.few D pos v (clock (first v)) (λ c h. at_first v c (four c h))

  pub followed-wait : (s : State) (d : ℕ) → Elapses K.table D s d → Followed K D s → Followed K D (later s d)
  followed-wait s d e f = same_met (λ c h. at-later s d c (four c h)) (elapse-walk K.clocks D d (ceiling_of K) (clock s) (Led K s.valuation) step f)
    where
      step : (a : ℕ) → 0 < a → a ≤ 2 * d → (ps : ℕ → Clock) (fs : ℕ → ℕ) → Led K s.valuation ps → Stands K.clocks (2 * D) (ceiling_of K) (λ c. 2 * clock s c + a) fs (after K.clocks (ceiling_of K) ps) → Led K s.valuation (after K.clocks (ceiling_of K) ps)
      step a h i ps fs r st =
          let p : Place = r.place in
          let u : State = later (finer 2 s) a in
          let n : at (elapsed K p).clocks ≡ after K.clocks (ceiling_of K) ps = elapsed-at K k.few k.none p (occurs K k.few k.none r.chain) ∙ ap (after K.clocks (ceiling_of K)) r.clocks in
          let t : Stands K.clocks (2 * D) (ceiling_of K) (clock u) fs (at (elapsed K p).clocks) = subst (Stands K.clocks (2 * D) (ceiling_of K) (clock u) fs) (sym n) (same-clocks (λ c l. at-moment s 2 a c (four c l)) st) in
          let w : valued K p.valuation ≡ valued K s.valuation = ap (valued K) (sym r.within) in
          let calm : K.table.urgent (alone K p) ≡ false = k.urgent (alone K p) (now K.table D s) w w ∙ e.calm in
          let valid : K.table.invariant (alone K (elapsed K p)) ≡ true = sym (k.invariant (now K.table (2 * D) u) (alone K (elapsed K p)) (agrees-alone K (2 * D) u (elapsed K p) r.within (fs, t))) ∙ e.valid 2 a (omega arith) h i in
          record { start = r.start; trials = 0 ∷ r.trials; place = elapsed K p; chain = more 0 (elapsed K p) r.chain (omega arith) (passes K p calm valid); within = r.within; clocks = n }

  pub followed-go : (s : State) (w : ℕ) → Moves K.table D s w → Followed K D s → Followed K D (moved K.table D s w)
  followed-go s w e f =
      record { place = at next.clocks; parts = fs; stands = st; holds = record { start = r.start; trials = suc w ∷ r.trials; place = next; chain = more (suc w) next r.chain (omega (arith, e.within)) (enters K p w e.within allowed valid); within = refl; clocks = refl } }
    where
      r : Led K s.valuation f.place
      r = f.holds

      p : Place
      p = r.place

      u : State
      u = moved K.table D s w

      next : Place
      next = entering K (values K p.valuation) (values K w) p w

      s-p : Stands K.clocks D (ceiling_of K) (clock s) f.parts (at p.clocks)
      s-p = subst (Stands K.clocks D (ceiling_of K) (clock s) f.parts) (sym r.clocks) f.stands

      like : Agrees K.clocks (ceiling_of K) (view K.table D s w) (sight K p w)
      like = agrees K D s p r.within (f.parts, s-p) w

      rs : ℕ → Bool
      rs c = K.table.reset c (sight K p w)

      fs : ℕ → ℕ
      fs c = cond (K.table.reset c (sight K p w)) 0 (f.parts c)

      clocks : (c : ℕ) → c < K.clocks → cond (K.table.reset c (sight K p w)) 0 (clock s c) ≡ clock u c
      clocks c h =
          ap (λ b. cond b 0 (clock s c)) (sym (k.reset c (view K.table D s w) (sight K p w) like)) ∙ sym (at-four (λ c. cond (K.table.reset c (view K.table D s w)) 0 (clock s c)) c (four c h))

      st : Stands K.clocks D (ceiling_of K) (clock u) fs (at next.clocks)
      st =
          subst (Stands K.clocks D (ceiling_of K) (clock u) fs) (sym (moved_at K k.few k.none p w (occurs K k.few k.none r.chain))) (same-clocks clocks (tidied (reset K.clocks D (ceiling_of K) (clock s) f.parts (at p.clocks) rs pos s-p)))

      allowed : K.table.transition (sight K p w) ≡ true
      allowed = sym (k.transition (view K.table D s w) (sight K p w) like) ∙ e.allowed

      valid : K.table.invariant (alone K next) ≡ true
      valid = sym (k.invariant (now K.table D u) (alone K next) (agrees-alone K D u next refl (fs, st))) ∙ e.valid

  followed-one : (s : State) (p : Step) (t : State) → OneStep K.table D s p t → Followed K D s → Followed K D t
  followed-one s p _ (waits i j e) f = followed-wait s p.delay e f
  followed-one s p _ (moves i j e) f = followed-go s p.valuation e f

  pub followed : {s t : State} {steps : List Step} → Run K.table D s steps t → Followed K D s → Followed K D t
  followed stop f = f
  followed (on {s = s} {t = t} p o r) f = followed r (followed-one s p t o f)

-- a run that reaches a question is followed by a chain that does
pub to-chain : (K : Setting) (q : View → Bool) → Shows K q → SomeRun K.table q → Chained (dense K) (answers_in K.table q)
to-chain K q k r =
    let s : State = r.reaches.leads.last in
    let f = followed K q k r.parts r.some r.reaches.leads.run (followed-start K q k r.parts r.some r.start r.reaches.begins) in
    let e : valued K f.holds.place.valuation ≡ valued K s.valuation = ap (valued K) (sym f.holds.within) in
    record { start = f.holds.start; trials = f.holds.trials; place = f.holds.place; chain = f.holds.chain; answers = k.asked _ (now K.table r.parts s) e e ∙ r.reaches.leads.asked }
