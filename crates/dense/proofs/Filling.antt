-- The records of a chain's steps, filled one after the other.
use Rattle.std.proofs.Common.{◌≡◌, ℕ, suc, ◌+◌, ◌<◌, ◌≤◌, List, [], ◌∷◌, ◌++◌, reverse, length, get_or, take, Some, None, Option, sym, refl, ap, ◌∙◌, subst, arith}
use Rattle.std.proofs.lemmas.List.{take_all, drop_all, append-nil}
use Rattle.kinds.specs.declared.steps.Step.{Step}
use Rattle.kinds.specs.Steps.{delay_of, redelayed, trials_of, Delayed}
use Rattle.regions.specs.declared.places.Place.{Place}
use Rattle.tables.specs.Settings.{Setting}
use Rattle.dense.specs.Delays.{Timing, stuck, arriving, trying, timing}
use Rattle.dense.specs.Trials.{starting, stepping, dense}
use Rattle.dense.specs.Timed.{timing-next, delays-each}
use Rattle.dense.proofs.Bounded.{Within, bounded}
use Rattle.dense.proofs.Spelled.{none, filled, refilled, here-is, trials-are, trials-more}
use Rattle.dense.proofs.Advancing.{trials-each}

-- a trial that gave o, in place of one that is looked up
abbrev pub giving : Option Place → Place → ℕ → Option Place
giving o p t = o

abbrev pub state : Option Place → ℕ → List ℕ → List ℕ → Timing
state o D fs ds = record { place = o; parts = D; fractions = fs; delays = ds }

-- from nothing, or to nothing
pub nowhere : (o next : Option Place) (t : ℕ) (s : Timing) → ((p q : Place) → o ≡ Some p → next ≡ Some q → ⊥) → trying (giving next) t o s ≡ stuck s
nowhere None next t s h = refl
nowhere (Some p) None t s h = refl
nowhere (Some p) (Some q) t s h = absurd (h p q refl refl)

arrived : (t : ℕ) (p : Place) (o : Option Place) (s : Timing) → (arriving t p o s).place ≡ o
arrived t p None s = refl
arrived t p (Some q) s = refl

-- what a trial gave is what the step gives
given : (step : Place → ℕ → Option Place) (o next : Option Place) (t : ℕ) (s : Timing) → (o ≡ None → next ≡ None) → ((p : Place) → o ≡ Some p → next ≡ step p t) → (trying (giving next) t o s ≡ trying step t o s) × (next ≡ (trying step t o s).place)
given step None next t s n g = (refl, n refl)
given step (Some p) next t s n g = (ap (λ a. arriving t p a s) (g p refl), g p refl ∙ sym (arrived t p (step p t) s))

refilled_all : (ps : List Step) (i : ℕ) (ds es : List ℕ) → i < length ps → length ds ≡ i → length es ≡ suc i → filled (i + 1) (filled i ps ds) es ≡ filled (i + 1) ps es
refilled_all ps i ds [] less each other = absurd (omega arith)
refilled_all ps i ds (w ∷ es) less each other = refilled ps i ds es w less each (omega arith)

module _ (first : Option Place) (step : Place → ℕ → Option Place) (ps : List Step) where
  -- after the first i steps
  abbrev pub after : ℕ → Timing
  after i = timing (λ _. first) step 0 (trials_of (take i ps))

  pub record Filled (i : ℕ) (xs : List Step) (o : Option Place) (D : ℕ) (fs : List ℕ) : Type 0 where
    pub steps : xs ≡ filled i ps (after i).delays
    pub place : o ≡ (after i).place
    pub parts : D ≡ (after i).parts
    pub fractions : fs ≡ (after i).fractions

  pub begins : Filled 0 ps first 1 (0 ∷ 0 ∷ 0 ∷ 0 ∷ [])
  unfolding timing redelayed
  begins = record { steps = refl; place = refl; parts = refl; fractions = refl }

  each : (i : ℕ) → i < length ps → length (after i).delays ≡ i
  each i l = delays-each (λ _. first) step 0 (trials_of (take i ps)) ∙ trials-each ps i l ps 0

  next-is : (i : ℕ) → i < length ps → after (i + 1) ≡ trying step (get_or ps i none).delay (after i).place (after i)
  next-is i l = ap (timing (λ _. first) step 0) (trials-more ps i l) ∙ timing-next (λ _. first) step 0 (get_or ps i none).delay (trials_of (take i ps))

  module _ (i : ℕ) (xs : List Step) (o : Option Place) (D : ℕ) (fs : List ℕ) (less : i < length ps) (f : Filled i xs o D fs) where
    pub trials-now : trials_of (take i xs) ≡ (after i).delays
    trials-now = ap (λ l. trials_of (take i l)) f.steps ∙ trials-are ps i (after i).delays less (each i less)

    pub trial-now : get_or xs i none ≡ get_or ps i none
    trial-now = ap (λ l. get_or l i none) f.steps ∙ here-is ps i (after i).delays less (each i less)

    pub few : length ps ≤ 65534 → D ≤ 65535
    few h = omega (arith, f.parts, (bounded (λ _. first) step 0 (trials_of (take i ps))).few, trials-each ps i less ps 0)

    pub fractions-few : Within D fs
    fractions-few = subst (λ l. Within D l) (sym f.fractions) (subst (λ n. Within n (after i).fractions) (sym f.parts) (bounded (λ _. first) step 0 (trials_of (take i ps))).fractions)

    pub delays-few : Within D (trials_of (take i xs))
    delays-few = subst (λ l. Within D l) (sym trials-now) (subst (λ n. Within n (after i).delays) (sym f.parts) (bounded (λ _. first) step 0 (trials_of (take i ps))).delays)

    now-is : state o D fs (trials_of (take i xs)) ≡ after i
    now-is = λ k. record { place = f.place k; parts = f.parts k; fractions = f.fractions k; delays = trials-now k }

    -- one turn
    pub turn : (t : ℕ) (next : Option Place) (ys : List Step) (E : ℕ) (gs : List ℕ) → t ≡ (get_or xs i none).delay → (o ≡ None → next ≡ None) → ((p : Place) → o ≡ Some p → next ≡ step p t) → E ≡ (trying (giving next) t o (state o D fs (trials_of (take i xs)))).parts → gs ≡ (trying (giving next) t o (state o D fs (trials_of (take i xs)))).fractions → ys ≡ filled (i + 1) xs (trying (giving next) t o (state o D fs (trials_of (take i xs)))).delays → Filled (i + 1) ys next E gs
    turn t next ys E gs tr none-on some-on e g y =
        let s = state o D fs (trials_of (take i xs)) in
        let h : (trying (giving next) t o s ≡ trying step t o s) × (next ≡ (trying step t o s).place) = given step o next t s none-on some-on in
        let u : trying step t o s ≡ after (i + 1) =
        ap (trying step t o) now-is ∙ ap (λ a. trying step t a (after i)) f.place
        ∙ ap (λ a. trying step a (after i).place (after i)) (tr ∙ ap delay_of trial-now)
        ∙ sym (next-is i less) in
        let v : trying (giving next) t o s ≡ after (i + 1) = h.0 ∙ u in
        let long : length (after (i + 1)).delays ≡ suc i =
        delays-each (λ _. first) step 0 (trials_of (take (i + 1) ps)) ∙ ap length (trials-more ps i less) ∙ ap suc (trials-each ps i less ps 0) in
        record {
          steps = y ∙ ap (λ r. filled (i + 1) xs r.delays) v ∙ ap (λ l. filled (i + 1) l (after (i + 1)).delays) f.steps ∙ refilled_all ps i (after i).delays (after (i + 1)).delays less (each i less) long;
          place = h.1 ∙ ap (λ r. r.place) u;
          parts = e ∙ ap (λ r. r.parts) v;
          fractions = g ∙ ap (λ r. r.fractions) v;
        }

  -- all steps
  pub whole : (i : ℕ) (xs : List Step) (o : Option Place) (D : ℕ) (fs : List ℕ) → length ps ≤ i → Filled i xs o D fs → (D ≡ (timing (λ _. first) step 0 (trials_of ps)).parts) × (xs ≡ redelayed ps (reverse (timing (λ _. first) step 0 (trials_of ps)).delays))
  whole i xs o D fs l f =
      let a : take i ps ≡ ps = take_all i ps l in
      let b : after i ≡ timing (λ _. first) step 0 (trials_of ps) = ap (λ q. timing (λ _. first) step 0 (trials_of q)) a in (
        f.parts ∙ ap (λ r. r.parts) b,
        f.steps ∙ ap (λ r. filled i ps r.delays) b ∙ ap (λ q. redelayed (take i ps) (reverse (timing (λ _. first) step 0 (trials_of ps)).delays) ++ q) (drop_all i ps l) ∙ append-nil (redelayed (take i ps) (reverse (timing (λ _. first) step 0 (trials_of ps)).delays)) ∙ ap (λ q. redelayed q (reverse (timing (λ _. first) step 0 (trials_of ps)).delays)) a,
      )

-- of the first place of a chain only the place counts
from_place : (start : ℕ → Option Place) (step : Place → ℕ → Option Place) (i : ℕ) (is : List ℕ) → timing (λ _. start i) step 0 is ≡ timing start step i is
unfolding timing
from_place start step i [] = refl
from_place start step i (t ∷ is) = ap (λ s. trying step t s.place s) (from_place start step i is)

module _ (K : Setting) (i : ℕ) (ps qs : List Step) (o : Option Place) (r : ℕ) where
  pub delayed : length ps ≤ 65534 → o ≡ starting K i → r ≡ (timing (λ _. o) (stepping K) 0 (trials_of ps)).parts → qs ≡ redelayed ps (reverse (timing (λ _. o) (stepping K) 0 (trials_of ps)).delays) → Delayed (dense K) i ps qs r
  delayed l e a b =
      let same : timing (λ _. o) (stepping K) 0 (trials_of ps) ≡ timing (starting K) (stepping K) i (trials_of ps) =
      ap (λ p. timing (λ _. p) (stepping K) 0 (trials_of ps)) e ∙ from_place (starting K) (stepping K) i (trials_of ps) in
      record {
        parts = λ _. a ∙ ap (λ s. s.parts) same;
        filled = λ _. b ∙ ap (λ s. redelayed ps (reverse s.delays)) same;
        long = λ h. absurd (omega arith);
      }
