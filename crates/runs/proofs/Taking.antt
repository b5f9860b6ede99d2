-- A step is taken exactly when its tests pass.
use Rattle.std.proofs.Common.{◌≡◌, ℕ, ◌+◌, ◌*◌, ◌<◌, ◌≤◌, true, false, cond, List, get_or, Some, None, sym, ap, ◌∙◌, subst, arith}
use Rattle.std.proofs.lemmas.Bool.{both_ways}
use Rattle.instruction.specs.Counts.{value_counts}
use Rattle.instruction.specs.Sizes.{product}
use Rattle.judging.specs.Truth.{compared}
use Rattle.judging.specs.Judging.{seen}
use Rattle.model.specs.declared.layout.Model.{Model}
use Rattle.model.specs.declared.layout.Role.TheVariants.{Reset, Transition}
use Rattle.valuations.specs.Radix.{padded}
use Rattle.runs.specs.declared.reached.Reached.{Reached}
use Rattle.kinds.specs.declared.steps.Step.{Step}
use Rattle.tables.specs.Tables.{Table}
use Rattle.runs.specs.Runs.{State, four_of, view, now, later, finer, moved, Elapses, Moves, OneStep, waits, moves}
use Rattle.runs.specs.declared.courses.Course.{Course}
use Rattle.runs.specs.declared.moments.Moment.{Moment}
use Rattle.runs.specs.Courses.{bytes_of, model_of}
use Rattle.runs.specs.Steps.{state_of, Next}
use Rattle.tables.specs.Tables.{says_of, table_in, lasting}
use Rattle.runs.specs.Instants.{sides_at, Depends, Always}
use Rattle.runs.proofs.Four.{at-four}

module _ (T : Table) (D : ℕ) (s : State) (p : Step) where
  none : ((t : State) → OneStep T D s p t → ⊥) → Next T D s p None
  none h = record { taken = λ a e. absurd (let z : ◌≡◌ {A = ℕ} 0 1 = cc in omega arith); stuck = λ _. h }

  one : (a : Reached) (t : State) → t ≡ state_of a → OneStep T D s p t → Next T D s p (Some a)
  one a t q h =
      record {
        taken = λ b e. let same : a ≡ b = cc in subst (λ x. OneStep T D s p (state_of x)) same (subst (OneStep T D s p) q h);
        stuck = λ e. absurd (let z : ◌≡◌ {A = ℕ} 0 1 = cc in omega arith);
      }

  -- an elapse is taken in one way only, and so is a discrete step
  as-wait : p.kind ≡ 0 → {t : State} → OneStep T D s p t → (p.valuation ≡ s.valuation) × Elapses T D s p.delay
  as-wait k (waits z v e) = (v, e)
  as-wait k (moves o d e) = absurd (omega arith)

  as-move : p.kind ≡ 1 → {t : State} → OneStep T D s p t → Moves T D s p.valuation
  as-move k (waits z v e) = absurd (omega arith)
  as-move k (moves o d e) = e

  pub elsewhere : p.kind ≡ 0 → (p.valuation ≡ s.valuation → ⊥) → Next T D s p None
  elsewhere k h = none (λ t o. h (as-wait k o).0)

  pub urgent : p.kind ≡ 0 → T.urgent (now T D s) ≡ true → Next T D s p None
  urgent k h = none (λ t o. both_ways (T.urgent (now T D s)) (as-wait k o).1.calm h)

  pub broken-off : p.kind ≡ 0 → (((n e : ℕ) → 1 ≤ n → 0 < e → e ≤ n * p.delay → T.invariant (now T (n * D) (later (finer n s) e)) ≡ true) → ⊥) → Next T D s p None
  broken-off k h = none (λ t o. h (as-wait k o).1.valid)

  pub waited : (a : Reached) → p.kind ≡ 0 → p.valuation ≡ s.valuation → T.urgent (now T D s) ≡ false → ((n e : ℕ) → 1 ≤ n → 0 < e → e ≤ n * p.delay → T.invariant (now T (n * D) (later (finer n s) e)) ≡ true) → later s p.delay ≡ state_of a → Next T D s p (Some a)
  waited a k v u h q = one a (later s p.delay) q (waits k v (record { calm = u; valid = h }))

  pub barred : p.kind ≡ 1 → T.transition (view T D s p.valuation) ≡ false → Next T D s p None
  barred k h = none (λ t o. both_ways (T.transition (view T D s p.valuation)) h (as-move k o).allowed)

  pub invalid : p.kind ≡ 1 → T.invariant (now T D (moved T D s p.valuation)) ≡ false → Next T D s p None
  invalid k h = none (λ t o. both_ways (T.invariant (now T D (moved T D s p.valuation))) h (as-move k o).valid)

  pub jumps : (a : Reached) → p.kind ≡ 1 → p.delay ≡ 0 → p.valuation < product T.counts → T.transition (view T D s p.valuation) ≡ true → T.invariant (now T D (moved T D s p.valuation)) ≡ true → moved T D s p.valuation ≡ state_of a → Next T D s p (Some a)
  jumps a k d w h i q = one a (moved T D s p.valuation) q (moves k d (record { within = w; allowed = h; valid = i }))

-- the values of a course's variables in a valuation
abbrev pub valued : Course → ℕ → List ℕ
valued course v = padded (value_counts (model_of course).sizes) v

-- the invariant over a delay, as the definition of runs says it
module _ (bs : List ℕ) (m : Model) (ms : List ℕ) (D v : ℕ) (xs : List ℕ) (dep : Depends (λ c. get_or ms c 0) (lasting bs m (padded (value_counts m.sizes) v))) where
  abbrev state : State
  state = record { valuation = v; clocks = xs }

  same : (n e : ℕ) → (table_in bs m).invariant (now (table_in bs m) (n * D) (later (finer n state) e)) ≡ lasting bs m (padded (value_counts m.sizes) v) (sides_at (n * D) (λ c. n * get_or xs c 0 + e))
  same n e =
      dep (λ c j. compared (get_or (four_of (λ k. get_or (four_of (λ i. n * get_or xs i 0)) k 0 + e)) c 0) (j * (n * D))) (sides_at (n * D) (λ c. n * get_or xs c 0 + e))
      (λ c j h _. ap (λ x. compared x (j * (n * D))) (at-four (λ k. get_or (four_of (λ i. n * get_or xs i 0)) k 0 + e) c h ∙ ap (λ x. x + e) (at-four (λ i. n * get_or xs i 0) c h)))

  pub to-run : (d : ℕ) → Always (lasting bs m (padded (value_counts m.sizes) v)) D (λ c. get_or xs c 0) d → (n e : ℕ) → 1 ≤ n → 0 < e → e ≤ n * d → (table_in bs m).invariant (now (table_in bs m) (n * D) (later (finer n state) e)) ≡ true
  to-run d a n e g h l = same n e ∙ a n e g h l

  pub from-run : (d : ℕ) → ((n e : ℕ) → 1 ≤ n → 0 < e → e ≤ n * d → (table_in bs m).invariant (now (table_in bs m) (n * D) (later (finer n state) e)) ≡ true) → Always (lasting bs m (padded (value_counts m.sizes) v)) D (λ c. get_or xs c 0) d
  from-run d a n e g h l = sym (same n e) ∙ a n e g h l

-- the clocks after a discrete step from a moment of a course
pub cleared-at : (course : Course) (xs olds news : List ℕ) (m : Moment) → m ≡ record { clocks = xs; unit = course.unit; some = course.some } → four_of (λ k. cond (says_of (bytes_of course) (model_of course) (Reset k) (seen olds news (sides_at m.unit (λ c. get_or m.clocks c 0)))) 0 (get_or m.clocks k 0)) ≡ four_of (λ k. cond (says_of (bytes_of course) (model_of course) (Reset k) (seen olds news (sides_at course.unit (λ c. get_or xs c 0)))) 0 (get_or xs k 0))
cleared-at course xs olds news m e =
    ap (λ n. four_of (λ k. cond (says_of (bytes_of course) (model_of course) (Reset k) (seen olds news (sides_at n.unit (λ c. get_or n.clocks c 0)))) 0 (get_or n.clocks k 0))) e

-- what is judged in a discrete step, as the definition of runs says it
module _ (bs : List ℕ) (m : Model) (D v w : ℕ) (xs olds news : List ℕ) (o : olds ≡ padded (value_counts m.sizes) v) (n : news ≡ padded (value_counts m.sizes) w) where
  abbrev before : State
  before = record { valuation = v; clocks = xs }

  pub allowed-is : says_of bs m Transition (seen olds news (sides_at D (λ c. get_or xs c 0))) ≡ (table_in bs m).transition (view (table_in bs m) D before w)
  allowed-is =
      ap (λ y. says_of bs m Transition (seen y news (sides_at D (λ c. get_or xs c 0)))) o
      ∙ ap (λ y. says_of bs m Transition (seen (padded (value_counts m.sizes) v) y (sides_at D (λ c. get_or xs c 0)))) n

  abbrev cleared : List ℕ → List ℕ → List ℕ
  cleared ys zs = four_of (λ k. cond (says_of bs m (Reset k) (seen ys zs (sides_at D (λ c. get_or xs c 0)))) 0 (get_or xs k 0))

  pub clocks-are : (zs : List ℕ) → zs ≡ cleared olds news → moved (table_in bs m) D before w ≡ record { valuation = w; clocks = zs }
  clocks-are zs e =
      let f : zs ≡ cleared (padded (value_counts m.sizes) v) (padded (value_counts m.sizes) w) = e ∙ ap (λ y. cleared y news) o ∙ ap (λ y. cleared (padded (value_counts m.sizes) v) y) n in
      ap (λ y. record { valuation = w; clocks = y }) (sym f)

  pub valid-is : (zs : List ℕ) → zs ≡ cleared olds news → lasting bs m news (sides_at D (λ c. get_or zs c 0)) ≡ (table_in bs m).invariant (now (table_in bs m) D (moved (table_in bs m) D before w))
  valid-is zs e =
      ap (λ y. lasting bs m y (sides_at D (λ c. get_or zs c 0))) n
      ∙ ap (λ t. (table_in bs m).invariant (now (table_in bs m) D t)) (sym (clocks-are zs e))
