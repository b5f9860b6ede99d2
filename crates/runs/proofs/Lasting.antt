-- The turns of the loop over a delay, and that the invariant hangs on no more than the ceilings.
use Rattle.std.proofs.Common.{◌≡◌, ℕ, ◌+◌, ◌-◌, ◌*◌, ◌<◌, ◌≤◌, Bool, true, false, List, get_or, take, drop, sym, refl, ap, ◌∙◌, subst, arith}
use Rattle.std.proofs.lemmas.Bool.{false≢true}
use Rattle.instruction.specs.Counts.{value_counts}
use Rattle.judging.specs.declared.sides.Side.{Side}
use Rattle.judging.specs.Judging.{seen}
use Rattle.judging.proofs.Depends.{same}
use Rattle.model.specs.declared.layout.Model.{Model}
use Rattle.model.specs.Reading.{layout}
use Rattle.ceilings.specs.Ceilings.{ceiling_at, peak}
use Rattle.runs.specs.declared.courses.Course.{Course}
use Rattle.runs.specs.declared.moments.Moment.{Moment}
use Rattle.runs.specs.Courses.{bytes_of, model_of, lasting_in}
use Rattle.runs.specs.Runs.{four_of}
use Rattle.tables.specs.Tables.{lasting}
use Rattle.runs.specs.Instants.{sides_at, Depends, Always, Soonest, Tells}
use Rattle.runs.proofs.Instants.{nothing, last, step, half, step-at, step-rest, quiet-from}
use Rattle.runs.proofs.Four.{at-four, four-sides, to-four, from-four}

pub depends : (bs : List ℕ) (m : Model) (xs ms : List ℕ) → ms ≡ four_of (ceiling_at bs (layout m)) → m.sizes.clocks ≤ 4 → Depends (λ c. get_or ms c 0) (lasting bs m xs)
unfolding peak
depends bs m xs ms e few s t h =
    same (seen xs xs s) (seen xs xs t) refl refl (value_counts m.sizes) m.sizes.clocks 0 0 (λ _. 0) (take m.invariant.len (drop m.invariant.at bs))
    (λ c j d l. let four : c < 4 = omega arith in
    let top : get_or ms c 0 ≡ ceiling_at bs (layout m) c = ap (λ y. get_or y c 0) e ∙ at-four (ceiling_at bs (layout m)) c four in
    h c j four (omega arith))

-- the same of the invariant of a course
pub holds-by : (course : Course) (vs : List ℕ) → Depends (λ c. get_or course.setting.ceilings c 0) (lasting_in course vs)
holds-by course vs =
    depends (bytes_of course) (model_of course) vs course.setting.ceilings course.setting.heights.answer (model_of course).sizes.few_clocks

-- what is said of a moment of a course is said of the clocks at which it stands
pub at-moment : (course : Course) (xs : List ℕ) (m : Moment) (P : (ℕ → ℕ → Side) → Bool) → m ≡ record { clocks = xs; unit = course.unit; some = course.some } → P (sides_at m.unit (λ c. get_or m.clocks c 0)) ≡ P (sides_at course.unit (λ c. get_or xs c 0))
at-moment course xs m P e = ap (λ n. P (sides_at n.unit (λ c. get_or n.clocks c 0))) e

-- and so is what is said of the wait from a moment
pub wait-at : (course : Course) (xs ms : List ℕ) (m : Moment) (t : ℕ) → m ≡ record { clocks = xs; unit = course.unit; some = course.some } → Soonest m.unit m.clocks ms t → Soonest course.unit xs ms t
wait-at course xs ms m t e s = subst (λ n. Soonest n.unit n.clocks ms t) e s

-- where the variables have the values vs, its invariant holds throughout d parts from the clocks xs on
abbrev pub Lasts : Course → List ℕ → List ℕ → ℕ → Type 0
Lasts course vs xs d = Always (lasting_in course vs) course.unit (λ c. get_or xs c 0) d

module _ (inv : (ℕ → ℕ → Side) → Bool) (D : ℕ) (xs ms : List ℕ) (dep : Depends (λ c. get_or ms c 0) inv) where
  abbrev Now : ℕ → Type 0
  Now d = Always inv D (λ c. get_or xs c 0) d

  after_is : (ys : List ℕ) → ys ≡ four_of (λ c. 2 * get_or xs c 0 + 1) → true ≡ inv (sides_at (2 * D) (λ c. get_or ys c 0)) → inv (sides_at (2 * D) (λ c. 2 * get_or xs c 0 + 1)) ≡ true
  after_is ys e f =
      sym (f ∙ ap (λ y. inv (sides_at (2 * D) (λ c. get_or y c 0))) e ∙ four-sides (λ c. get_or ms c 0) inv dep (2 * D) (λ c. 2 * get_or xs c 0 + 1))

  met-is : (t : ℕ) (zs : List ℕ) → zs ≡ four_of (λ c. get_or xs c 0 + t) → inv (sides_at D (λ c. get_or zs c 0)) ≡ inv (sides_at D (λ c. get_or xs c 0 + t))
  met-is t zs e = ap (λ y. inv (sides_at D (λ c. get_or y c 0))) e ∙ four-sides (λ c. get_or ms c 0) inv dep D (λ c. get_or xs c 0 + t)

  module _ {A : Type 0} where
    pub not_after : (d : ℕ) (ys : List ℕ) → 0 < d → ys ≡ four_of (λ c. 2 * get_or xs c 0 + 1) → false ≡ inv (sides_at (2 * D) (λ c. get_or ys c 0)) → (A → Now d) → Tells false A
    not_after d ys h e f back =
        record {
          yes = λ z. absurd (false≢true z);
          back = λ a. f ∙ ap (λ y. inv (sides_at (2 * D) (λ c. get_or y c 0))) e ∙ four-sides (λ c. get_or ms c 0) inv dep (2 * D) (λ c. 2 * get_or xs c 0 + 1) ∙ half (λ c. get_or ms c 0) inv dep D (λ c. get_or xs c 0) d h (back a);
        }

    pub to_the_end : (d t : ℕ) (ys : List ℕ) → 0 < d → d < t → Soonest D xs ms t → ys ≡ four_of (λ c. 2 * get_or xs c 0 + 1) → true ≡ inv (sides_at (2 * D) (λ c. get_or ys c 0)) → (Now d → A) → Tells true A
    to_the_end d t ys h l s e f on =
        let a : Now d = last (λ c. get_or ms c 0) inv dep D (λ c. get_or xs c 0) d h (quiet-from D xs ms t (d + 1) (omega arith) s) (after_is ys e f) in
        record { yes = λ _. on a; back = λ _. refl }

    pub not-met : (d t : ℕ) (zs : List ℕ) → 1 ≤ t → t ≤ d → zs ≡ four_of (λ c. get_or xs c 0 + t) → false ≡ inv (sides_at D (λ c. get_or zs c 0)) → (A → Now d) → Tells false A
    not-met d t zs h l e f back =
        record {
          yes = λ z. absurd (false≢true z);
          back = λ a. f ∙ met-is t zs e ∙ step-at (λ c. get_or ms c 0) inv dep D (λ c. get_or xs c 0) t d h l (back a);
        }

    pub goes_on : (d t : ℕ) (ys zs : List ℕ) → t ≤ d → Soonest D xs ms t → ys ≡ four_of (λ c. 2 * get_or xs c 0 + 1) → true ≡ inv (sides_at (2 * D) (λ c. get_or ys c 0)) → zs ≡ four_of (λ c. get_or xs c 0 + t) → true ≡ inv (sides_at D (λ c. get_or zs c 0)) → (Now d → A) → Always inv D (λ c. get_or zs c 0) (d - t) → A
    goes_on d t ys zs l s e f g i on a =
        let b : Always inv D (λ c. get_or xs c 0 + t) (d - t) = from-four (λ c. get_or ms c 0) inv dep D (d - t) (λ c. get_or xs c 0 + t) (subst (λ y. Always inv D (λ c. get_or y c 0) (d - t)) g a) in
        on (step (λ c. get_or ms c 0) inv dep D (λ c. get_or xs c 0) t d s.some l (quiet-from D xs ms t t (omega arith) s) (after_is ys e f) (sym (i ∙ met-is t zs g)) b)

    pub comes_back : (d t : ℕ) (zs : List ℕ) → t ≤ d → zs ≡ four_of (λ c. get_or xs c 0 + t) → (A → Now d) → A → Always inv D (λ c. get_or zs c 0) (d - t)
    comes_back d t zs l g back a =
        subst (λ y. Always inv D (λ c. get_or y c 0) (d - t)) (sym g) (to-four (λ c. get_or ms c 0) inv dep D (d - t) (λ c. get_or xs c 0 + t) (step-rest (λ c. get_or ms c 0) inv dep D (λ c. get_or xs c 0) t d l (back a)))

    pub ended : (d : ℕ) → d ≡ 0 → (Now d → A) → Tells true A
    ended d e on =
        let a : Now d = subst Now (sym e) (nothing (λ c. get_or ms c 0) inv dep D (λ c. get_or xs c 0)) in
        record { yes = λ _. on a; back = λ _. refl }
