-- The state that a ticked place stands for.
use Rattle.std.proofs.Common.{◌≡◌, ℕ, suc, ◌+◌, ◌*◌, ◌<◌, ◌≤◌, Bool, true, false, cond, get_or, sym, refl, ap, ◌∙◌, ap₂, suc-mul, mul_left_comm, arith}
use Rattle.std.proofs.lemmas.Bool.{lt-ltb}
use Rattle.judging.specs.Truth.{View, compared}
use Rattle.regions.proofs.Fours.{below-four}
use Rattle.runs.specs.Runs.{State, clock, view, first, later, finer, moved}
use Rattle.tables.specs.Settings.{Setting}
use Rattle.ticked.specs.declared.places.Ticks.{Ticks}
use Rattle.ticked.specs.declared.places.Ticks.TheVariants.{Over, At}
use Rattle.ticked.specs.declared.places.Place.{Place}
use Rattle.ticked.specs.Ticks.{at, limit, four_of, side_of, begun, later as later_ticks, cleared}
use Rattle.ticked.specs.Trials.{values, origin, elapsed, shown, moved as moved_to}
use Rattle.timings.specs.Agreement.{Agrees, ceiling_of, Shows}
use Rattle.timings.specs.TickedStanding.{Past, Stands}
use Rattle.timings.proofs.TickedSides.{counted-zero, counted-later, counted-cleared, whole-side, past-side, shows-whole, shows-half}

pub clock-first : (v c : ℕ) → c < 4 → clock (first v) c ≡ 0
clock-first v = below-four (λ c. clock (first v) c ≡ 0) refl refl refl refl

pub clock-later : (s : State) (d c : ℕ) → c < 4 → clock (later s d) c ≡ clock s c + d
clock-later s d = below-four (λ c. clock (later s d) c ≡ clock s c + d) refl refl refl refl

pub clock-finer : (n : ℕ) (s : State) (c : ℕ) → c < 4 → clock (finer n s) c ≡ n * clock s c
clock-finer n s = below-four (λ c. clock (finer n s) c ≡ n * clock s c) refl refl refl refl

at-four : (f : ℕ → Ticks) (c : ℕ) → c < 4 → at (four_of f) c ≡ f c
at-four f = below-four (λ c. at (four_of f) c ≡ f c) refl refl refl refl

-- a state in finer parts, at e of them later
scaled : (n x y w D e : ℕ) → x ≡ w * D + 0 → y ≡ n * x + e → y ≡ w * (n * D) + e
scaled n x y w D e h k =
    let a : n * x ≡ n * (w * D) = ap (λ z. n * z) (omega arith) in
    omega (arith, mul_left_comm n w D)

module _ (K : Setting) (q : View → Bool) (S : Shows K q) where
  pub begin : (D v : ℕ) → Stands K D (origin K v) (first v)
  begin D v =
      record {
        valuation = refl;
        wholes = λ _. 0;
        clocks = λ c h. clock-first v c (omega (arith, S.few)) ∙ omega arith;
        ticks = λ c h. at-four (begun K.clocks) c (omega (arith, S.few)) ∙ ap (λ b. cond b (At 0) Over) (lt-ltb c K.clocks h) ∙ counted-zero (limit K.ceilings c);
      }

  -- a moment later, with n parts for one
  pub moment : (D n e : ℕ) (p : Place) (s t : State) → Stands K D p s → s.valuation ≡ t.valuation → ((c : ℕ) → c < 4 → clock t c ≡ n * clock s c + e) → Past K (n * D) e p t
  moment D n e p s t h v k =
      record {
        valuation = h.valuation ∙ v;
        wholes = h.wholes;
        clocks = λ c l. scaled n (clock s c) (clock t c) (h.wholes c) D e (h.clocks c l) (k c (omega (arith, S.few)));
        ticks = h.ticks;
      }

  -- a whole unit later
  pub unit : (D : ℕ) (p : Place) (s : State) → Past K D D p s → Stands K D (elapsed K p) s
  unit D p s h =
      record {
        valuation = h.valuation;
        wholes = λ c. suc (h.wholes c);
        clocks = λ c l. omega (arith, h.clocks c l, suc-mul (h.wholes c) D);
        ticks = λ c l. at-four (λ i. later_ticks (limit K.ceilings i) (at p.clocks i)) c (omega (arith, S.few)) ∙ ap (later_ticks (limit K.ceilings c)) (h.ticks c l) ∙ counted-later (limit K.ceilings c) (h.wholes c);
      }

  -- the place shows what the state does: at a whole moment, and in between as at the half
  pub same_whole : (D : ℕ) (p : Place) (s : State) (w : ℕ) → 1 ≤ D → Stands K D p s → Agrees K.clocks (ceiling_of K) (shown K (values K p.valuation) (values K w) false p) (view K.table D s w)
  same_whole D p s w o h =
      record {
        value = ap (λ v. λ i. get_or (values K v) i 0) h.valuation;
        next = refl;
        side = λ c j l m. ap (λ x. side_of false x j) (h.ticks c l) ∙ shows-whole (ceiling_of K c) (h.wholes c) j m ∙ whole-side D (h.wholes c) j o ∙ ap (λ x. compared x (j * D)) (sym (h.clocks c l ∙ omega arith));
      }

  pub same_half : (D e : ℕ) (p : Place) (s : State) (w : ℕ) → 0 < e → e < D → Past K D e p s → Agrees K.clocks (ceiling_of K) (shown K (values K p.valuation) (values K w) true p) (view K.table D s w)
  same_half D e p s w o g h =
      record {
        value = ap (λ v. λ i. get_or (values K v) i 0) h.valuation;
        next = refl;
        side = λ c j l m. ap (λ x. side_of true x j) (h.ticks c l) ∙ shows-half (ceiling_of K c) (h.wholes c) j m ∙ past-side D (h.wholes c) e j o g ∙ ap (λ x. compared x (j * D)) (sym (h.clocks c l));
      }

  -- a discrete step resets the same clocks
  pub move : (D : ℕ) (p : Place) (s : State) (w : ℕ) → 1 ≤ D → Stands K D p s → Stands K D (moved_to K (values K p.valuation) (values K w) p w) (moved K.table D s w)
  move D p s w o h =
      record {
        valuation = refl;
        wholes = λ c. cond (b c) 0 (h.wholes c);
        clocks = λ c l. below-four (λ i. clock (moved K.table D s w) i ≡ cond (b i) 0 (clock s i)) refl refl refl refl c (omega (arith, S.few)) ∙ zeroed (b c) (clock s c) (h.wholes c) (h.clocks c l);
        ticks = λ c l. at-four (λ i. cleared (K.table.reset i v) (at p.clocks i)) c (omega (arith, S.few)) ∙ ap₂ cleared (S.reset c v (view K.table D s w) (same_whole D p s w o h)) (h.ticks c l) ∙ counted-cleared (limit K.ceilings c) (h.wholes c) (b c);
      }
    where
      v : View
      v = shown K (values K p.valuation) (values K w) false p

      b : ℕ → Bool
      b c = K.table.reset c (view K.table D s w)

      zeroed : (a : Bool) (x y : ℕ) → x ≡ y * D + 0 → cond a 0 x ≡ cond a 0 y * D + 0
      zeroed true x y e = omega arith
      zeroed false x y e = e
