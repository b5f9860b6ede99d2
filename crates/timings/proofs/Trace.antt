-- The clocks of a run through the places of a chain, with the reason why each wait passes from place to
-- place.
use Rattle.std.proofs.Common.{◌≡◌, ℕ, suc, ◌+◌, ◌-◌, ◌<◌, ◌≤◌, Bool, true, false, cond, List, [], ◌∷◌, Some, sym, refl, ap, subst, zero-mul, arith}
use Rattle.std.proofs.lemmas.Bool.Decides.{nat_tests}
use Rattle.delays.specs.Pace.{stretched, widened}
use Rattle.tables.specs.Settings.{Setting}
use Rattle.regions.specs.declared.places.Place.{Place}
use Rattle.regions.specs.Clocks.{at}
use Rattle.dense.specs.Trials.{origin, stepping}
use Rattle.timings.specs.Agreement.{ceiling_of}
use Rattle.timings.specs.Standing.{Stands, Standing}
use Rattle.timings.proofs.Standing.{same-clocks}
use Rattle.timings.proofs.Move.{reset}
use Rattle.timings.proofs.Passage.{Passage, arrived, passage-widened}
use Rattle.timings.proofs.Tidy.{tidied}
use Rattle.timings.proofs.Truth.{origin-stands}
use Rattle.timings.proofs.Trying.{sight, Began, Passed, Entered}
use Rattle.timings.proofs.Widen.{extra, Widened, Psi, psi, psi-grows, psi-near, later-widened}

-- from a start trial by step trials with delays, both the newest first
pub data Trace (K : Setting) (D i : ℕ) : List ℕ → List ℕ → (ℕ → ℕ) → Place → Type 0 where
  begin : {xs : ℕ → ℕ} → ((c : ℕ) → xs c ≡ 0) → Began K i → Trace K D i [] [] xs (origin K i)
  wait : {is ds : List ℕ} {xs ys : ℕ → ℕ} (p q : Place) (d : ℕ) → 0 < d → d ≤ D → Trace K D i is ds xs p → stepping K p 0 ≡ Some q → Passed K p q → Passage K.clocks D (ceiling_of K) xs (at p.clocks) d → ((c : ℕ) → ys c ≡ xs c + d) → Trace K D i (0 ∷ is) (d ∷ ds) ys q
  enter : {is ds : List ℕ} {xs ys : ℕ → ℕ} (p q : Place) (w : ℕ) → Trace K D i is ds xs p → stepping K p (suc w) ≡ Some q → Entered K p w q → ((c : ℕ) → ys c ≡ cond (K.table.reset c (sight K p w)) 0 (xs c)) → Trace K D i (suc w ∷ is) (0 ∷ ds) ys q

module _ (K : Setting) (few : K.clocks ≤ 4) (D i : ℕ) (pos : 0 < D) where
  -- its last place stands for its clocks
  pub standing : {is ds : List ℕ} {xs : ℕ → ℕ} {p : Place} → Trace K D i is ds xs p → Standing K.clocks D (ceiling_of K) xs (at p.clocks)
  standing {xs = xs} (begin e b) = (λ c. 0, origin-stands K few D pos i xs (λ c h. sym (e c)))
  standing {xs = ys} (wait p q d l m t h u g e) =
      let s = arrived l g in
      (s.0, subst (Stands K.clocks D (ceiling_of K) ys s.0) (sym u.clocks) (same-clocks (λ c h. sym (e c)) s.1))
  standing {xs = ys} (enter {xs = xs} p q w t h u e) =
      let s = standing t in
      let fs : ℕ → ℕ = λ c. cond (K.table.reset c (sight K p w)) 0 (s.0 c) in
      (fs, subst (Stands K.clocks D (ceiling_of K) ys fs) (sym u.clocks) (same-clocks (λ c h. sym (e c)) (tidied (reset K.clocks D (ceiling_of K) xs s.0 (at p.clocks) (λ c. K.table.reset c (sight K p w)) pos s.1))))

-- widening
extra-zero : (D ρ : ℕ) → ρ < D → extra D ρ 0 ≡ 0
extra-zero D ρ l = grind (arith, nat_tests)

widened-zero : (D ρ x : ℕ) → ρ < D → x ≡ 0 → Widened D ρ x 0
widened-zero D ρ x l e =
    record { whole = 0; part = 0; less = omega arith; before = omega (arith, zero-mul D); after = omega (arith, zero-mul (suc D), extra-zero D ρ l) }

widened-reset : (D ρ x y : ℕ) (b : Bool) → ρ < D → Widened D ρ x y → Widened D ρ (cond b 0 x) (cond b 0 y)
widened-reset D ρ x y true l h = widened-zero D ρ 0 l refl
widened-reset D ρ x y false l h = h

-- delays with one part more in each unit
widened-still : (D b : ℕ) (ds : List ℕ) → 0 ∷ widened D b ds ≡ widened D b (0 ∷ ds)
unfolding widened
widened-still D b ds =
    let e : b + 0 ≡ b = omega arith in
    rw e (ap (λ x. x ∷ widened D b ds) (omega arith))

widened_more : (D b d : ℕ) (ds : List ℕ) → (stretched D (b + d) - stretched D b) ∷ widened D (b + d) ds ≡ widened D b (d ∷ ds)
unfolding widened
widened_more D b d ds = refl

widened_none : (D b : ℕ) → [] ≡ widened D b []
unfolding widened
widened_none D b = refl

-- the same places with one part more in each unit, seen from b before now
pub record Wider (K : Setting) (D i ρ b : ℕ) (is ds : List ℕ) (xs : ℕ → ℕ) (p : Place) : Type 0 where
  pub clocks : ℕ → ℕ
  pub each : (c : ℕ) → Widened D ρ (xs c) (clocks c)
  pub trace : Trace K (suc D) i is (widened D b ds) clocks p

module _ (K : Setting) (D i : ℕ) (pos : 0 < D) where
  -- the whole trace widens
  pub wider : {is ds : List ℕ} {xs : ℕ → ℕ} {p : Place} → Trace K D i is ds xs p → (b : ℕ) (h : Psi D b (stretched D b)) → Wider K D i h.rest b is ds xs p
  wider (begin e j) b h =
      record { clocks = λ c. 0; each = λ c. widened-zero D h.rest _ h.less (e c); trace = subst (λ l. Trace K (suc D) i [] l (λ c. 0) (origin K i)) (widened_none D b) (begin (λ c. refl) j) }
  wider (wait {is = is} {ds = ds} {xs = xs} p q d l m t n u g e) b h =
      let z : Psi D (b + d) (stretched D (b + d)) = psi D (b + d) pos in
      let t' = wider t (b + d) z in
      let a : ℕ = stretched D b in
      let a' : ℕ = stretched D (b + d) in
      let gr : a + d ≤ a' = psi-grows D b a d a' h z in
      let lt : a' ≤ a + d + 1 = psi-near D b a d a' m h z in
      let d' : ℕ = a' - a in
      let k : (c : ℕ) → Widened D h.rest (xs c + d) (t'.clocks c + d') = λ c. later-widened D b a d a' d' (xs c) (t'.clocks c) h z (omega arith) (t'.each c) in
      let w : Trace K (suc D) i (0 ∷ is) (d' ∷ widened D (b + d) ds) (λ c. t'.clocks c + d') q = wait p q d' (omega arith) (omega arith) t'.trace n u (passage-widened K.clocks D h.rest z.rest d d' (ceiling_of K) xs t'.clocks (at p.clocks) h.less z.less (λ c _. t'.each c) (λ c _. k c) g) (λ c. refl) in
      record { clocks = λ c. t'.clocks c + d'; each = λ c. subst (λ x. Widened D h.rest x (t'.clocks c + d')) (sym (e c)) (k c); trace = subst (λ x. Trace K (suc D) i (0 ∷ is) x (λ c. t'.clocks c + d') q) (widened_more D b d ds) w }
  wider (enter {is = is} {ds = ds} {xs = xs} p q w t n u e) b h =
      let t' = wider t b h in
      let rs : ℕ → Bool = λ c. K.table.reset c (sight K p w) in
      let y : Trace K (suc D) i (suc w ∷ is) (0 ∷ widened D b ds) (λ c. cond (rs c) 0 (t'.clocks c)) q = enter p q w t'.trace n u (λ c. refl) in
      record { clocks = λ c. cond (rs c) 0 (t'.clocks c); each = λ c. subst (λ x. Widened D h.rest x (cond (rs c) 0 (t'.clocks c))) (sym (e c)) (widened-reset D h.rest (xs c) (t'.clocks c) (rs c) h.less (t'.each c)); trace = subst (λ x. Trace K (suc D) i (suc w ∷ is) x (λ c. cond (rs c) 0 (t'.clocks c)) q) (widened-still D b ds) y }
