-- An elapse, taken in halves, is a walk of stays and elapse trials.
use Rattle.std.proofs.Common.{◌≡◌, ℕ, zero, suc, ◌+◌, ◌*◌, ◌<◌, ◌≤◌, Bool, true, false, ◌⊎◌, sym, refl, subst, inl, inr, mul_left_comm, arith}
use Rattle.std.proofs.lemmas.Bool.Decides.{nat_tests, eqb_tells}
use Rattle.regions.specs.declared.clocks.Clock.{Clock}
use Rattle.regions.specs.declared.clocks.Clock.TheVariants.{Over, Counted}
use Rattle.regions.specs.Regions.{sharp, any_sharp, after}
use Rattle.timings.specs.Standing.{One, Stands}
use Rattle.timings.proofs.Standing.{same-clocks}
use Rattle.timings.proofs.Small.{Short, Near, Hits, rolled, step-sharp, step-stay, step-roll}
use Rattle.timings.proofs.Tidy.{tidied}
use Rattle.timings.proofs.Finer.{finer, coarser, part}

-- at an even moment no clock is within a part of the next whole number
even-short : (D M y f : ℕ) (p : Clock) → One (2 * D) M (2 * y) f p → Short (2 * D) 1 f p
even-short D M y f Over o = tt
even-short D M y f (Counted w r) o = omega (arith, mul_left_comm w 2 D)

-- at an odd moment none is on a whole number
odd-near : (D M y f : ℕ) (p : Clock) → One (2 * D) M (2 * y + 1) f p → Near (2 * D) 1 f p
odd-near D M y f Over o = tt
odd-near D M y f (Counted w r) o = omega arith

odd-blunt : (D M y f : ℕ) (p : Clock) → One (2 * D) M (2 * y + 1) f p → sharp p ≡ false
odd-blunt D M y f Over o = refl
odd-blunt D M y f (Counted w r) o =
    let e : w * (2 * D) ≡ 2 * (w * D) = mul_left_comm w 2 D in
    let z : f ≡ 0 → ⊥ = λ h. omega arith in
    grind (arith, nat_tests)

all-blunt : (n : ℕ) (ps : ℕ → Clock) → ((c : ℕ) → c < n → sharp (ps c) ≡ false) → any_sharp n ps ≡ false
unfolding any_sharp
all-blunt zero ps k = refl
all-blunt (suc n) ps k =
    let ih : any_sharp n ps ≡ false = all-blunt n ps (λ c h. k c (omega arith)) in
    let e : sharp (ps n) ≡ false = k n (omega arith) in
    grind arith

short-or-hits : (E d f : ℕ) (p : Clock) → Near E d f p → Short E d f p ⊎ Hits E d f p
short-or-hits E d f Over a = inl tt
short-or-hits E d f (Counted w r) a =
    elim (eqb_tells (f + d) E) [ inl t ↦ inr t.1 | inr t ↦ inl (grind arith) ]

any-hits : (n E d : ℕ) (fs : ℕ → ℕ) (ps : ℕ → Clock) → ((c : ℕ) → c < n → Near E d (fs c) (ps c)) → ((c : ℕ) → c < n → Short E d (fs c) (ps c)) ⊎ ((a : ℕ) × (a < n) × Hits E d (fs a) (ps a))
any-hits zero E d fs ps k = inl (λ c h. absurd (omega arith))
any-hits (suc n) E d fs ps k =
    elim (short-or-hits E d (fs n) (ps n) (k n (omega arith))) [ inl s ↦ elim (any-hits n E d fs ps (λ c h. k c (omega arith))) [ inl t ↦ inl (λ c h. more s t c h) | inr t ↦ inr (t.0, omega arith, t.2) ] | inr t ↦ inr (n, omega arith, t) ]
  where
    more : Short E d (fs n) (ps n) → ((c : ℕ) → c < n → Short E d (fs c) (ps c)) → (c : ℕ) → c < suc n → Short E d (fs c) (ps c)
    more s t c h = elim (eqb_tells c n) [ inl e ↦ subst (λ k. Short E d (fs k) (ps k)) (sym e.1) s | inr e ↦ t c (grind arith) ]

-- a place that stands for the clocks, and of which R holds
pub record Met (n E : ℕ) (M xs : ℕ → ℕ) (R : (ℕ → Clock) → Type 0) : Type 0 where
  pub place : ℕ → Clock
  pub parts : ℕ → ℕ
  pub stands : Stands n E M xs parts place
  pub holds : R place

module _ (n D : ℕ) (M ys : ℕ → ℕ) (R : (ℕ → Clock) → Type 0) where
  pub even-half : ((ps fs : _) → R ps → Stands n (2 * D) M (λ c. 2 * ys c + 1) fs (after n M ps) → R (after n M ps)) → Met n (2 * D) M (λ c. 2 * ys c) R → Met n (2 * D) M (λ c. 2 * ys c + 1) R
  even-half step m = go (any_sharp n m.place) refl
    where
      short : (c : ℕ) → c < n → Short (2 * D) 1 (m.parts c) (m.place c)
      short c h = even-short D (M c) (ys c) (m.parts c) (m.place c) (m.stands.each c h)

      go : (b : Bool) → any_sharp n m.place ≡ b → Met n (2 * D) M (λ c. 2 * ys c + 1) R
      go true e =
          let s = tidied (step-sharp n (2 * D) 1 M (λ c. 2 * ys c) m.parts m.place m.stands (omega arith) e short) in
          record { place = after n M m.place; parts = λ c. m.parts c + 1; stands = s; holds = step m.place (λ c. m.parts c + 1) m.holds s }
      go false e =
          record { place = m.place; parts = λ c. m.parts c + 1; stands = step-stay n (2 * D) 1 M (λ c. 2 * ys c) m.parts m.place m.stands (omega arith) e short; holds = m.holds }

  pub odd-half : ((ps fs : _) → R ps → Stands n (2 * D) M (λ c. 2 * ys c + 1 + 1) fs (after n M ps) → R (after n M ps)) → Met n (2 * D) M (λ c. 2 * ys c + 1) R → Met n (2 * D) M (λ c. 2 * ys c + 1 + 1) R
  odd-half step m =
      elim (any-hits n (2 * D) 1 m.parts m.place near) [ inl k ↦ record { place = m.place; parts = λ c. m.parts c + 1; stands = step-stay n (2 * D) 1 M (λ c. 2 * ys c + 1) m.parts m.place m.stands (omega arith) blunt k; holds = m.holds } | inr t ↦ hit t.0 t.1 t.2 ]
    where
      near : (c : ℕ) → c < n → Near (2 * D) 1 (m.parts c) (m.place c)
      near c h = odd-near D (M c) (ys c) (m.parts c) (m.place c) (m.stands.each c h)

      blunt : any_sharp n m.place ≡ false
      blunt = all-blunt n m.place (λ c h. odd-blunt D (M c) (ys c) (m.parts c) (m.place c) (m.stands.each c h))

      hit : (a : ℕ) → a < n → Hits (2 * D) 1 (m.parts a) (m.place a) → Met n (2 * D) M (λ c. 2 * ys c + 1 + 1) R
      hit a i t =
          let s = tidied (step-roll n (2 * D) 1 M (λ c. 2 * ys c + 1) m.parts m.place m.stands (omega arith) blunt near a i t) in
          record { place = after n M m.place; parts = λ c. rolled (2 * D) 1 (m.parts c); stands = s; holds = step m.place (λ c. rolled (2 * D) 1 (m.parts c)) m.holds s }

pub same_met : {n E : ℕ} {M xs ys : ℕ → ℕ} {R : (ℕ → Clock) → Type 0} → ((c : ℕ) → c < n → xs c ≡ ys c) → Met n E M xs R → Met n E M ys R
same_met e m = record { place = m.place; parts = m.parts; stands = same-clocks e m.stands; holds = m.holds }

module _ (n D d : ℕ) (M ys : ℕ → ℕ) (R : (ℕ → Clock) → Type 0) (step : (e : ℕ) → 0 < e → e ≤ 2 * d → (ps : ℕ → Clock) (fs : ℕ → ℕ) → R ps → Stands n (2 * D) M (λ c. 2 * ys c + e) fs (after n M ps) → R (after n M ps)) where
  walk : (j : ℕ) → j ≤ d → Met n (2 * D) M (λ c. 2 * ys c) R → Met n (2 * D) M (λ c. 2 * (ys c + j)) R
  walk zero h m = same_met (λ c h. omega arith) m
  walk (suc j) h m =
      let a : Met n (2 * D) M (λ c. 2 * (ys c + j)) R = walk j (omega arith) m in
      let b : Met n (2 * D) M (λ c. 2 * (ys c + j) + 1) R = even-half n D M (λ c. ys c + j) R (λ ps fs r s. step (2 * j + 1) (omega arith) (omega arith) ps fs r (same-clocks (λ c h. omega arith) s)) a in
      let e : Met n (2 * D) M (λ c. 2 * (ys c + j) + 1 + 1) R = odd-half n D M (λ c. ys c + j) R (λ ps fs r s. step (2 * j + 2) (omega arith) (omega arith) ps fs r (same-clocks (λ c h. omega arith) s)) b in
      same_met (λ c h. omega arith) e

  -- an elapse of d D-ths leads from place to place by elapse trials
  pub elapse-walk : Met n D M ys R → Met n D M (λ c. ys c + d) R
  elapse-walk m =
      let a = finer 2 n D M ys m.parts m.place (omega arith) m.stands in
      let b = walk d (omega arith) (record { place = m.place; parts = λ c. 2 * m.parts c; stands = a; holds = m.holds }) in
      record { place = b.place; parts = λ c. part D (ys c + d) (b.place c); stands = coarser 2 n D M (λ c. ys c + d) b.parts b.place (omega arith) b.stands; holds = b.holds }
