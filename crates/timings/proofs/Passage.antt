-- Why a wait leads from a place to the elapsed place, and that it does so at every denominator.
use Rattle.std.proofs.Common.{◌≡◌, ℕ, suc, ◌+◌, ◌*◌, ◌<◌, ◌≤◌, Bool, true, false, cond, ◌⊎◌, sym, refl, ap, subst, inl, inr, mul-le-mul_left, mul-add, arith}
use native.Mathlib.Nat.{mul-lt-mul_of_pos_left}
use Rattle.std.proofs.lemmas.Bool.Decides.{nat_tests, eqb_tells}
use Rattle.regions.specs.declared.clocks.Clock.{Clock}
use Rattle.regions.specs.declared.clocks.Clock.TheVariants.{Over, Counted}
use Rattle.regions.specs.Regions.{any_sharp, lift, roll, renamed, after}
use Rattle.timings.specs.Standing.{One, Two, Stands, Standing}
use Rattle.timings.proofs.Small.{Short, Near, Hits, rolled, step-sharp, step-stay, step-roll}
use Rattle.timings.proofs.Finer.{finer}
use Rattle.timings.proofs.Tidy.{tidied}
use Rattle.timings.proofs.Widen.{extra, Widened, widen, wait-within, wait-to-end}

-- why d more leads to the elapsed place: a clock leaves its whole number, the one with the largest
-- fraction comes to its next whole number, or every clock is over
pub data Passage (n D : ℕ) (M xs : ℕ → ℕ) (ps : ℕ → Clock) (d : ℕ) : Type 0 where
  soft : (fs : ℕ → ℕ) → Stands n D M xs fs ps → any_sharp n ps ≡ true → ((c : ℕ) → c < n → Short D d (fs c) (ps c)) → Passage n D M xs ps d
  full : (fs : ℕ → ℕ) → Stands n D M xs fs ps → any_sharp n ps ≡ false → ((c : ℕ) → c < n → Near D d (fs c) (ps c)) → (a : ℕ) → a < n → Hits D d (fs a) (ps a) → Passage n D M xs ps d
  idle : (fs : ℕ → ℕ) → Stands n D M xs fs ps → ((c : ℕ) → c < n → ps c ≡ Over) → Passage n D M xs ps d

-- where every clock is over, time changes nothing
over-stays : (b : Bool) (M top : ℕ) (φ : ℕ → ℕ) (p : Clock) → p ≡ Over → renamed φ (cond b (lift M p) (roll top p)) ≡ Over
over-stays true M top φ p e = rw e refl
over-stays false M top φ p e = rw e refl

over-one : (E M x f : ℕ) (p : Clock) → p ≡ Over → One E M x f p → M * E < x
over-one E M x f p e o = rw e at o

pub over-stands : {n E : ℕ} {M xs : ℕ → ℕ} {fs : ℕ → ℕ} {ps : ℕ → Clock} (ys : ℕ → ℕ) (qs : ℕ → Clock) → Stands n E M xs fs ps → ((c : ℕ) → c < n → ps c ≡ Over) → ((c : ℕ) → c < n → xs c ≤ ys c) → ((c : ℕ) → c < n → qs c ≡ Over) → Stands n E M ys fs qs
over-stands {n} {E} {M} {xs} {fs} {ps} ys qs s e l e' =
    record { each = λ c h. subst (λ q. One E (M c) (ys c) (fs c) q) (sym (e' c h)) (omega (arith, over-one E (M c) (xs c) (fs c) (ps c) (e c h) (s.each c h), l c h)); both = λ c d h i. subst (λ q. Two (fs c) (fs d) q (qs d)) (sym (e' c h)) (subst (λ q. Two (fs c) (fs d) Over q) (sym (e' d i)) tt) }

pub over-after : (n : ℕ) (M : ℕ → ℕ) (ps : ℕ → Clock) → ((c : ℕ) → c < n → ps c ≡ Over) → (c : ℕ) → c < n → after n M ps c ≡ Over
over-after n M ps e c h = over-stays (any_sharp n ps) (M c) _ _ (ps c) (e c h)

-- at its end the elapsed place stands
pub arrived : {n D d : ℕ} {M xs : ℕ → ℕ} {ps : ℕ → Clock} → 0 < d → Passage n D M xs ps d → Standing n D M (λ c. xs c + d) (after n M ps)
arrived {n} {D} {d} {M} {xs} {ps} l (soft fs s e k) = (λ c. fs c + d, tidied (step-sharp n D d M xs fs ps s l e k))
arrived {n} {D} {d} {M} {xs} {ps} l (full fs s e k a i t) = (λ c. rolled D d (fs c), tidied (step-roll n D d M xs fs ps s l e k a i t))
arrived {n} {D} {d} {M} {xs} {ps} l (idle fs s e) = (fs, over-stands (λ c. xs c + d) (after n M ps) s e (λ c h. omega arith) (over-after n M ps e))

-- the moment e of a wait of d, in k-fold finer parts
fine-short : (k D d e f : ℕ) (p : Clock) → 0 < k → e ≤ k * d → Short D d f p → Short (k * D) e (k * f) p
fine-short k D d e f Over l h s = tt
fine-short k D d e f (Counted w r) l h s =
    let a : k * (f + d) < k * D = mul-lt-mul_of_pos_left s l in
    omega (arith, mul-add k f d)

fine-early : (k D d e f : ℕ) (p : Clock) → e < k * d → Near D d f p → Short (k * D) e (k * f) p
fine-early k D d e f Over h s = tt
fine-early k D d e f (Counted w r) h s =
    let a : k * (f + d) ≤ k * D = mul-le-mul_left k s in
    omega (arith, mul-add k f d)

fine-near : (k D d e f : ℕ) (p : Clock) → e ≤ k * d → Near D d f p → Near (k * D) e (k * f) p
fine-near k D d e f Over h s = tt
fine-near k D d e f (Counted w r) h s =
    let a : k * (f + d) ≤ k * D = mul-le-mul_left k s in
    omega (arith, mul-add k f d)

fine-hits : (k D d e f : ℕ) (p : Clock) → e ≡ k * d → Hits D d f p → Hits (k * D) e (k * f) p
fine-hits k D d e f Over h s = s
fine-hits k D d e f (Counted w r) h s =
    let a : k * (f + d) ≡ k * D = ap (λ x. k * x) s in
    omega (arith, mul-add k f d)

-- at each moment of it the place before it stands, or the place after it
pub moment : {n D d : ℕ} {M xs : ℕ → ℕ} {ps : ℕ → Clock} → Passage n D M xs ps d → (k e : ℕ) → 0 < k → 0 < e → e ≤ k * d → Standing n (k * D) M (λ c. k * xs c + e) ps ⊎ Standing n (k * D) M (λ c. k * xs c + e) (after n M ps)
moment {n} {D} {d} {M} {xs} {ps} (soft fs s b i) k e l h j =
    inr (λ c. k * fs c + e, tidied (step-sharp n (k * D) e M (λ c. k * xs c) (λ c. k * fs c) ps (finer k n D M xs fs ps l s) h b (λ c q. fine-short k D d e (fs c) (ps c) l j (i c q))))
moment {n} {D} {d} {M} {xs} {ps} (full fs s b i a q t) k e l h j =
    elim (eqb_tells e (k * d)) [ inl z ↦ inr (λ c. rolled (k * D) e (k * fs c), tidied (step-roll n (k * D) e M (λ c. k * xs c) (λ c. k * fs c) ps (finer k n D M xs fs ps l s) h b (λ c q. fine-near k D d e (fs c) (ps c) j (i c q)) a q (fine-hits k D d e (fs a) (ps a) z.1 t))) | inr z ↦ inl (λ c. k * fs c + e, step-stay n (k * D) e M (λ c. k * xs c) (λ c. k * fs c) ps (finer k n D M xs fs ps l s) h b (λ c q. fine-early k D d e (fs c) (ps c) (grind arith) (i c q))) ]
moment {n} {D} {d} {M} {xs} {ps} (idle fs s b) k e l h j =
    inr (λ c. k * fs c, over-stands (λ c. k * xs c + e) (after n M ps) (finer k n D M xs fs ps l s) b (λ c q. omega arith) (over-after n M ps b))

-- with one part more in each unit
short-widened : (D ρ ρ' M f d d' x y : ℕ) (p : Clock) → One D M x f p → Widened D ρ' x y → Widened D ρ (x + d) (y + d') → Short D d f p → Short (suc D) d' (extra D ρ' f) p
short-widened D ρ ρ' M f d d' x y Over o h k l = tt
short-widened D ρ ρ' M f d d' x y (Counted w r) o h k l =
    let e : extra D ρ' f + d' ≡ extra D ρ (f + d) = wait-within D ρ ρ' w f d d' x y h k o.0 l in
    grind (arith, nat_tests)

hits-widened : (D ρ ρ' M f d d' x y : ℕ) (p : Clock) → ρ < D → One D M x f p → Widened D ρ' x y → Widened D ρ (x + d) (y + d') → Hits D d f p → Hits (suc D) d' (extra D ρ' f) p
hits-widened D ρ ρ' M f d d' x y Over r o h k l = l
hits-widened D ρ ρ' M f d d' x y (Counted w q) r o h k l = wait-to-end D ρ ρ' w f d d' x y r h k o.0 o.1 l

near-widened : (D ρ ρ' M f d d' x y : ℕ) (p : Clock) → ρ < D → One D M x f p → Widened D ρ' x y → Widened D ρ (x + d) (y + d') → Near D d f p → Near (suc D) d' (extra D ρ' f) p
near-widened D ρ ρ' M f d d' x y Over r o h k l = tt
near-widened D ρ ρ' M f d d' x y (Counted w q) r o h k l =
    let a : f + d < D → extra D ρ' f + d' < suc D = short-widened D ρ ρ' M f d d' x y (Counted w q) o h k in
    let b : f + d ≡ D → extra D ρ' f + d' ≡ suc D = hits-widened D ρ ρ' M f d d' x y (Counted w q) r o h k in
    elim (eqb_tells (f + d) D) [ inl t ↦ omega (arith, b t.1) | inr t ↦ omega (arith, a (grind arith)) ]

module _ (n D ρ ρ' d d' : ℕ) (M xs ys : ℕ → ℕ) (ps : ℕ → Clock) (r : ρ < D) (r' : ρ' < D) (h : (c : ℕ) → c < n → Widened D ρ' (xs c) (ys c)) (k : (c : ℕ) → c < n → Widened D ρ (xs c + d) (ys c + d')) where
  pub passage-widened : Passage n D M xs ps d → Passage n (suc D) M ys ps d'
  passage-widened (soft fs s e l) =
      soft (λ c. extra D ρ' (fs c)) (widen n D ρ' M xs ys fs ps r' h s) e (λ c i. short-widened D ρ ρ' (M c) (fs c) d d' (xs c) (ys c) (ps c) (s.each c i) (h c i) (k c i) (l c i))
  passage-widened (full fs s e l a i t) =
      full (λ c. extra D ρ' (fs c)) (widen n D ρ' M xs ys fs ps r' h s) e (λ c i. near-widened D ρ ρ' (M c) (fs c) d d' (xs c) (ys c) (ps c) r (s.each c i) (h c i) (k c i) (l c i)) a i (hits-widened D ρ ρ' (M a) (fs a) d d' (xs a) (ys a) (ps a) r (s.each a i) (h a i) (k a i) t)
  passage-widened (idle fs s e) = idle (λ c. extra D ρ' (fs c)) (widen n D ρ' M xs ys fs ps r' h s) e
