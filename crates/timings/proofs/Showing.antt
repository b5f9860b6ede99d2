-- A system's formulas show no more of clocks than their sides to constants up to the ceilings, and some show nothing of them.
use Rattle.std.proofs.Common.{◌≡◌, ℕ, zero, suc, ◌<◌, ◌≤◌, Bool, true, false, cond, not as flip, ◌&&◌, ◌||◌, eqb, List, [], ◌∷◌, length, replicate, sym, refl, ap, ◌∙◌, ap₂, arith}
use Rattle.std.proofs.lemmas.Bool.{eq-eqb, true≢false}
use Rattle.instruction.specs.declared.sections.Section.{Section}
use Rattle.instruction.specs.declared.sections.Section.TheVariants.{Clocks, Start, Invariant, Transition, Urgent, Question}
use Rattle.instruction.specs.Marks.{clocks_allowed}
use Rattle.ceilings.specs.Ceilings.{tallest, ceiling}
use Rattle.formula.specs.Formulas.{Formula, is, becomes, stays, clock, always, not, and, or, Allowed, Writes}
use Rattle.formula.specs.Heights.{height}
use Rattle.judging.specs.Truth.{View, holds, meets}
use Rattle.model.specs.Systems.{System, Sound, Stand}
use Rattle.model.proofs.Reaches.{stand-parts}
use Rattle.regions.proofs.Fours.{below-four}
use Rattle.tables.proofs.Systems.{none-past}
use Rattle.tables.specs.Settings.{Setting}
use Rattle.tables.specs.Tables.{reset_of, table_of}
use Rattle.timings.specs.Agreement.{Agrees, ceiling_of, Shows}

-- a system's table, its clocks and their ceilings
abbrev pub setting_of : System → Setting
setting_of k =
    record { table = table_of k; clocks = length k.resets; ceilings = ceiling k 0 ∷ ceiling k 1 ∷ ceiling k 2 ∷ ceiling k 3 ∷ [] }

-- where no clock may be named, the values alone matter
pub blind : (s : Section) (ns : List ℕ) (n : ℕ) (f : Formula) → clocks_allowed s ≡ false → Allowed s ns n f → (v w : View) → v.value ≡ w.value → v.next ≡ w.next → holds v f ≡ holds w f
unfolding holds Allowed
blind s ns n (is i k) z a v w e g = ap (λ x. eqb (x i) k) e
blind s ns n (becomes i k) z a v w e g = ap (λ x. eqb (x i) k) g
blind s ns n (stays i) z a v w e g = ap₂ (λ x y. eqb (x i) (y i)) g e
blind s ns n (clock o c j) z a v w e g = absurd (true≢false (sym a.0 ∙ z))
blind s ns n always z a v w e g = refl
blind s ns n (not f) z a v w e g = ap flip (blind s ns n f z a v w e g)
blind s ns n (and f h) z a v w e g = ap₂ ◌&&◌ (blind s ns n f z a.0 v w e g) (blind s ns n h z a.1 v w e g)
blind s ns n (or f h) z a v w e g = ap₂ ◌||◌ (blind s ns n f z a.0 v w e g) (blind s ns n h z a.1 v w e g)

-- elsewhere also the sides of declared clocks to constants up to the formula's largest
pub sided : (s : Section) (ns : List ℕ) (n : ℕ) (M : ℕ → ℕ) (f : Formula) → Allowed s ns n f → ((c : ℕ) → c < n → height c f ≤ M c) → (v w : View) → Agrees n M v w → holds v f ≡ holds w f
unfolding holds Allowed height
sided s ns n M (is i k) a m v w g = ap (λ x. eqb (x i) k) g.value
sided s ns n M (becomes i k) a m v w g = ap (λ x. eqb (x i) k) g.next
sided s ns n M (stays i) a m v w g = ap₂ (λ x y. eqb (x i) (y i)) g.next g.value
sided s ns n M (clock o c j) a m v w g =
    let own : cond (eqb c c) j 0 ≡ j = ap (λ b. cond b j 0) (eq-eqb c c refl) in
    let top : cond (eqb c c) j 0 ≤ M c = m c a.1 in
    ap (meets o) (g.side c j a.1 (omega arith))
sided s ns n M always a m v w g = refl
sided s ns n M (not f) a m v w g = ap flip (sided s ns n M f a m v w g)
sided s ns n M (and f h) a m v w g =
    ap₂ ◌&&◌ (sided s ns n M f a.0 (λ c l. omega (arith, m c l)) v w g) (sided s ns n M h a.1 (λ c l. omega (arith, m c l)) v w g)
sided s ns n M (or f h) a m v w g =
    ap₂ ◌||◌ (sided s ns n M f a.0 (λ c l. omega (arith, m c l)) v w g) (sided s ns n M h a.1 (λ c l. omega (arith, m c l)) v w g)

resets-sided : (ns : List ℕ) (n : ℕ) (M : ℕ → ℕ) (fs : List Formula) → Stand ns n (replicate (length fs) Clocks) fs → ((c : ℕ) → c < n → tallest c fs ≤ M c) → (i : ℕ) (v w : View) → Agrees n M v w → reset_of fs i v ≡ reset_of fs i w
unfolding reset_of tallest
resets-sided ns n M [] a m i v w g = refl
resets-sided ns n M (f ∷ fs) a m zero v w g = sided Clocks ns n M f a.0.allowed (λ c l. omega (arith, m c l)) v w g
resets-sided ns n M (f ∷ fs) a m (suc i) v w g = resets-sided ns n M fs a.1 (λ c l. omega (arith, m c l)) i v w g

ceiling-is : (k : System) (c : ℕ) → c < 4 → ceiling_of (setting_of k) c ≡ ceiling k c
ceiling-is k = below-four (λ c. ceiling_of (setting_of k) c ≡ ceiling k c) refl refl refl refl

-- a formula's ceilings are no higher than the system's
heights : (k : System) (c : ℕ) → c < 4 → (height c k.invariant ≤ ceiling_of (setting_of k) c) × (height c k.transition ≤ ceiling_of (setting_of k) c) × (tallest c k.resets ≤ ceiling_of (setting_of k) c)
unfolding tallest
heights k c l = let e = ceiling-is k c l in (omega arith, omega arith, omega arith)

-- with any question that reads no clock
pub shows-with : (k : System) → Sound k → (q : View → Bool) → ((v w : View) → v.value ≡ w.value → v.next ≡ w.next → q v ≡ q w) → Shows (setting_of k) q
shows-with k sound q asked =
    let ns = k.counts in
    let n = length k.resets in
    let M = ceiling_of (setting_of k) in
    let x = stand-parts ns n (Start ∷ Invariant ∷ Transition ∷ Urgent ∷ []) k.resets (k.start ∷ k.invariant ∷ k.transition ∷ k.urgent ∷ []) sound.stand in
    record {
      few = sound.clocks;
      start = blind Start ns n k.start refl x.1.0.allowed;
      urgent = blind Urgent ns n k.urgent refl x.1.1.1.1.0.allowed;
      asked = asked;
      invariant = sided Invariant ns n M k.invariant x.1.1.0.allowed (λ c l. (heights k c (omega (arith, sound.clocks))).0);
      transition = sided Transition ns n M k.transition x.1.1.1.0.allowed (λ c l. (heights k c (omega (arith, sound.clocks))).1);
      reset = resets-sided ns n M k.resets x.0 (λ c l. (heights k c (omega (arith, sound.clocks))).2);
      none = none-past k.resets;
    }

pub shows : (k : System) → Sound k → (f : Formula) (bytes : List ℕ) → Writes k.counts (length k.resets) Question bytes f → Shows (setting_of k) (λ v. holds v f)
shows k sound f bytes ask = shows-with k sound (λ v. holds v f) (blind Question k.counts (length k.resets) f refl ask.allowed)

-- whatever is asked
pub shows-any : (k : System) → Sound k → Shows (setting_of k) (λ _. true)
shows-any k sound = shows-with k sound (λ _. true) (λ v w e g. refl)
