-- Every dense chain has a trace with the parts and the delays that its timing says.
use Rattle.std.proofs.Common.{◌≡◌, ℕ, zero, suc, ◌+◌, ◌-◌, ◌<◌, ◌≤◌, Bool, true, false, cond, eqb, ◌⊎◌, List, [], ◌∷◌, get_or, Some, sym, refl, ap, ◌∙◌, subst, inl, inr, ⊎_elim, arith}
use Rattle.std.proofs.lemmas.Bool.{cases_lt}
use Rattle.std.proofs.lemmas.Bool.Decides.{nat_tests, eqb_tells, leb_tells}
use Rattle.delays.specs.declared.paces.Passing.TheVariants.{Still, Leaving, Meeting}
use Rattle.delays.specs.Pace.{highest, widened}
use Rattle.judging.specs.Truth.{View}
use Rattle.kinds.specs.Time.{Chain, from, more}
use Rattle.tables.specs.Settings.{Setting}
use Rattle.regions.specs.declared.clocks.Clock.{Clock}
use Rattle.regions.specs.declared.clocks.Clock.TheVariants.{Over, Counted}
use Rattle.regions.specs.declared.places.Place.{Place}
use Rattle.regions.specs.Clocks.{at}
use Rattle.regions.specs.Gaps.{Counts}
use Rattle.regions.specs.Regions.{any_sharp, rank_of}
use Rattle.regions.proofs.Fours.{below-four}
use Rattle.dense.specs.Delays.{Timing, arriving, trying, advanced, timing}
use Rattle.dense.specs.Trials.{Occurs, origin, starting, stepping, dense}
use Rattle.dense.specs.Timed.{timing-first, timing-next}
use Rattle.timings.specs.Agreement.{ceiling_of}
use Rattle.timings.specs.Standing.{One, Stands}
use Rattle.timings.proofs.Fewer.{sharp-fewer}
use Rattle.timings.proofs.Joined.{not-elapse}
use Rattle.timings.proofs.Move.{reset}
use Rattle.timings.proofs.Passage.{soft, full, idle, over-stands, over-after}
use Rattle.timings.proofs.Small.{Short, Near, Hits, rolled, step-sharp, step-roll}
use Rattle.timings.proofs.Tidy.{tidied}
use Rattle.timings.proofs.Fractions.{kept, kept-stands, fraction_of, Traced, following, settled}
use Rattle.timings.proofs.Trace.{Trace, begin, wait, enter, Wider, wider}
use Rattle.timings.proofs.Truth.{origin-stands}
use Rattle.timings.proofs.Trying.{sight, Began, Passed, Entered, occurs, began, begins, passed, entered}
use Rattle.timings.proofs.Widen.{extra, psi-zero, widen}

-- a counted clock with the largest fraction
abbrev Under : ℕ → ℕ → Clock → Type 0
Under f g Over = Unit {0}
Under f g (Counted w r) = f ≤ g

record Largest (n : ℕ) (fs : ℕ → ℕ) (ps : ℕ → Clock) : Type 0 where
  pub clock : ℕ
  pub inside : clock < n
  pub counts : Counts (ps clock)
  pub most : (c : ℕ) → c < n → Under (fs c) (fs clock) (ps c)

one_more : (P : ℕ → Type 0) (n : ℕ) → ((c : ℕ) → c < n → P c) → P n → (c : ℕ) → c < suc n → P c
one_more P n h k c l = elim (eqb_tells c n) [ inl e ↦ subst P (sym e.1) k | inr e ↦ h c (grind arith) ]

under-trans : (f g h : ℕ) (p : Clock) → Under f g p → g ≤ h → Under f h p
under-trans f g h Over u l = tt
under-trans f g h (Counted w r) u l = omega arith

under-self : (f : ℕ) (p : Clock) → Under f f p
under-self f Over = tt
under-self f (Counted w r) = omega arith

under-le : (f g : ℕ) (p : Clock) → f ≤ g → Under f g p
under-le f g Over l = tt
under-le f g (Counted w r) l = l

largest : (n : ℕ) (fs : ℕ → ℕ) (ps : ℕ → Clock) → ((c : ℕ) → c < n → ps c ≡ Over) ⊎ Largest n fs ps
largest zero fs ps = inl (λ c h. absurd (omega arith))
largest (suc n) fs ps = go (ps n) refl (largest n fs ps)
  where
    go : (p : Clock) → ps n ≡ p → ((c : ℕ) → c < n → ps c ≡ Over) ⊎ Largest n fs ps → ((c : ℕ) → c < suc n → ps c ≡ Over) ⊎ Largest (suc n) fs ps
    go Over e (inl h) = inl (one_more (λ c. ps c ≡ Over) n h e)
    go Over e (inr g) =
        inr (record { clock = g.clock; inside = omega (arith, g.inside); counts = g.counts; most = one_more (λ c. Under (fs c) (fs g.clock) (ps c)) n g.most (subst (Under (fs n) (fs g.clock)) (sym e) tt) })
    go (Counted w r) e (inl h) =
        inr (record { clock = n; inside = omega arith; counts = subst Counts (sym e) tt; most = one_more (λ c. Under (fs c) (fs n) (ps c)) n (λ c l. subst (Under (fs c) (fs n)) (sym (h c l)) tt) (under-self (fs n) (ps n)) })
    go (Counted w r) e (inr g) =
        elim (leb_tells (fs n) (fs g.clock)) [ inl t ↦ inr (record { clock = g.clock; inside = omega (arith, g.inside); counts = g.counts; most = one_more (λ c. Under (fs c) (fs g.clock) (ps c)) n g.most (under-le (fs n) (fs g.clock) (ps n) t.1) }) | inr t ↦ inr (record { clock = n; inside = omega arith; counts = subst Counts (sym e) tt; most = one_more (λ c. Under (fs c) (fs n) (ps c)) n (λ c l. under-trans (fs c) (fs g.clock) (fs n) (ps c) (g.most c l) (omega (arith, t.1))) (under-self (fs n) (ps n)) }) ]

below_one : (D M x f : ℕ) (p : Clock) → One D M x f p → Short (suc D) 1 (extra D 0 f) p
below_one D M x f Over o = tt
below_one D M x f (Counted w r) o = grind (arith, nat_tests)

near-largest : (D M x f g : ℕ) (p : Clock) → One D M x f p → g < D → Under f g p → Near D (D - g) f p
near-largest D M x f g Over o l u = tt
near-largest D M x f g (Counted w r) o l u = omega arith

hits-largest : (D M x f : ℕ) (p : Clock) → One D M x f p → Counts p → Hits D (D - f) f p × (f < D)
hits-largest D M x f Over o k = absurd k
hits-largest D M x f (Counted w r) o k = (omega arith, o.1)

-- the fraction of a clock that is over is 0, that of another is less than a unit
fraction-less : (D M x f : ℕ) (p : Clock) → 0 < D → One D M x f p → (rank_of p ≡ 0 → f ≡ 0) → f < D
fraction-less D M x f Over l o z = omega (arith, z refl)
fraction-less D M x f (Counted w r) l o z = o.1

under_all : (f g : ℕ) (p : Clock) → Under f g p → (rank_of p ≡ 0 → f ≡ 0) → f ≤ g
under_all f g Over u z = omega (arith, z refl)
under_all f g (Counted w r) u z = u

pub highest-at : (fs : List ℕ) (c : ℕ) → c < 4 → get_or fs c 0 ≤ highest fs
highest-at fs =
    below-four (λ c. get_or fs c 0 ≤ highest fs) (grind arith) (grind arith) (grind arith) (grind arith)

highest-most : (fs : List ℕ) (k : ℕ) → ((c : ℕ) → c < 4 → get_or fs c 0 ≤ k) → highest fs ≤ k
highest-most fs k h =
    let a : get_or fs 0 0 ≤ k = h 0 (omega arith) in
    let b : get_or fs 1 0 ≤ k = h 1 (omega arith) in
    let c : get_or fs 2 0 ≤ k = h 2 (omega arith) in
    let d : get_or fs 3 0 ≤ k = h 3 (omega arith) in
    grind arith

extra-none : (D f : ℕ) → f < D → extra D 0 f ≡ f
extra-none D f l = grind (arith, nat_tests)

rolled-either : (D d f : ℕ) → (rolled D d f ≡ 0) ⊎ (rolled D d f ≡ f + d)
rolled-either D d f = go (eqb (f + d) D) refl
  where
    go : (b : Bool) → eqb (f + d) D ≡ b → (rolled D d f ≡ 0) ⊎ (rolled D d f ≡ f + d)
    go true e = inl (ap (λ b. cond b 0 (f + d)) e)
    go false e = inr (ap (λ b. cond b 0 (f + d)) e)

reset-either : (b : Bool) (f : ℕ) → (cond b 0 f ≡ 0) ⊎ (cond b 0 f ≡ f + 0)
reset-either true f = inl refl
reset-either false f = inr (omega arith)

module _ (K : Setting) (four : K.clocks ≤ 4) (none : (c : ℕ) (v : View) → K.clocks ≤ c → K.table.reset c v ≡ false) (i : ℕ) where
  module _ {is : List ℕ} (p q : Place) (s : Timing) (o : Occurs K p) (t : Traced K i is p s) where
    abbrev D : ℕ
    D = s.parts

    abbrev M : ℕ → ℕ
    M = ceiling_of K

    abbrev ps : ℕ → Clock
    ps = at p.clocks

    abbrev fs : ℕ → ℕ
    fs = fraction_of s

    past-zero : (c : ℕ) → K.clocks ≤ c → c < 4 → fs c ≡ 0
    past-zero c h l = t.none c l (ap rank_of (o.past c h))

    less : (c : ℕ) → c < 4 → fs c < D
    less c l = go (cases_lt c K.clocks)
      where
        go : (c < K.clocks) ⊎ (K.clocks ≤ c) → fs c < D
        go (inl h) = fraction-less D (M c) (t.clocks c) (fs c) (ps c) t.some (t.stands.each c h) (t.none c l)
        go (inr h) = omega (arith, past-zero c h l, t.some)

    inside : (c : ℕ) → c < K.clocks → c < 4
    inside c h = omega arith

    -- clocks leave their whole numbers
    leaves : stepping K p 0 ≡ Some q → Passed K p q → any_sharp K.clocks ps ≡ true → Traced K i (0 ∷ is) q (following Leaving q s)
    leaves h u e =
        let w : Wider K D i 0 0 is s.delays t.clocks p = wider K D i t.some t.trace 0 (psi-zero D t.some) in
        let gs : ℕ → ℕ = λ c. extra D 0 (fs c) in
        let st : Stands K.clocks (suc D) M w.clocks gs ps = widen K.clocks D 0 M t.clocks w.clocks fs ps t.some (λ c _. w.each c) t.stands in
        let k : (c : ℕ) → c < K.clocks → Short (suc D) 1 (gs c) (ps c) = λ c l. below_one D (M c) (t.clocks c) (fs c) (ps c) (t.stands.each c l) in
        let y : Trace K (suc D) i (0 ∷ is) (1 ∷ widened D 0 s.delays) (λ c. w.clocks c + 1) q = wait p q 1 (omega arith) (omega arith) w.trace h u (soft gs st e k) (λ c. refl) in
        settled K four i Leaving q s (omega arith) (λ c. w.clocks c + 1) y (λ c. gs c + 1)
        (subst (Stands K.clocks (suc D) M (λ c. w.clocks c + 1) (λ c. gs c + 1)) (sym u.clocks) (tidied (step-sharp K.clocks (suc D) 1 M w.clocks gs ps st (omega arith) e k)))
        (λ c l. inr (ap (λ x. x + 1) (extra-none D (fs c) (less c (inside c l)))))

    -- the highest fraction comes to a whole unit
    abbrev d : ℕ
    d = D - highest s.fractions

    top-less : highest s.fractions < D
    top-less = omega (arith, highest-most s.fractions (D - 1) (λ c l. omega (arith, less c l)), t.some)

    meets-none : stepping K p 0 ≡ Some q → Passed K p q → ((c : ℕ) → c < K.clocks → ps c ≡ Over) → Traced K i (0 ∷ is) q (following Meeting q s)
    meets-none h u e =
        let y : Trace K D i (0 ∷ is) (d ∷ s.delays) (λ c. t.clocks c + d) q = wait p q d (omega (arith, top-less)) (omega arith) t.trace h u (idle fs t.stands e) (λ c. refl) in
        settled K four i Meeting q s t.some (λ c. t.clocks c + d) y fs
        (subst (Stands K.clocks D M (λ c. t.clocks c + d) fs) (sym u.clocks) (over-stands (λ c. t.clocks c + d) _ t.stands e (λ c l. omega arith) (over-after K.clocks M ps e)))
        (λ c l. inl (t.none c (inside c l) (ap rank_of (e c l))))

    meets-some : stepping K p 0 ≡ Some q → Passed K p q → any_sharp K.clocks ps ≡ false → Largest K.clocks fs ps → Traced K i (0 ∷ is) q (following Meeting q s)
    meets-some h u e g =
        let a : ℕ = g.clock in
        let all : (c : ℕ) → c < 4 → fs c ≤ fs a = λ c l. ⊎_elim (λ k. under_all (fs c) (fs a) (ps c) (g.most c k) (t.none c l)) (λ k. omega (arith, past-zero c k l)) (cases_lt c K.clocks) in
        let top : fs a ≡ highest s.fractions = omega (arith, highest-most s.fractions (fs a) all, highest-at s.fractions a (inside a g.inside)) in
        let near : (c : ℕ) → c < K.clocks → Near D d (fs c) (ps c) = λ c l. near-largest D (M c) (t.clocks c) (fs c) (highest s.fractions) (ps c) (t.stands.each c l) top-less (under-le (fs c) (highest s.fractions) (ps c) (highest-at s.fractions c (inside c l))) in
        let hits : Hits D d (fs a) (ps a) = subst (λ x. Hits D (D - x) (fs a) (ps a)) top (hits-largest D (M a) (t.clocks a) (fs a) (ps a) (t.stands.each a g.inside) g.counts).0 in
        let y : Trace K D i (0 ∷ is) (d ∷ s.delays) (λ c. t.clocks c + d) q = wait p q d (omega (arith, top-less)) (omega arith) t.trace h u (full fs t.stands e near a g.inside hits) (λ c. refl) in
        settled K four i Meeting q s t.some (λ c. t.clocks c + d) y (λ c. rolled D d (fs c))
        (subst (Stands K.clocks D M (λ c. t.clocks c + d) (λ c. rolled D d (fs c))) (sym u.clocks) (tidied (step-roll K.clocks D d M t.clocks fs ps t.stands (omega (arith, top-less)) e near a g.inside hits)))
        (λ c l. rolled-either D d (fs c))

    waited : stepping K p 0 ≡ Some q → Passed K p q → Traced K i (0 ∷ is) q (advanced 0 p q s)
    waited h u = go (any_sharp 4 ps) refl
      where
        go : (b : Bool) → any_sharp 4 ps ≡ b → Traced K i (0 ∷ is) q (following (cond b Leaving Meeting) q s)
        go true e = leaves h u (sym (sharp-fewer K.clocks ps four o.past) ∙ e)
        go false e = ⊎_elim (meets-none h u) (meets-some h u (sym (sharp-fewer K.clocks ps four o.past) ∙ e)) (largest K.clocks fs ps)

    -- a discrete step
    stepped : (w : ℕ) → stepping K p (suc w) ≡ Some q → Entered K p w q → Traced K i (suc w ∷ is) q (advanced (suc w) p q s)
    stepped w h u =
        subst (λ b. Traced K i (suc w ∷ is) q (following (cond b (cond (any_sharp 4 ps) Leaving Meeting) Still) q s)) (sym (not-elapse w))
        (settled K four i Still q s t.some ys (enter p q w t.trace h u (λ c. refl)) (λ c. cond (rs c) 0 (fs c))
        (subst (Stands K.clocks D M ys (λ c. cond (rs c) 0 (fs c))) (sym u.clocks) (tidied (reset K.clocks D M t.clocks fs ps rs t.some t.stands)))
        (λ c l. reset-either (rs c) (fs c)))
      where
        rs : ℕ → Bool
        rs c = K.table.reset c (sight K p w)

        ys : ℕ → ℕ
        ys c = cond (K.table.reset c (sight K p w)) 0 (t.clocks c)

  -- the timing after a trial that gave a place
  goes_on : (is : List ℕ) (j : ℕ) (p q : Place) → (timing (starting K) (stepping K) i is).place ≡ Some p → stepping K p j ≡ Some q → advanced j p q (timing (starting K) (stepping K) i is) ≡ timing (starting K) (stepping K) i (j ∷ is)
  goes_on is j p q e h =
      let s : Timing = timing (starting K) (stepping K) i is in
      sym (timing-next (starting K) (stepping K) i j is ∙ ap (λ x. trying (stepping K) j x s) e ∙ ap (λ x. arriving j p x s) h)

  -- the first
  abbrev opening : Timing
  opening = record { place = starting K i; parts = 1; fractions = 0 ∷ 0 ∷ 0 ∷ 0 ∷ []; delays = [] }

  opened : (c : ℕ) → c < 4 → fraction_of opening c ≡ 0
  opened = below-four (λ c. fraction_of opening c ≡ 0) refl refl refl refl

  first-traced : Began K i → Traced K i [] (origin K i) opening
  first-traced b =
      record {
        some = omega arith;
        place = begins K i b;
        clocks = λ c. 0;
        trace = begin (λ c. refl) b;
        stands = kept-stands (fraction_of opening) (λ c h. kept 0 (fraction_of opening c) (at (origin K i).clocks c) (sym (opened c (omega arith)))) (origin-stands K four 1 (omega arith) i (λ c. 0) (λ c h. refl));
        none = λ c h e. opened c h;
      }

  pub traced : {is : List ℕ} {p : Place} → Chain (dense K) i is p → Traced K i is p (timing (starting K) (stepping K) i is)
  traced (from p l h) =
      let b = began K i p h in
      subst (Traced K i [] p) (sym (timing-first (starting K) (stepping K) i)) (subst (λ x. Traced K i [] x opening) (sym b.1) (first-traced b.0))
  traced (more {is = is} {p = p} zero q c l h) =
      let t = traced c in
      let o = occurs K four none c in
      subst (Traced K i (0 ∷ is) q) (goes_on is 0 p q t.place h) (waited p q (timing (starting K) (stepping K) i is) o t h (passed K four none p q o h))
  traced (more {is = is} {p = p} (suc w) q c l h) =
      let t = traced c in
      let o = occurs K four none c in
      subst (Traced K i (suc w ∷ is) q) (goes_on is (suc w) p q t.place h) (stepped p q (timing (starting K) (stepping K) i is) o t w h (entered K four none p q w o h))
