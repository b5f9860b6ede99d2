-- The fractions that a timing has are those of the clocks that its place stands for.
use Rattle.std.proofs.Common.{◌≡◌, ℕ, ◌+◌, ◌<◌, ◌≤◌, not, eqb, ◌⊎◌, List, get_or, Some, sym, refl, ap, ◌∙◌, subst, inl, inr, arith}
use Rattle.std.proofs.lemmas.Bool.Decides.{nat_tests}
use Rattle.delays.specs.declared.paces.Passing.{Passing}
use Rattle.delays.specs.Pace.{wait_of, parts_after, fraction_after, fractions_after, delays_after}
use Rattle.tables.specs.Settings.{Setting}
use Rattle.regions.specs.declared.clocks.Clock.{Clock}
use Rattle.regions.specs.declared.clocks.Clock.TheVariants.{Over, Counted}
use Rattle.regions.specs.declared.places.Place.{Place}
use Rattle.regions.specs.Clocks.{at}
use Rattle.regions.specs.Regions.{rank_of}
use Rattle.runs.proofs.Four.{at-four}
use Rattle.dense.specs.Delays.{ranked, Timing}
use Rattle.timings.specs.Agreement.{ceiling_of}
use Rattle.timings.specs.Standing.{One, Two, Stands}
use Rattle.timings.proofs.Trace.{Trace}

-- of an over clock the fraction does not matter
abbrev pub Kept : ℕ → ℕ → Clock → Type 0
Kept f g Over = Unit {0}
Kept f g (Counted w r) = f ≡ g

pub kept : (f g : ℕ) (p : Clock) → f ≡ g → Kept f g p
kept f g Over e = tt
kept f g (Counted w r) e = e

kept-one : (E M x f g : ℕ) (p : Clock) → Kept f g p → One E M x f p → One E M x g p
kept-one E M x f g Over k o = o
kept-one E M x f g (Counted w r) k o = grind arith

kept-two : (f g h j : ℕ) (p q : Clock) → Kept f h p → Kept g j q → Two f g p q → Two h j p q
kept-two f g h j Over Over k l t = tt
kept-two f g h j Over (Counted v s) k l t = tt
kept-two f g h j (Counted w r) Over k l t = tt
kept-two f g h j (Counted w r) (Counted v s) k l t = grind arith

pub kept-stands : {n E : ℕ} {M xs fs : ℕ → ℕ} {ps : ℕ → Clock} (gs : ℕ → ℕ) → ((c : ℕ) → c < n → Kept (fs c) (gs c) (ps c)) → Stands n E M xs fs ps → Stands n E M xs gs ps
kept-stands {n} {E} {M} {xs} {fs} {ps} gs k s =
    record { each = λ c h. kept-one E (M c) (xs c) (fs c) (gs c) (ps c) (k c h) (s.each c h); both = λ c d h i. kept-two (fs c) (fs d) (gs c) (gs d) (ps c) (ps d) (k c h) (k d i) (s.both c d h i) }

-- a fraction that is 0 or grew by the wait is what its rank says
settled-one : (E M x g f w : ℕ) (p : Clock) → One E M x g p → (g ≡ 0) ⊎ (g ≡ f + w) → Kept g (fraction_after (not (eqb (rank_of p) 0)) w f) p
settled-one E M x g f w Over o h = tt
settled-one E M x g f w (Counted v r) o (inl e) = grind (arith, nat_tests)
settled-one E M x g f w (Counted v r) o (inr e) = grind (arith, nat_tests)

abbrev pub fraction_of : Timing → ℕ → ℕ
fraction_of t c = get_or t.fractions c 0

-- a trace with the parts and the delays of a timing, whose fractions are those of its clocks
pub record Traced (K : Setting) (i : ℕ) (is : List ℕ) (p : Place) (t : Timing) : Type 0 where
  pub some : 1 ≤ t.parts
  pub place : t.place ≡ Some p
  pub clocks : ℕ → ℕ
  pub trace : Trace K t.parts i is t.delays clocks p
  pub stands : Stands K.clocks t.parts (ceiling_of K) clocks (fraction_of t) (at p.clocks)
  pub none : (c : ℕ) → c < 4 → rank_of (at p.clocks c) ≡ 0 → fraction_of t c ≡ 0

-- the timing after a step to place q
abbrev pub following : Passing → Place → Timing → Timing
following x q s =
    record { place = Some q; parts = parts_after x s.parts; fractions = fractions_after (ranked q) (wait_of x s.parts s.fractions) s.fractions; delays = delays_after x s.parts (wait_of x s.parts s.fractions) s.delays }

module _ (K : Setting) (four : K.clocks ≤ 4) (i : ℕ) (x : Passing) (q : Place) (s : Timing) where
  abbrev wait : ℕ
  wait = wait_of x s.parts s.fractions

  abbrev parts : ℕ
  parts = parts_after x s.parts

  fraction-at : (c : ℕ) → c < 4 → fraction_of (following x q s) c ≡ fraction_after (ranked q c) wait (fraction_of s c)
  fraction-at c h = at-four (λ c. fraction_after (ranked q c) wait (fraction_of s c)) c h

  pub settled : {is : List ℕ} → 1 ≤ parts → (ys : ℕ → ℕ) → Trace K parts i is (delays_after x s.parts wait s.delays) ys q → (gs : ℕ → ℕ) → Stands K.clocks parts (ceiling_of K) ys gs (at q.clocks) → ((c : ℕ) → c < K.clocks → (gs c ≡ 0) ⊎ (gs c ≡ fraction_of s c + wait)) → Traced K i is q (following x q s)
  settled l ys t gs st k =
      record {
        some = l;
        place = refl;
        clocks = ys;
        trace = t;
        stands = kept-stands (fraction_of (following x q s)) (λ c h. subst (λ y. Kept (gs c) y (at q.clocks c)) (sym (fraction-at c (omega arith))) (settled-one parts (ceiling_of K c) (ys c) (gs c) (fraction_of s c) wait (at q.clocks c) (st.each c h) (k c h))) st;
        none = λ c h e. fraction-at c h ∙ ap (λ r. fraction_after (not (eqb r 0)) wait (fraction_of s c)) e;
      }
