-- Closing up leaves no gap, and gapless places that are alike are equal.
use Rattle.std.proofs.Common.{◌≡◌, ℕ, zero, suc, ◌<◌, ◌≤◌, true, List, length, sym, refl, ap, ◌∙◌, subst, inl, inr, arith}
use Rattle.std.proofs.lemmas.Bool.Decides.{eqb_tells, leb_tells}
use Rattle.regions.specs.declared.clocks.Clock.{Clock}
use Rattle.regions.specs.declared.clocks.Clock.TheVariants.{Over, Counted}
use Rattle.regions.specs.Clocks.{at, four_of}
use Rattle.regions.specs.Regions.{rank_of, renamed, used, closed, tidy}
use Rattle.regions.specs.Gaps.{Gapless, Counts, Matches, Alike}
use Rattle.regions.proofs.Fours.{at-four, four, same-four}

-- a rank in use is some clock's
finds : (n : ℕ) (ps : ℕ → Clock) (k : ℕ) → used n ps k ≡ true → (d : ℕ) × (d < n) × (rank_of (ps d) ≡ k)
unfolding used
finds zero ps k u = absurd (let z : ◌≡◌ {A = ℕ} 0 1 = cc in omega arith)
finds (suc n) ps k u =
    elim (eqb_tells (rank_of (ps n)) k) [
      | inl e ↦ (n, omega arith, e.1)
      | inr e ↦ let f = finds n ps k (grind arith) in (f.0, omega (arith, f.1), f.2)
    ]

-- each count from 1 up to that at r is reached at a rank in use
reached : (n : ℕ) (ps : ℕ → Clock) (r k : ℕ) → 0 < k → k ≤ closed n ps r → (s : ℕ) × (used n ps s ≡ true) × (closed n ps s ≡ k)
unfolding closed
reached n ps zero k p h = absurd (omega arith)
reached n ps (suc r) k p h =
    elim (leb_tells k (closed n ps r)) [
      | inl e ↦ reached n ps r k p e.1
      | inr e ↦ (suc r, grind arith, grind arith)
    ]

rank-renamed : (φ : ℕ → ℕ) → φ 0 ≡ 0 → (p : Clock) → rank_of (renamed φ p) ≡ φ (rank_of p)
rank-renamed φ z Over = sym z
rank-renamed φ z (Counted w r) = refl

gapless : (n : ℕ) (ps : ℕ → Clock) → Gapless n (tidy n ps)
unfolding closed
gapless n ps c i k p h =
    let e : (d : ℕ) → rank_of (tidy n ps d) ≡ closed n ps (rank_of (ps d)) = λ d. rank-renamed (closed n ps) refl (ps d) in
    let s = reached n ps (rank_of (ps c)) k p (omega (arith, e c)) in
    let d = finds n ps s.0 s.1 in
    (d.0, d.1, e d.0 ∙ ap (closed n ps) d.2 ∙ s.2)

gapless-four : (f : ℕ → Clock) → Gapless 4 f → Gapless 4 (at (four_of f))
gapless-four f g c i k p h =
    let e : rank_of (at (four_of f) c) ≡ rank_of (f c) = ap rank_of (at-four f c i) in
    let x = g c i k p (omega arith) in
    (x.0, x.1, ap rank_of (at-four f x.0 x.1) ∙ x.2)

pub no_gaps : (r : List Clock) (ps : ℕ → Clock) → r ≡ four_of (tidy 4 ps) → Gapless 4 (at r)
no_gaps r ps e = subst (λ x. Gapless 4 (at x)) (sym e) (gapless-four (tidy 4 ps) (gapless 4 ps))

counts : (p : Clock) → 0 < rank_of p → Counts p
counts Over h = absurd (omega arith)
counts (Counted w r) h = tt

positive : (p q : Clock) → Matches p q → 0 < rank_of p → 0 < rank_of q
positive Over Over m h = h
positive Over (Counted v s) m h = elim m [ ]
positive (Counted w r) Over m h = elim m [ ]
positive (Counted w r) (Counted v s) m h =
    let z : s ≡ 0 → r ≡ 0 = m.2 in
    grind arith

-- a clock's rank in the one place is no higher than in the other
under : (n : ℕ) (ps qs : ℕ → Clock) → Gapless n ps → Alike n ps qs → (r c : ℕ) → c < n → rank_of (ps c) ≡ r → r ≤ rank_of (qs c)
under n ps qs g a zero c i e = omega arith
under n ps qs g a (suc zero) c i e = positive (ps c) (qs c) (a.each c i) (omega arith)
under n ps qs g a (suc (suc r)) c i e =
    let x = g c i (suc r) (omega arith) (omega arith) in
    let ih : suc r ≤ rank_of (qs x.0) = under n ps qs g a (suc r) x.0 x.1 x.2 in
    let y : rank_of (ps x.0) ≡ suc r = x.2 in
    let b : rank_of (qs c) ≤ rank_of (qs x.0) → rank_of (ps c) ≤ rank_of (ps x.0) = a.back c x.0 i x.1 (counts (ps c) (omega arith)) (counts (ps x.0) (omega arith)) in
    grind arith

matches-flip : (p q : Clock) → Matches p q → Matches q p
matches-flip Over Over m = tt
matches-flip Over (Counted v s) m = elim m [ ]
matches-flip (Counted w r) Over m = elim m [ ]
matches-flip (Counted w r) (Counted v s) m = (sym m.0, m.2, m.1)

counts-flip : (p q : Clock) → Matches p q → Counts q → Counts p
counts-flip Over Over m h = h
counts-flip Over (Counted v s) m h = elim m [ ]
counts-flip (Counted w r) q m h = tt

flip : (n : ℕ) (ps qs : ℕ → Clock) → Alike n ps qs → Alike n qs ps
flip n ps qs a =
    record { each = λ c i. matches-flip (ps c) (qs c) (a.each c i); there = λ c d i j u v. a.back c d i j (counts-flip (ps c) (qs c) (a.each c i) u) (counts-flip (ps d) (qs d) (a.each d j) v); back = λ c d i j u v. a.there c d i j (counts-flip (ps c) (qs c) (a.each c i) u) (counts-flip (ps d) (qs d) (a.each d j) v) }

equal : (p q : Clock) → Matches p q → rank_of p ≡ rank_of q → p ≡ q
equal Over Over m e = refl
equal Over (Counted v s) m e = elim m [ ]
equal (Counted w r) Over m e = elim m [ ]
equal (Counted w r) (Counted v s) m e = let x : w ≡ v = m.0 in let y : r ≡ s = e in cc

-- places without gaps that say the same of their clocks are the same
pub alike-one : (p q : List Clock) → length p ≡ 4 → length q ≡ 4 → Gapless 4 (at p) → Gapless 4 (at q) → Alike 4 (at p) (at q) → p ≡ q
alike-one p q m n g h a =
    let e : (c : ℕ) → c < 4 → rank_of (at p c) ≡ rank_of (at q c) =
    λ c i. omega (arith, under 4 (at p) (at q) g a (rank_of (at p c)) c i refl, under 4 (at q) (at p) h (flip 4 (at p) (at q) a) (rank_of (at q c)) c i refl) in
    four p m ∙ same-four (at p) (at q) (λ c i. equal (at p c) (at q c) (a.each c i) (e c i)) ∙ sym (four q n)
