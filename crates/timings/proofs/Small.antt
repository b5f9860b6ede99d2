-- The least time that changes how clocks stand leads from a place to the elapsed place.
use Rattle.std.proofs.Common.{◌≡◌, ℕ, zero, suc, ◌+◌, ◌*◌, ◌<◌, ◌≤◌, true, false, cond, eqb, ap, mul-le-mul_right, suc-mul, arith}
use Rattle.std.proofs.lemmas.Bool.Decides.{nat_tests}
use Rattle.regions.specs.declared.clocks.Clock.{Clock}
use Rattle.regions.specs.declared.clocks.Clock.TheVariants.{Over, Counted}
use Rattle.regions.specs.Regions.{sharp, any_sharp, rank_of, highest, lift, roll, elapsed}
use Rattle.timings.specs.Standing.{One, Two, Stands}

-- a counted clock with a fraction is below its ceiling
pub room : (E M x w f : ℕ) → x ≡ w * E + f → x ≤ M * E → 0 < f → w < M
room E M x w f e h l =
    let m : M ≤ w → M * E ≤ w * E = λ k. mul-le-mul_right E k in
    grind arith

pub under : (E M w : ℕ) → w < M → w * E + E ≤ M * E
under E M w l =
    let m : suc w * E ≤ M * E = mul-le-mul_right E l in
    omega (arith, suc-mul w E)

-- the whole part of a counted clock is at most its ceiling
pub within : (E M x w f : ℕ) → x ≡ w * E + f → x ≤ M * E → f < E → w ≤ M
within E M x w f e h l =
    let u : M < w → M * E + E ≤ w * E = under E w M in
    grind arith

-- the fraction of a counted clock stays below the next whole number
abbrev pub Short : ℕ → ℕ → ℕ → Clock → Type 0
Short E d f Over = Unit {0}
Short E d f (Counted w r) = f + d < E

pub lift-one : (E M x f d : ℕ) (p : Clock) → One E M x f p → 0 < d → Short E d f p → One E M (x + d) (f + d) (lift M p)
lift-one E M x f d Over o l h = omega arith
lift-one E M x f d (Counted w r) o l h =
    let m : 0 < f → w < M = room E M x w f o.0 o.2 in
    let k : w ≤ M = within E M x w f o.0 o.2 o.1 in
    let u : w < M → w * E + E ≤ M * E = under E M w in
    let a : w ≡ M → w * E ≡ M * E = ap (λ k. k * E) in
    grind (arith, nat_tests)

pub lift-two : (E M N x y f g d : ℕ) (p q : Clock) → One E M x f p → One E N y g q → Two f g p q → Two (f + d) (g + d) (lift M p) (lift N q)
lift-two E M N x y f g d Over Over o o' t = tt
lift-two E M N x y f g d Over (Counted v s) o o' t = grind (arith, nat_tests)
lift-two E M N x y f g d (Counted w r) Over o o' t = grind (arith, nat_tests)
lift-two E M N x y f g d (Counted w r) (Counted v s) o o' t = grind (arith, nat_tests)

-- the same place, a little later
pub stay-one : (E M x f d : ℕ) (p : Clock) → sharp p ≡ false → One E M x f p → 0 < d → Short E d f p → One E M (x + d) (f + d) p
stay-one E M x f d Over z o l h = omega arith
stay-one E M x f d (Counted w r) z o l h =
    let m : 0 < f → w < M = room E M x w f o.0 o.2 in
    let u : w < M → w * E + E ≤ M * E = under E M w in
    grind (arith, nat_tests)

pub stay-two : (f g d : ℕ) (p q : Clock) → Two f g p q → Two (f + d) (g + d) p q
stay-two f g d Over Over t = tt
stay-two f g d Over (Counted v s) t = tt
stay-two f g d (Counted w r) Over t = tt
stay-two f g d (Counted w r) (Counted v s) t = grind arith

-- the fraction after d, where the largest comes to the next whole number
abbrev pub rolled : ℕ → ℕ → ℕ → ℕ
rolled E d f = cond (eqb (f + d) E) 0 (f + d)

abbrev pub Up : ℕ → ℕ → ℕ → ℕ → Clock → Type 0
Up E top d f Over = Unit {0}
Up E top d f (Counted w r) = (f + d ≤ E) × (r ≡ top → f + d ≡ E) × (f + d ≡ E → r ≡ top)

pub roll-one : (E M x f d top : ℕ) (p : Clock) → sharp p ≡ false → One E M x f p → Up E top d f p → 0 < d → One E M (x + d) (rolled E d f) (roll top p)
roll-one E M x f d top Over z o t l = omega arith
roll-one E M x f d top (Counted w r) z o t l =
    let m : 0 < f → w < M = room E M x w f o.0 o.2 in
    let u : w < M → w * E + E ≤ M * E = under E M w in
    let v : suc w * E ≡ w * E + E = suc-mul w E in
    grind (arith, nat_tests)

pub roll-two : (E f g d top : ℕ) (p q : Clock) → sharp p ≡ false → sharp q ≡ false → Up E top d f p → Up E top d g q → 0 < d → Two f g p q → Two (rolled E d f) (rolled E d g) (roll top p) (roll top q)
roll-two E f g d top Over Over z z' u u' l t = tt
roll-two E f g d top Over (Counted v s) z z' u u' l t = grind (arith, nat_tests)
roll-two E f g d top (Counted w r) Over z z' u u' l t = grind (arith, nat_tests)
roll-two E f g d top (Counted w r) (Counted v s) z z' u u' l t = grind (arith, nat_tests)

pub none-sharp : (n : ℕ) (ps : ℕ → Clock) → any_sharp n ps ≡ false → (c : ℕ) → c < n → sharp (ps c) ≡ false
unfolding any_sharp
none-sharp zero ps e c h = grind arith
none-sharp (suc n) ps e c h =
    let ih : any_sharp n ps ≡ false → c < n → sharp (ps c) ≡ false = λ k. none-sharp n ps k c in
    let q : c ≡ n → sharp (ps c) ≡ sharp (ps n) = ap (λ k. sharp (ps k)) in
    grind arith

pub highest-bounds : (n : ℕ) (ps : ℕ → Clock) (c : ℕ) → c < n → rank_of (ps c) ≤ highest n ps
unfolding highest
highest-bounds zero ps c h = omega arith
highest-bounds (suc n) ps c h =
    let ih : c < n → rank_of (ps c) ≤ highest n ps = highest-bounds n ps c in
    let q : c ≡ n → rank_of (ps c) ≡ rank_of (ps n) = ap (λ k. rank_of (ps k)) in
    grind arith

pub highest-least : (n : ℕ) (ps : ℕ → Clock) (k : ℕ) → ((c : ℕ) → c < n → rank_of (ps c) ≤ k) → highest n ps ≤ k
unfolding highest
highest-least zero ps k f = omega arith
highest-least (suc n) ps k f =
    let ih : highest n ps ≤ k = highest-least n ps k (λ c h. f c (omega arith)) in
    omega (arith, f n (omega arith))

-- the fraction of a counted clock comes to the next whole number at most, and just to it
abbrev pub Near : ℕ → ℕ → ℕ → Clock → Type 0
Near E d f Over = Unit {0}
Near E d f (Counted w r) = f + d ≤ E

abbrev pub Hits : ℕ → ℕ → ℕ → Clock → Type 0
Hits E d f Over = ⊥
Hits E d f (Counted w r) = f + d ≡ E

no-higher : (E d f g : ℕ) (p q : Clock) → Near E d f p → Hits E d g q → Two f g p q → rank_of p ≤ rank_of q
no-higher E d f g Over q a b t = omega arith
no-higher E d f g (Counted w r) Over a b t = absurd b
no-higher E d f g (Counted w r) (Counted v s) a b t = grind arith

up_one : (E d f g top : ℕ) (p q : Clock) → top ≡ rank_of q → Near E d f p → Hits E d g q → Two f g p q → Two g f q p → Up E top d f p
up_one E d f g top Over q e a b t t' = tt
up_one E d f g top (Counted w r) Over e a b t t' = absurd b
up_one E d f g top (Counted w r) (Counted v s) e a b t t' = grind arith

module _ (n E d : ℕ) (M xs fs : ℕ → ℕ) (ps : ℕ → Clock) (s : Stands n E M xs fs ps) (l : 0 < d) where
  pub step-sharp : any_sharp n ps ≡ true → ((c : ℕ) → c < n → Short E d (fs c) (ps c)) → Stands n E M (λ c. xs c + d) (λ c. fs c + d) (elapsed n M ps)
  step-sharp e k =
      record { each = λ c h. rw e (lift-one E (M c) (xs c) (fs c) d (ps c) (s.each c h) l (k c h)); both = λ c c' h h'. rw e (lift-two E (M c) (M c') (xs c) (xs c') (fs c) (fs c') d (ps c) (ps c') (s.each c h) (s.each c' h') (s.both c c' h h')) }

  pub step-stay : any_sharp n ps ≡ false → ((c : ℕ) → c < n → Short E d (fs c) (ps c)) → Stands n E M (λ c. xs c + d) (λ c. fs c + d) ps
  step-stay e k =
      record { each = λ c h. stay-one E (M c) (xs c) (fs c) d (ps c) (none-sharp n ps e c h) (s.each c h) l (k c h); both = λ c c' h h'. stay-two (fs c) (fs c') d (ps c) (ps c') (s.both c c' h h') }

  pub step-roll : any_sharp n ps ≡ false → ((c : ℕ) → c < n → Near E d (fs c) (ps c)) → (a : ℕ) → a < n → Hits E d (fs a) (ps a) → Stands n E M (λ c. xs c + d) (λ c. rolled E d (fs c)) (elapsed n M ps)
  step-roll e k a i t =
      let lo : rank_of (ps a) ≤ highest n ps = highest-bounds n ps a i in
      let hi : highest n ps ≤ rank_of (ps a) = highest-least n ps (rank_of (ps a)) (λ c h. no-higher E d (fs c) (fs a) (ps c) (ps a) (k c h) t (s.both c a h i)) in
      let top : highest n ps ≡ rank_of (ps a) = omega arith in
      let u : (c : ℕ) → c < n → Up E (highest n ps) d (fs c) (ps c) = λ c h. up_one E d (fs c) (fs a) (highest n ps) (ps c) (ps a) top (k c h) t (s.both c a h i) (s.both a c i h) in
      record { each = λ c h. rw e (roll-one E (M c) (xs c) (fs c) d (highest n ps) (ps c) (none-sharp n ps e c h) (s.each c h) (u c h) l); both = λ c c' h h'. rw e (roll-two E (fs c) (fs c') d (highest n ps) (ps c) (ps c') (none-sharp n ps e c h) (none-sharp n ps e c' h') (u c h) (u c' h') l (s.both c c' h h')) }
