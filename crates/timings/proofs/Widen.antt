-- One part more in each unit behind the present moment.
use Rattle.std.proofs.Common.{◌≡◌, ℕ, zero, suc, ◌+◌, ◌-◌, ◌*◌, ◌/◌, ◌%◌, ◌<◌, ◌≤◌, true, false, cond, leb, sym, refl, ap, ◌∙◌, ap₂, subst₂, inl, inr, mod-lt, suc-mul, mul_comm, add-mul, zero-mul, mul-suc, arith}
use native.Mathlib.Nat.{zero-div, div-add-mod}
use Rattle.std.proofs.lemmas.Bool.Decides.{nat_tests, leb_tells, eqb_tells}
use Rattle.delays.specs.Pace.{stretched}
use Rattle.regions.specs.declared.clocks.Clock.{Clock}
use Rattle.regions.specs.declared.clocks.Clock.TheVariants.{Over, Counted}
use Rattle.timings.specs.Standing.{One, Two, Stands}
use Rattle.timings.proofs.Small.{under}

-- one part more behind the present moment, which is ρ parts after the unit began
abbrev pub extra : ℕ → ℕ → ℕ → ℕ
extra D ρ f = f + cond (leb D (f + ρ)) 1 0

-- u ↦ v : u = w * D + f and v = w * (D + 1) + f, plus one if D ≤ f + ρ
pub record Widened (D ρ u v : ℕ) : Type 0 where
  pub whole : ℕ
  pub part : ℕ
  pub less : part < D
  pub before : u ≡ whole * D + part
  pub after : v ≡ whole * suc D + extra D ρ part

-- whole part and fraction are unique
pub unique : (D w f v g : ℕ) → w * D + f ≡ v * D + g → f < D → g < D → (w ≡ v) × (f ≡ g)
unique D w f v g e h i =
    let a : w < v → w * D + D ≤ v * D = under D v w in
    let b : v < w → v * D + D ≤ w * D = under D w v in
    let q : w ≡ v → w * D ≡ v * D = ap (λ k. k * D) in
    grind arith

pub widen-one : (D ρ M u v f : ℕ) (p : Clock) → ρ < D → Widened D ρ u v → One D M u f p → One (suc D) M v (extra D ρ f) p
widen-one D ρ M u v f Over l h o =
    let a : h.whole < M → h.whole * D + D ≤ M * D = under D M h.whole in
    let b : M < h.whole → M * suc D + suc D ≤ h.whole * suc D = under (suc D) h.whole M in
    let q : h.whole ≡ M → h.whole * D ≡ M * D = ap (λ k. k * D) in
    let q' : h.whole ≡ M → h.whole * suc D ≡ M * suc D = ap (λ k. k * suc D) in
    grind (arith, nat_tests)
widen-one D ρ M u v f (Counted w r) l h o =
    let e : h.whole * D + h.part ≡ w * D + f = sym h.before ∙ o.0 in
    let i = unique D h.whole h.part w f e h.less o.1 in
    let a : w < M → w * suc D + suc D ≤ M * suc D = under (suc D) M w in
    let b : M < w → M * D + D ≤ w * D = under D w M in
    let q : w ≡ M → w * suc D ≡ M * suc D = ap (λ k. k * suc D) in
    let q₀ : w ≡ M → w * D ≡ M * D = ap (λ k. k * D) in
    let q' : h.whole * suc D ≡ w * suc D = ap (λ k. k * suc D) i.0 in
    grind (arith, nat_tests)

pub widen-two : (D ρ f g : ℕ) (p q : Clock) → Two f g p q → Two (extra D ρ f) (extra D ρ g) p q
widen-two D ρ f g Over Over t = tt
widen-two D ρ f g Over (Counted v s) t = tt
widen-two D ρ f g (Counted w r) Over t = tt
widen-two D ρ f g (Counted w r) (Counted v s) t = grind (arith, nat_tests)

pub widen : (n D ρ : ℕ) (M xs ys fs : ℕ → ℕ) (ps : ℕ → Clock) → ρ < D → ((c : ℕ) → c < n → Widened D ρ (xs c) (ys c)) → Stands n D M xs fs ps → Stands n (suc D) M ys (λ c. extra D ρ (fs c)) ps
widen n D ρ M xs ys fs ps l k s =
    record { each = λ c h. widen-one D ρ (M c) (xs c) (ys c) (fs c) (ps c) l (k c h) (s.each c h); both = λ c d h i. widen-two D ρ (fs c) (fs d) (ps c) (ps d) (s.both c d h i) }

-- ψ(b) = b + b / D, by relation
pub record Psi (D b a : ℕ) : Type 0 where
  pub units : ℕ
  pub rest : ℕ
  pub less : rest < D
  pub was : b ≡ units * D + rest
  pub is : a ≡ b + units

-- seen from b parts ago, what ψ adds to a clock at u is the widening
pub seen : (D b a u v : ℕ) (h : Psi D b a) → Widened D h.rest u v → Psi D (b + u) (a + v)
seen D b a u v h k =
    elim (leb_tells D (k.part + h.rest)) [ inl t ↦ later t.0 t.1 | inr t ↦ same t.0 t.1 ]
  where
    same : leb D (k.part + h.rest) ≡ false → k.part + h.rest < D → Psi D (b + u) (a + v)
    same e l =
        let x : extra D h.rest k.part ≡ k.part = grind (arith, nat_tests) in
        record { units = h.units + k.whole; rest = k.part + h.rest; less = l; was = omega (arith, add-mul h.units k.whole D); is = omega (arith, mul-suc k.whole D) }

    later : leb D (k.part + h.rest) ≡ true → D ≤ k.part + h.rest → Psi D (b + u) (a + v)
    later e l =
        let x : extra D h.rest k.part ≡ suc k.part = grind (arith, nat_tests) in
        record { units = suc (h.units + k.whole); rest = (k.part + h.rest) - D; less = omega arith; was = omega (arith, add-mul h.units k.whole D, suc-mul (h.units + k.whole) D); is = omega (arith, mul-suc k.whole D) }

-- ψ is a function
pub one-psi : (D b a a' : ℕ) → Psi D b a → Psi D b a' → a ≡ a'
one-psi D b a a' h i =
    let u = unique D h.units h.rest i.units i.rest (sym h.was ∙ i.was) h.less i.less in
    omega arith

pub split : (D u : ℕ) → 0 < D → (w : ℕ) × (f : ℕ) × (u ≡ w * D + f) × (f < D)
split D zero l = (0, 0, omega (arith, zero-mul D), l)
split D (suc u) l = go (split D u l)
  where
    go : (w : ℕ) × (f : ℕ) × (u ≡ w * D + f) × (f < D) → (w : ℕ) × (f : ℕ) × (suc u ≡ w * D + f) × (f < D)
    go t =
        elim (eqb_tells (t.1 + 1) D) [ inl e ↦ (suc t.0, 0, omega (arith, suc-mul t.0 D, e.1, t.2), l) | inr e ↦ (t.0, t.1 + 1, omega (arith, t.2), grind arith) ]

pub psi : (D b : ℕ) → 0 < D → Psi D b (stretched D b)
psi D b l =
    let e : D * (b / D) + b % D ≡ b = div-add-mod b D in
    record { units = b / D; rest = b % D; less = mod-lt b l; was = omega (arith, mul_comm D (b / D)); is = refl }

abbrev pub psi-zero : (D : ℕ) → 0 < D → Psi D 0 (stretched D 0)
psi-zero D l =
    record { units = 0; rest = 0; less = l; was = omega (arith, zero-mul D); is = omega (arith, zero-div D) }

-- the other way: what ψ adds is the widening
pub unseen : (D b a u v : ℕ) (h : Psi D b a) → Psi D (b + u) (a + v) → Widened D h.rest u v
unseen D b a u v h i = go (split D u (omega (arith, h.less)))
  where
    go : (w : ℕ) × (f : ℕ) × (u ≡ w * D + f) × (f < D) → Widened D h.rest u v
    go t =
        let v' : ℕ = t.0 * suc D + extra D h.rest t.1 in
        let k : Widened D h.rest u v' = record { whole = t.0; part = t.1; less = t.3; before = t.2; after = refl } in
        let e : a + v ≡ a + v' = one-psi D (b + u) (a + v) (a + v') i (seen D b a u v' h k) in
        let q : v ≡ v' = omega arith in
        record { whole = t.0; part = t.1; less = t.3; before = t.2; after = q }

pub psi-grows : (D b a d a' : ℕ) → Psi D b a → Psi D (b + d) a' → a + d ≤ a'
psi-grows D b a d a' h i =
    let k : i.units < h.units → i.units * D + D ≤ h.units * D = under D h.units i.units in
    let j : i.units < h.units → ⊥ = λ l. omega (arith, k l) in
    omega arith

-- a wait of a unit at most grows by one part at most
pub psi-near : (D b a d a' : ℕ) → d ≤ D → Psi D b a → Psi D (b + d) a' → a' ≤ a + d + 1
psi-near D b a d a' l h i =
    let k : suc h.units < i.units → suc h.units * D + D ≤ i.units * D = under D i.units (suc h.units) in
    let j : suc h.units < i.units → ⊥ = λ m. omega (arith, k m, suc-mul h.units D) in
    omega arith

-- a wait of d, seen from b before now, becomes a wait of d'
pub later-widened : (D b a d a' d' x y : ℕ) (h : Psi D b a) (i : Psi D (b + d) a') → a' ≡ a + d' → Widened D i.rest x y → Widened D h.rest (x + d) (y + d')
later-widened D b a d a' d' x y h i e k =
    let p : Psi D (b + d + x) (a' + y) = seen D (b + d) a' x y i k in
    let q : Psi D (b + (x + d)) (a + (y + d')) = subst₂ (λ m n. Psi D m n) (omega arith) (omega arith) p in
    unseen D b a (x + d) (y + d') h q

-- how a wait within the unit, or just to its end, is widened
pub wait-within : (D ρ ρ' w f d d' x y : ℕ) → Widened D ρ' x y → Widened D ρ (x + d) (y + d') → x ≡ w * D + f → f + d < D → extra D ρ' f + d' ≡ extra D ρ (f + d)
wait-within D ρ ρ' w f d d' x y h k e l =
    let i = unique D h.whole h.part w f (sym h.before ∙ e) h.less (omega arith) in
    let j = unique D k.whole k.part w (f + d) (sym k.before ∙ omega arith) k.less l in
    let a : y ≡ w * suc D + extra D ρ' f = h.after ∙ ap₂ (λ m n. m * suc D + extra D ρ' n) i.0 i.1 in
    let b : y + d' ≡ w * suc D + extra D ρ (f + d) = k.after ∙ ap₂ (λ m n. m * suc D + extra D ρ n) j.0 j.1 in
    omega arith

pub wait-to-end : (D ρ ρ' w f d d' x y : ℕ) → ρ < D → Widened D ρ' x y → Widened D ρ (x + d) (y + d') → x ≡ w * D + f → f < D → f + d ≡ D → extra D ρ' f + d' ≡ suc D
wait-to-end D ρ ρ' w f d d' x y r h k e l m =
    let i = unique D h.whole h.part w f (sym h.before ∙ e) h.less l in
    let j = unique D k.whole k.part (suc w) 0 (sym k.before ∙ omega (arith, suc-mul w D)) k.less (omega arith) in
    let a : y ≡ w * suc D + extra D ρ' f = h.after ∙ ap₂ (λ m n. m * suc D + extra D ρ' n) i.0 i.1 in
    let b : y + d' ≡ suc w * suc D + extra D ρ 0 = k.after ∙ ap₂ (λ m n. m * suc D + extra D ρ n) j.0 j.1 in
    let z : extra D ρ 0 ≡ 0 = grind (arith, nat_tests) in
    omega (arith, suc-mul w (suc D))
