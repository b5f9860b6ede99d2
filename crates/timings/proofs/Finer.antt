-- The same clocks in finer parts, and back.
use Rattle.std.proofs.Common.{◌≡◌, ℕ, ◌+◌, ◌-◌, ◌*◌, ◌<◌, ◌≤◌, ap, mul-le-mul_left, mul-pos, mul-zero, mul-add, mul_left_comm, arith}
use native.Mathlib.Nat.{mul-lt-mul_of_pos_left, le_of_mul-le-mul_left}
use Rattle.regions.specs.declared.clocks.Clock.{Clock}
use Rattle.regions.specs.declared.clocks.Clock.TheVariants.{Over, Counted}
use Rattle.timings.specs.Standing.{One, Two, Stands}

pub finer-one : (k E M x f : ℕ) (p : Clock) → 0 < k → One E M x f p → One (k * E) M (k * x) (k * f) p
finer-one k E M x f Over l o =
    let a : k * (M * E) < k * x = mul-lt-mul_of_pos_left o l in
    omega (arith, mul_left_comm k M E)
finer-one k E M x f (Counted w r) l o =
    let e : k * x ≡ k * (w * E + f) = ap (λ y. k * y) o.0 in
    let b : k * f < k * E = mul-lt-mul_of_pos_left o.1 l in
    let c : k * x ≤ k * (M * E) = mul-le-mul_left k o.2 in
    let z : 0 < f → 0 < k * f = λ h. mul-pos l h in
    let y : f ≡ 0 → k * f ≡ k * 0 = ap (λ y. k * y) in
    grind (arith, mul_left_comm k M E, mul_left_comm k w E, mul-add k (w * E) f, mul-zero k)

pub scaled : (k f g : ℕ) → 0 < k → (f ≤ g → k * f ≤ k * g) × (k * f ≤ k * g → f ≤ g)
scaled k f g l = (mul-le-mul_left k, λ h. le_of_mul-le-mul_left h l)

pub finer-two : (k f g : ℕ) (p q : Clock) → 0 < k → Two f g p q → Two (k * f) (k * g) p q
finer-two k f g Over Over l t = tt
finer-two k f g Over (Counted v s) l t = tt
finer-two k f g (Counted w r) Over l t = tt
finer-two k f g (Counted w r) (Counted v s) l t =
    let s = scaled k f g l in
    grind arith

pub finer : (k n E : ℕ) (M xs fs : ℕ → ℕ) (ps : ℕ → Clock) → 0 < k → Stands n E M xs fs ps → Stands n (k * E) M (λ c. k * xs c) (λ c. k * fs c) ps
finer k n E M xs fs ps l s =
    record { each = λ c h. finer-one k E (M c) (xs c) (fs c) (ps c) l (s.each c h); both = λ c d h i. finer-two k (fs c) (fs d) (ps c) (ps d) l (s.both c d h i) }

-- and back
abbrev pub part : ℕ → ℕ → Clock → ℕ
part E x Over = 0
part E x (Counted w r) = x - w * E

-- the fraction in finer parts is that many times the fraction
abbrev pub Times : ℕ → ℕ → ℕ → Clock → Type 0
Times k f g Over = Unit {0}
Times k f g (Counted w r) = g ≡ k * f

pub coarser-one : (k E M x g : ℕ) (p : Clock) → 0 < k → One (k * E) M (k * x) g p → One E M x (part E x p) p × Times k (part E x p) g p
coarser-one k E M x g Over l o =
    let a : x ≤ M * E → k * x ≤ k * (M * E) = mul-le-mul_left k in
    (grind (arith, mul_left_comm k M E), tt)
coarser-one k E M x g (Counted w r) l o =
    let f : ℕ = x - w * E in
    let lo : x < w * E → k * x < k * (w * E) = λ h. mul-lt-mul_of_pos_left h l in
    let le : w * E ≤ x = grind (arith, mul_left_comm k w E) in
    let e : x ≡ w * E + f = omega arith in
    let t : k * x ≡ k * (w * E + f) = ap (λ y. k * y) e in
    let u : g ≡ k * f = omega (arith, mul_left_comm k w E, mul-add k (w * E) f) in
    let b : E ≤ f → k * E ≤ k * f = mul-le-mul_left k in
    let c : M * E < x → k * (M * E) < k * x = λ h. mul-lt-mul_of_pos_left h l in
    let z : 0 < f → 0 < k * f = λ h. mul-pos l h in
    let y : f ≡ 0 → k * f ≡ k * 0 = ap (λ y. k * y) in
    (grind (arith, mul_left_comm k M E, mul-zero k), u)

pub coarser-two : (k f g f' g' : ℕ) (p q : Clock) → 0 < k → Times k f f' p → Times k g g' q → Two f' g' p q → Two f g p q
coarser-two k f g f' g' Over Over l a b t = tt
coarser-two k f g f' g' Over (Counted v s) l a b t = tt
coarser-two k f g f' g' (Counted w r) Over l a b t = tt
coarser-two k f g f' g' (Counted w r) (Counted v s) l a b t =
    let s = scaled k f g l in
    grind arith

pub coarser : (k n E : ℕ) (M xs gs : ℕ → ℕ) (ps : ℕ → Clock) → 0 < k → Stands n (k * E) M (λ c. k * xs c) gs ps → Stands n E M xs (λ c. part E (xs c) (ps c)) ps
coarser k n E M xs gs ps l s =
    let one : (c : ℕ) → c < n → One E (M c) (xs c) (part E (xs c) (ps c)) (ps c) × Times k (part E (xs c) (ps c)) (gs c) (ps c) = λ c h. coarser-one k E (M c) (xs c) (gs c) (ps c) l (s.each c h) in
    record { each = λ c h. (one c h).0; both = λ c d h i. coarser-two k (part E (xs c) (ps c)) (part E (xs d) (ps d)) (gs c) (gs d) (ps c) (ps d) l (one c h).1 (one d i).1 (s.both c d h i) }
