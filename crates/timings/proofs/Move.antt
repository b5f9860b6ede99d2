-- Clocks set to 0, and ranks renamed.
use Rattle.std.proofs.Common.{◌≡◌, ℕ, ◌<◌, Bool, true, false, cond, zero-mul, arith}
use Rattle.regions.specs.declared.clocks.Clock.{Clock}
use Rattle.regions.specs.declared.clocks.Clock.TheVariants.{Over, Counted}
use Rattle.regions.specs.Regions.{rank_of, renamed}
use Rattle.timings.specs.Standing.{One, Two, Stands}

abbrev pub reset-one : (E M x f : ℕ) (b : Bool) (p : Clock) → 0 < E → One E M x f p → One E M (cond b 0 x) (cond b 0 f) (cond b (Counted 0 0) p)
reset-one E M x f true p l o = grind (arith, zero-mul E)
reset-one E M x f false p l o = o

pub reset-two : (E M N x y f g : ℕ) (b d : Bool) (p q : Clock) → One E M x f p → One E N y g q → Two f g p q → Two (cond b 0 f) (cond d 0 g) (cond b (Counted 0 0) p) (cond d (Counted 0 0) q)
reset-two E M N x y f g true true p q o o' t = omega arith
reset-two E M N x y f g true false p Over o o' t = tt
reset-two E M N x y f g true false p (Counted v s) o o' t = grind arith
reset-two E M N x y f g false true Over q o o' t = tt
reset-two E M N x y f g false true (Counted w r) q o o' t = grind arith
reset-two E M N x y f g false false p q o o' t = t

pub reset : (n E : ℕ) (M xs fs : ℕ → ℕ) (ps : ℕ → Clock) (rs : ℕ → Bool) → 0 < E → Stands n E M xs fs ps → Stands n E M (λ c. cond (rs c) 0 (xs c)) (λ c. cond (rs c) 0 (fs c)) (λ c. cond (rs c) (Counted 0 0) (ps c))
reset n E M xs fs ps rs l s =
    record { each = λ c h. reset-one E (M c) (xs c) (fs c) (rs c) (ps c) l (s.each c h); both = λ c d h i. reset-two E (M c) (M d) (xs c) (xs d) (fs c) (fs d) (rs c) (rs d) (ps c) (ps d) (s.each c h) (s.each d i) (s.both c d h i) }

abbrev pub Zero : (ℕ → ℕ) → Clock → Type 0
Zero φ Over = Unit {0}
Zero φ (Counted w r) = (r ≡ 0 → φ r ≡ 0) × (φ r ≡ 0 → r ≡ 0)

-- φ keeps the order of the ranks in use
pub record Keeps (n : ℕ) (φ : ℕ → ℕ) (ps : ℕ → Clock) : Type 0 where
  pub zeros : (c : ℕ) → c < n → Zero φ (ps c)
  pub orders : (c d : ℕ) → c < n → d < n → Two (rank_of (ps c)) (rank_of (ps d)) (renamed φ (ps c)) (renamed φ (ps d))

pub renamed-one : (E M x f : ℕ) (φ : ℕ → ℕ) (p : Clock) → Zero φ p → One E M x f p → One E M x f (renamed φ p)
renamed-one E M x f φ Over z o = o
renamed-one E M x f φ (Counted w r) z o = grind arith

pub renamed-two : (f g : ℕ) (φ : ℕ → ℕ) (p q : Clock) → Two (rank_of p) (rank_of q) (renamed φ p) (renamed φ q) → Two f g p q → Two f g (renamed φ p) (renamed φ q)
renamed-two f g φ Over Over z t = tt
renamed-two f g φ Over (Counted v s) z t = tt
renamed-two f g φ (Counted w r) Over z t = tt
renamed-two f g φ (Counted w r) (Counted v s) z t = grind arith

pub renumbered : (n E : ℕ) (M xs fs : ℕ → ℕ) (ps : ℕ → Clock) (φ : ℕ → ℕ) → Keeps n φ ps → Stands n E M xs fs ps → Stands n E M xs fs (λ c. renamed φ (ps c))
renumbered n E M xs fs ps φ k s =
    record { each = λ c h. renamed-one E (M c) (xs c) (fs c) φ (ps c) (k.zeros c h) (s.each c h); both = λ c d h i. renamed-two (fs c) (fs d) φ (ps c) (ps d) (k.orders c d h i) (s.both c d h i) }
