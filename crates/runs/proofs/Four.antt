-- Four clocks as a list and as a function, and the next whole number of one.
use Rattle.std.proofs.Common.{◌≡◌, ℕ, ◌+◌, ◌-◌, ◌*◌, ◌/◌, ◌%◌, ◌<◌, ◌≤◌, Bool, get_or, sym, refl, ap, ◌∙◌, subst, ⊎_elim, min, mod-lt, mul_comm, add-mul, arith}
use Rattle.std.proofs.Math.Nat.{min-le_left, min-le_right, eq-or-lt_of_le}
use native.Mathlib.Nat.{div-add-mod}
use Rattle.judging.specs.declared.sides.Side.{Side}
use Rattle.judging.specs.Truth.{compared}
use Rattle.runs.specs.Runs.{four_of}
use Rattle.runs.specs.Instants.{sides_at, Depends, Always, Soon, Every4}

pub at-four : (f : ℕ → ℕ) (c : ℕ) → c < 4 → get_or (four_of f) c 0 ≡ f c
at-four f ℕ.zero h = refl
at-four f (ℕ.suc ℕ.zero) h = refl
at-four f (ℕ.suc (ℕ.suc ℕ.zero)) h = refl
at-four f (ℕ.suc (ℕ.suc (ℕ.suc ℕ.zero))) h = refl
at-four f (ℕ.suc (ℕ.suc (ℕ.suc (ℕ.suc c)))) h = absurd (omega arith)

module _ (M : ℕ → ℕ) (inv : (ℕ → ℕ → Side) → Bool) (dep : Depends M inv) where
  pub four-sides : (D : ℕ) (f : ℕ → ℕ) → inv (sides_at D (λ c. get_or (four_of f) c 0)) ≡ inv (sides_at D f)
  four-sides D f = dep _ _ (λ c j h _. ap (λ x. compared x (j * D)) (at-four f c h))

  pub to-four : (D d : ℕ) (f : ℕ → ℕ) → Always inv D f d → Always inv D (λ c. get_or (four_of f) c 0) d
  to-four D d f a n e g p l = dep _ _ (λ c j h _. ap (λ x. compared (n * x + e) (j * (n * D))) (at-four f c h)) ∙ a n e g p l

  pub from-four : (D d : ℕ) (f : ℕ → ℕ) → Always inv D (λ c. get_or (four_of f) c 0) d → Always inv D f d
  from-four D d f a n e g p l = dep _ _ (λ c j h _. ap (λ x. compared (n * x + e) (j * (n * D))) (sym (at-four f c h))) ∙ a n e g p l

-- the parts to the next whole number
pub to-next : (x D : ℕ) → 1 ≤ D → x + (D - x % D) ≡ (x / D + 1) * D
to-next x D h =
    let m : x % D < D = mod-lt x h in
    let e : D * (x / D) + x % D ≡ x = div-add-mod x D in
    let k : D * (x / D) ≡ x / D * D = mul_comm D (x / D) in
    let a : (x / D + 1) * D ≡ x / D * D + 1 * D = add-mul (x / D) 1 D in
    omega arith

-- a shorter wait is as quiet
pub sooner : (x D m t u : ℕ) → u ≤ t → Soon x D m t → Soon x D m u
sooner x D m t u l s = record { passed = s.passed; low = s.low; high = λ h. omega (arith, s.high h) }

-- what holds of each of four clocks holds of any one
pub at4 : (P : ℕ → Type 0) → Every4 P → (c : ℕ) → c < 4 → P c
at4 P e ℕ.zero h = e.0
at4 P e (ℕ.suc ℕ.zero) h = e.1
at4 P e (ℕ.suc (ℕ.suc ℕ.zero)) h = e.2
at4 P e (ℕ.suc (ℕ.suc (ℕ.suc ℕ.zero))) h = e.3
at4 P e (ℕ.suc (ℕ.suc (ℕ.suc (ℕ.suc c)))) h = absurd (omega arith)

-- the least of some numbers, and of one more
pub least-more : (f : ℕ → ℕ) (k t : ℕ) → ((i : ℕ) → i < k → t ≤ f i) → (i : ℕ) → i < k + 1 → min t (f k) ≤ f i
least-more f k t h i l =
    ⊎_elim (λ e. subst (λ j. min t (f k) ≤ f j) (sym e) (min-le_right t (f k)))
    (λ g. let a : min t (f k) ≤ t = min-le_left t (f k) in let b : t ≤ f i = h i g in omega arith)
    (eq-or-lt_of_le (omega arith))
