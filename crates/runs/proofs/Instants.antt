-- A formula holds throughout a delay if it does at each moment where a clock meets a constant and once in between.
use Rattle.std.proofs.Common.{◌≡◌, ℕ, ◌+◌, ◌-◌, ◌*◌, ◌<◌, ◌≤◌, Bool, true, cond, leb, ◌⊎◌, List, get_or, sym, refl, ap, ◌∙◌, ap₂, inl, inr, mul-le-mul_right, mul-le-mul_left, mul-add, mul_left_comm, arith}
use native.Mathlib.Nat.{mul-lt-mul_of_pos_left}
use Rattle.std.proofs.lemmas.Bool.{cases_order}
use Rattle.std.proofs.lemmas.Bool.Decides.{nat_tests}
use Rattle.judging.specs.declared.sides.Side.{Side}
use Rattle.judging.specs.declared.sides.Side.TheVariants.{Below, Above}
use Rattle.judging.specs.Truth.{compared}
use Rattle.runs.specs.Instants.{sides_at, Depends, Always, Quiet, Soon, Soonest}

-- a finer unit keeps the side
scaled : (n x y : ℕ) → 1 ≤ n → compared (n * x) (n * y) ≡ compared x y
scaled n x y h =
    let b : x < y → n * x < n * y = λ l. mul-lt-mul_of_pos_left l h in
    let a : y < x → n * y < n * x = λ l. mul-lt-mul_of_pos_left l h in
    let e : x ≡ y → n * x ≡ n * y = ap (λ k. n * k) in
    grind (arith, nat_tests)

-- the side to y does not change while y is not met
between : (n e t x y : ℕ) → 0 < e → e < n * t → (y ≤ x) ⊎ (x + t ≤ y) → compared (n * x + e) (n * y) ≡ cond (leb y x) Above Below
between n e t x y p l q =
    let a : y ≤ x → n * y ≤ n * x = mul-le-mul_left n in
    let b : x + t ≤ y → n * (x + t) ≤ n * y = mul-le-mul_left n in
    let s : n * (x + t) ≡ n * x + n * t = mul-add n x t in
    grind (arith, nat_tests)

remains : (n t d : ℕ) → t ≤ d → n * d ≡ n * t + n * (d - t)
remains n t d h = ap (λ k. n * k) (omega arith) ∙ mul-add n t (d - t)

module _ (M : ℕ → ℕ) (inv : (ℕ → ℕ → Side) → Bool) (dep : Depends M inv) (D : ℕ) (x : ℕ → ℕ) where
  -- n * t finer parts are t parts
  whole : (n t e : ℕ) → 1 ≤ n → e ≡ n * t → inv (sides_at (n * D) (λ c. n * x c + e)) ≡ inv (sides_at D (λ c. x c + t))
  whole n t e h z = dep _ _ (λ c j _ _. ap₂ compared (omega (arith, mul-add n (x c) t)) (mul_left_comm j n D) ∙ scaled n (x c + t) (j * D) h)

  -- a moment, counted from t parts on
  past : (n t e f : ℕ) → f ≡ n * t + e → inv (sides_at (n * D) (λ c. n * x c + f)) ≡ inv (sides_at (n * D) (λ c. n * (x c + t) + e))
  past n t e f z = dep _ _ (λ c j _ _. ap (λ y. compared y (j * (n * D))) (omega (arith, mul-add n (x c) t)))

  -- a moment before t parts, where no clock meets a constant
  until : (n t e : ℕ) → 1 ≤ t → Quiet M D x t → 0 < e → e < n * t → inv (sides_at (n * D) (λ c. n * x c + e)) ≡ inv (sides_at (2 * D) (λ c. 2 * x c + 1))
  until n t e h q p l = dep _ _ same
    where
      same : (c j : ℕ) → c < 4 → j ≤ M c → compared (n * x c + e) (j * (n * D)) ≡ compared (2 * x c + 1) (j * (2 * D))
      same c j u v =
          let a = between n e t (x c) (j * D) p l (q c j u v) in
          let b = between 2 1 t (x c) (j * D) (omega arith) (omega arith) (q c j u v) in
          rw (mul_left_comm j n D, mul_left_comm j 2 D) (a ∙ sym b)

  pub nothing : Always inv D x 0
  nothing n e h p l = absurd (omega arith)

  pub last : (d : ℕ) → 1 ≤ d → Quiet M D x (d + 1) → inv (sides_at (2 * D) (λ c. 2 * x c + 1)) ≡ true → Always inv D x d
  last d h q i n e g p l = until n (d + 1) e (omega arith) q p (omega (arith, mul-add n d 1)) ∙ i

  pub step : (t d : ℕ) → 1 ≤ t → t ≤ d → Quiet M D x t → inv (sides_at (2 * D) (λ c. 2 * x c + 1)) ≡ true → inv (sides_at D (λ c. x c + t)) ≡ true → Always inv D (λ c. x c + t) (d - t) → Always inv D x d
  step t d h k q i m a n e g p l = go (cases_order e (n * t))
    where
      go : (e ≡ n * t) ⊎ ((e < n * t) ⊎ (n * t < e)) → inv (sides_at (n * D) (λ c. n * x c + e)) ≡ true
      go (inl z) = whole n t e g z ∙ m
      go (inr (inl z)) = until n t e h q p z ∙ i
      go (inr (inr z)) = past n t (e - n * t) e (omega arith) ∙ a n (e - n * t) g (omega arith) (omega (arith, remains n t d k))

  pub half : (d : ℕ) → 1 ≤ d → Always inv D x d → inv (sides_at (2 * D) (λ c. 2 * x c + 1)) ≡ true
  half d h a = a 2 1 (omega arith) (omega arith) (omega arith)

  pub step-at : (t d : ℕ) → 1 ≤ t → t ≤ d → Always inv D x d → inv (sides_at D (λ c. x c + t)) ≡ true
  step-at t d h k a = sym (whole 1 t t (omega arith) (omega arith)) ∙ a 1 t (omega arith) h (omega arith)

  pub step-rest : (t d : ℕ) → t ≤ d → Always inv D x d → Always inv D (λ c. x c + t) (d - t)
  step-rest t d k a n e g p l =
      sym (past n t e (n * t + e) refl) ∙ a n (n * t + e) g (omega arith) (omega (arith, remains n t d k))

-- no clock meets a constant before its next whole number
one-quiet : (M D x t j : ℕ) → Soon x D M t → j ≤ M → (j * D ≤ x) ⊎ (x + t ≤ j * D)
one-quiet M D x t j s v =
    let a : s.passed * D ≤ x = s.low in
    let b : s.passed < M → x + t ≤ (s.passed + 1) * D = s.high in
    let low : j ≤ s.passed → j * D ≤ s.passed * D = mul-le-mul_right D in
    let high : s.passed < j → (s.passed + 1) * D ≤ j * D = λ l. mul-le-mul_right D (omega arith) in
    grind arith

pub quiet-from : (D : ℕ) (xs ms : List ℕ) (t u : ℕ) → u ≤ t → Soonest D xs ms t → Quiet (λ c. get_or ms c 0) D (λ c. get_or xs c 0) u
quiet-from D xs ms t u l s c j h v = less (at c h v)
  where
    less : (j * D ≤ get_or xs c 0) ⊎ (get_or xs c 0 + t ≤ j * D) → (j * D ≤ get_or xs c 0) ⊎ (get_or xs c 0 + u ≤ j * D)
    less (inl a) = inl a
    less (inr a) = inr (omega arith)

    at : (k : ℕ) → k < 4 → j ≤ get_or ms k 0 → (j * D ≤ get_or xs k 0) ⊎ (get_or xs k 0 + t ≤ j * D)
    at ℕ.zero z w = one-quiet (get_or ms 0 0) D (get_or xs 0 0) t j s.each.0 w
    at (ℕ.suc ℕ.zero) z w = one-quiet (get_or ms 1 0) D (get_or xs 1 0) t j s.each.1 w
    at (ℕ.suc (ℕ.suc ℕ.zero)) z w = one-quiet (get_or ms 2 0) D (get_or xs 2 0) t j s.each.2 w
    at (ℕ.suc (ℕ.suc (ℕ.suc ℕ.zero))) z w = one-quiet (get_or ms 3 0) D (get_or xs 3 0) t j s.each.3 w
    at (ℕ.suc (ℕ.suc (ℕ.suc (ℕ.suc k)))) z w = absurd (omega arith)
