-- Four clocks, as a list and by index.
use Rattle.std.proofs.Common.{◌≡◌, ℕ, zero, suc, ◌<◌, List, [], ◌∷◌, length, sym, refl, arith}
use mathlib.Core.Path.{fun_ext}
use Rattle.regions.specs.declared.clocks.Clock.{Clock}
use Rattle.regions.specs.declared.clocks.Clock.TheVariants.{Over}
use Rattle.regions.specs.Clocks.{at, four_of, Padded}

-- what holds at each of four indices
pub below-four : (P : ℕ → Type 0) → P 0 → P 1 → P 2 → P 3 → (c : ℕ) → c < 4 → P c
below-four P a b c d zero h = a
below-four P a b c d (suc zero) h = b
below-four P a b c d (suc (suc zero)) h = c
below-four P a b c d (suc (suc (suc zero))) h = d
below-four P a b c d (suc (suc (suc (suc k)))) h = absurd (omega arith)

pub same-four : (f g : ℕ → Clock) → ((c : ℕ) → c < 4 → f c ≡ g c) → four_of f ≡ four_of g
same-four f g h =
    let a = h 0 (omega arith) in
    let b = h 1 (omega arith) in
    let c = h 2 (omega arith) in
    let d = h 3 (omega arith) in
    cc

pub four_same : (f g : ℕ → Clock) → f 0 ≡ g 0 → f 1 ≡ g 1 → f 2 ≡ g 2 → f 3 ≡ g 3 → four_of f ≡ four_of g
four_same f g a b c d = cc

-- a list of four is its four clocks
pub four : (p : List Clock) → length p ≡ 4 → p ≡ four_of (at p)
four [] h = absurd (omega arith)
four (a ∷ []) h = absurd (omega arith)
four (a ∷ b ∷ []) h = absurd (omega arith)
four (a ∷ b ∷ c ∷ []) h = absurd (omega arith)
four (a ∷ b ∷ c ∷ d ∷ []) h = refl
four (a ∷ b ∷ c ∷ d ∷ e ∷ p) h = absurd (omega arith)

pub at-four : (f : ℕ → Clock) (c : ℕ) → c < 4 → at (four_of f) c ≡ f c
at-four f = below-four (λ c. at (four_of f) c ≡ f c) refl refl refl refl

-- four clocks, and over past them
pub spread : (f : ℕ → Clock) → Padded 4 f → at (four_of f) ≡ f
spread f p = fun_ext by_index where
  by_index : (c : ℕ) → at (four_of f) c ≡ f c
  by_index zero = refl
  by_index (suc zero) = refl
  by_index (suc (suc zero)) = refl
  by_index (suc (suc (suc zero))) = refl
  by_index (suc (suc (suc (suc c)))) = sym (p (suc (suc (suc (suc c)))) (omega arith))

pub over-at : (f : ℕ → Clock) (c : ℕ) → f c ≡ Over → at (four_of f) c ≡ Over
over-at f zero o = o
over-at f (suc zero) o = o
over-at f (suc (suc zero)) o = o
over-at f (suc (suc (suc zero))) o = o
over-at f (suc (suc (suc (suc c)))) o = refl
