-- Closing the gaps looks at the first n clocks alone, and gives no rank past n.
use Rattle.std.proofs.Common.{◌≡◌, ℕ, zero, suc, ◌+◌, ◌<◌, ◌≤◌, cond, ◌||◌, eqb, leb, refl, ap, ◌∙◌, arith}
use Rattle.std.proofs.lemmas.Bool.Decides.{nat_tests}
use Rattle.regions.specs.declared.clocks.Clock.{Clock}
use Rattle.regions.specs.declared.clocks.Clock.TheVariants.{Over, Counted}
use Rattle.regions.specs.Regions.{rank_of, renamed, used, closed, tidy}

used-same : (n : ℕ) (f g : ℕ → Clock) → ((c : ℕ) → c < n → f c ≡ g c) → (k : ℕ) → used n f k ≡ used n g k
unfolding used
used-same zero f g h k = refl
used-same (suc n) f g h k =
    let a : f n ≡ g n = h n (omega arith) in
    let b : used n f k ≡ used n g k = used-same n f g (λ c i. h c (omega arith)) k in
    ap (λ p. eqb (rank_of p) k || used n f k) a ∙ ap (λ u. eqb (rank_of (g n)) k || u) b

pub closed_same : (n : ℕ) (f g : ℕ → Clock) → ((c : ℕ) → c < n → f c ≡ g c) → (r : ℕ) → closed n f r ≡ closed n g r
unfolding closed
closed_same n f g h zero = refl
closed_same n f g h (suc r) =
    ap (λ x. x + cond (used n f (suc r)) 1 0) (closed_same n f g h r)
    ∙ ap (λ u. closed n g r + cond u 1 0) (used-same n f g h (suc r))

pub renamed-same : (φ ψ : ℕ → ℕ) → ((k : ℕ) → φ k ≡ ψ k) → (p : Clock) → renamed φ p ≡ renamed ψ p
renamed-same φ ψ h Over = refl
renamed-same φ ψ h (Counted w r) = ap (λ k. Counted w k) (h r)

pub tidy-same : (n : ℕ) (f g : ℕ → Clock) → ((c : ℕ) → c < n → f c ≡ g c) → (c : ℕ) → c < n → tidy n f c ≡ tidy n g c
tidy-same n f g h c i =
    ap (renamed (closed n f)) (h c i) ∙ renamed-same (closed n f) (closed n g) (closed_same n f g h) (g c)

-- no more ranks are in use than there are clocks
grows : (n : ℕ) (ps : ℕ → Clock) (r : ℕ) → closed (suc n) ps r ≤ closed n ps r + cond (leb (rank_of (ps n)) r) 1 0
unfolding closed used
grows n ps zero = omega arith
grows n ps (suc r) =
    let ih : closed (suc n) ps r ≤ closed n ps r + cond (leb (rank_of (ps n)) r) 1 0 = grows n ps r in
    grind (arith, nat_tests)

none-closed : (ps : ℕ → Clock) (r : ℕ) → closed 0 ps r ≡ 0
unfolding closed used
none-closed ps zero = refl
none-closed ps (suc r) = ap (λ k. k + 0) (none-closed ps r)

pub closed-le : (n : ℕ) (ps : ℕ → Clock) (r : ℕ) → closed n ps r ≤ n
closed-le zero ps r = omega (arith, none-closed ps r)
closed-le (suc n) ps r =
    let g : closed (suc n) ps r ≤ closed n ps r + cond (leb (rank_of (ps n)) r) 1 0 = grows n ps r in
    let h : closed n ps r ≤ n = closed-le n ps r in
    grind (arith, nat_tests)

pub closed-zero : (n : ℕ) (ps : ℕ → Clock) → closed n ps 0 ≡ 0
unfolding closed
closed-zero n ps = refl
