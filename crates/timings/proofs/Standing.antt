-- Clocks of a place and of a state, one for the other.
use Rattle.std.proofs.Common.{◌≡◌, ℕ, ◌<◌, subst}
use Rattle.regions.specs.declared.clocks.Clock.{Clock}
use Rattle.timings.specs.Standing.{One, Two, Stands}

-- only the first n clocks matter
pub same-clocks : {n E : ℕ} {M xs ys fs : ℕ → ℕ} {ps : ℕ → Clock} → ((c : ℕ) → c < n → xs c ≡ ys c) → Stands n E M xs fs ps → Stands n E M ys fs ps
same-clocks {n} {E} {M} {xs} {ys} {fs} {ps} e s =
    record { each = λ c h. subst (λ z. One E (M c) z (fs c) (ps c)) (e c h) (s.each c h); both = s.both }

pub same_place : {n E : ℕ} {M xs fs : ℕ → ℕ} {ps qs : ℕ → Clock} → ((c : ℕ) → c < n → ps c ≡ qs c) → Stands n E M xs fs ps → Stands n E M xs fs qs
same_place {n} {E} {M} {xs} {fs} {ps} {qs} e s =
    record { each = λ c h. subst (λ q. One E (M c) (xs c) (fs c) q) (e c h) (s.each c h); both = λ c d h i. subst (λ q. Two (fs c) (fs d) q (qs d)) (e c h) (subst (λ q. Two (fs c) (fs d) (ps c) q) (e d i) (s.both c d h i)) }
