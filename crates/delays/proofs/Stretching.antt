-- Steps widened from the first on, each by what the newer ones add up to, and one turn of the loop.
use Rattle.std.proofs.Common.{◌≡◌, ℕ, ◌+◌, ◌-◌, ◌<◌, ◌≤◌, List, [], ◌∷◌, ◌++◌, map, reverse, length, get_or, take, drop, set, sym, refl, ap, ◌∙◌, mul-le-mul_right, arith}
use mathlib.Core.List.{reverse-cons, reverse-append, map-append}
use native.Mathlib.Nat.{div-zero}
use lib.Ieee.Nearest.{div_mono}
use Rattle.std.proofs.lemmas.List.{drop_all, drop_more, drop-set, get_or-take, take-set, take-take}
use Rattle.kinds.specs.declared.steps.Step.{Step}
use Rattle.kinds.specs.Steps.{delay_of, redelayed, with_delay}
use Rattle.delays.specs.Pace.{stretched, widened, fitting}
use Rattle.delays.specs.Widens.{Widens}

pub stretched-le : (D a b : ℕ) → a ≤ b → stretched D a ≤ stretched D b
stretched-le ℕ.zero a b h = omega (arith, div-zero a, div-zero b)
stretched-le (ℕ.suc D) a b h =
    let some : 0 < ℕ.suc D = omega arith in
    omega (arith, div_mono a (ℕ.suc D) b (ℕ.suc D) some some (mul-le-mul_right (ℕ.suc D) h))

unfoldable pub total : List Step → ℕ
total [] = 0
total (p ∷ ps) = total ps + p.delay

-- the new delay of a step that lasted d parts and ended b parts ago
abbrev pub fresh : ℕ → ℕ → ℕ → ℕ
fresh D b d = fitting (stretched D (b + d) - stretched D b)

unfoldable pub wide : ℕ → List Step → List Step
wide D [] = []
wide D (p ∷ ps) = with_delay p (fresh D (total ps) p.delay) ∷ wide D ps

-- the delays, the newest first
abbrev back : List Step → List ℕ
back ps = reverse (map delay_of ps)

-- how long ago the last of some delays began, the newest first; the newest ended b parts ago
unfoldable began : ℕ → List ℕ → ℕ
began b [] = b
began b (d ∷ ds) = began (b + d) ds

began-push : (b d : ℕ) (ds : List ℕ) → began b (ds ++ d ∷ []) ≡ began b ds + d
unfolding began
began-push b d [] = refl
began-push b d (e ∷ ds) = began-push (b + e) d ds

widened-push : (D b d : ℕ) (ds : List ℕ) → widened D b (ds ++ d ∷ []) ≡ widened D b ds ++ (stretched D (began b ds + d) - stretched D (began b ds)) ∷ []
unfolding began widened
widened-push D b d [] = refl
widened-push D b d (e ∷ ds) = ap (λ xs. (stretched D (b + e) - stretched D b) ∷ xs) (widened-push D (b + e) d ds)

back_more : (p : Step) (ps : List Step) → back (p ∷ ps) ≡ back ps ++ p.delay ∷ []
back_more p ps = reverse-cons p.delay (map delay_of ps)

began-total : (ps : List Step) → began 0 (back ps) ≡ total ps
unfolding began total
began-total [] = refl
began-total (p ∷ ps) = ap (began 0) (back_more p ps) ∙ began-push 0 p.delay (back ps) ∙ ap (λ b. b + p.delay) (began-total ps)

-- the new delays, of the first step first
abbrev fronts : ℕ → List Step → List ℕ
fronts D ps = reverse (map fitting (widened D 0 (back ps)))

fronts-more : (D : ℕ) (p : Step) (ps : List Step) → fronts D (p ∷ ps) ≡ fresh D (total ps) p.delay ∷ fronts D ps
fronts-more D p ps =
    rw (back_more p ps, widened-push D 0 p.delay (back ps), began-total ps, map-append, reverse-append)

pub wide_is : (D : ℕ) (ps : List Step) → wide D ps ≡ redelayed ps (fronts D ps)
unfolding wide redelayed
wide_is D [] = refl
wide_is D (p ∷ ps) = rw (fronts-more D p ps, wide_is D ps)

-- with no step left to widen behind the last
pub total-end : (n : ℕ) (ps : List Step) → length ps ≤ n → 0 ≡ total (drop n ps)
unfolding total
total-end n ps h = rw (drop_all n ps h)

pub wide-end : (D n : ℕ) (ps : List Step) → length ps ≤ n → drop n ps ≡ wide D (drop n ps)
unfolding wide
wide-end D n ps h = rw (drop_all n ps h)

-- one turn at step i, just before j, where qs are the steps now and ps those on entry
module _ (i j : ℕ) (qs ps : List Step) (d : Step) (next : i + 1 ≡ j) (less : i < length ps) (same : take j qs ≡ take j ps) where
  there : get_or qs i d ≡ get_or ps i d
  there =
      let l : i < j = omega arith in
      sym (get_or-take j qs i d l) ∙ ap (λ xs. get_or xs i d) same ∙ get_or-take j ps i d l

  from_is : drop i ps ≡ get_or qs i d ∷ drop j ps
  from_is = rw (there, ← next) (drop_more ps i d less)

  pub total-turn : (b : ℕ) → b ≡ total (drop j ps) → b + (get_or qs i d).delay ≡ total (drop i ps)
  unfolding total
  total-turn b e = rw (from_is, e)

  pub front-turn : (p : Step) → take i (set qs i p) ≡ take i ps
  front-turn p =
      let l : i ≤ j = omega arith in
      take-set qs i p ∙ sym (take-take i j qs l) ∙ ap (take i) same ∙ take-take i j ps l

  pub wide-turn : (D b r : ℕ) → i < length qs → b ≡ total (drop j ps) → r ≡ fresh D b (get_or qs i d).delay → drop j qs ≡ wide D (drop j ps) → drop i (set qs i (with_delay (get_or qs i d) r)) ≡ wide D (drop i ps)
  unfolding wide
  wide-turn D b r l e is w = rw (drop-set qs i (with_delay (get_or qs i d) r) l, from_is, next, w, is, e)

-- down to the first step all are as widened
pub widens : (D i : ℕ) (qs ps : List Step) → length ps ≤ 65535 → i ≤ 0 → drop i qs ≡ wide D (drop i ps) → Widens ps D qs
widens D ℕ.zero qs ps few low w = record { short = λ h. w ∙ wide_is D ps; long = λ h. absurd (omega arith) }
widens D (ℕ.suc i) qs ps few low w = absurd (omega arith)
