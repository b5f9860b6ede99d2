-- Clocks that can occur stay such clocks, and nothing is trimmed from them.
use Rattle.std.proofs.Common.{◌≡◌, ℕ, suc, ◌<◌, ◌≤◌, min, Bool, true, false, cond, eqb, ltb, List, sym, refl, ap, ◌∙◌, subst, arith}
use Rattle.std.proofs.lemmas.Bool.Decides.{nat_tests}
use Rattle.regions.specs.declared.clocks.Clock.{Clock}
use Rattle.regions.specs.declared.clocks.Clock.TheVariants.{Over, Counted}
use Rattle.regions.specs.Regions.{sharp, any_sharp, highest, lift, roll, elapsed, renamed, closed, tidy, after}
use Rattle.regions.specs.Clocks.{at, four_of, limit, trimmed, trim_all, capped, hit, restarted, Sound, Sounds}
use Rattle.regions.proofs.Closing.{closed-le, closed-zero, tidy-same}
use Rattle.regions.proofs.Fours.{below-four, four_same, same-four}
use Rattle.regions.proofs.Waiting.{after-at, none}

-- within the ceiling
abbrev Near : ℕ → Clock → Type 0
Near M Over = Unit {0}
Near M (Counted w r) = (w ≤ M) × (w ≡ M → r ≡ 0)

near-cond : (M : ℕ) (b : Bool) (p q : Clock) → (b ≡ true → Near M p) → (b ≡ false → Near M q) → Near M (cond b p q)
near-cond M true p q h k = h refl
near-cond M false p q h k = k refl

near-trimmed : (M : ℕ) (p : Clock) → Near M (trimmed M p)
near-trimmed M Over = tt
near-trimmed M (Counted w r) =
    near-cond M (ltb w M) (Counted w (min r 15)) (cond (eqb w M) (cond (eqb r 0) (Counted w 0) Over) Over)
    (λ e. let l : w < M = grind (arith, nat_tests) in (omega arith, λ q. omega arith))
    (λ _. near-cond M (eqb w M) (cond (eqb r 0) (Counted w 0) Over) Over
    (λ e. near-cond M (eqb r 0) (Counted w 0) Over (λ _. let l : w ≡ M = grind (arith, nat_tests) in (omega arith, λ q. refl)) (λ _. tt))
    (λ _. tt))

near-lift : (M : ℕ) (p : Clock) → Near M p → Near M (lift M p)
near-lift M Over h = tt
near-lift M (Counted w r) h =
    let a : w ≤ M = h.0 in
    let b : w ≡ M → r ≡ 0 = h.1 in
    near-cond M (eqb r 0) (cond (eqb w M) Over (Counted w 1)) (Counted w (suc r))
    (λ _. near-cond M (eqb w M) Over (Counted w 1) (λ _. tt) (λ e. (a, λ q. grind (arith, nat_tests))))
    (λ e. (a, λ q. grind (arith, nat_tests)))

near-roll : (M t : ℕ) (p : Clock) → sharp p ≡ false → Near M p → Near M (roll t p)
near-roll M t Over s h = tt
near-roll M t (Counted w r) s h =
    let a : w ≤ M = h.0 in
    let b : w ≡ M → r ≡ 0 = h.1 in
    let l : w < M = grind (arith, nat_tests) in
    near-cond M (eqb r t) (Counted (suc w) 0) (Counted w r)
    (λ e. (omega arith, λ q. refl))
    (λ e. (a, b))

sound-renamed : (M : ℕ) (φ : ℕ → ℕ) → φ 0 ≡ 0 → ((r : ℕ) → φ r ≤ 4) → (p : Clock) → Near M p → Sound M (renamed φ p)
sound-renamed M φ z l Over h = tt
sound-renamed M φ z l (Counted w r) h = (h.0, λ q. ap φ (h.1 q) ∙ z, l r)

trimmed-sound : (M : ℕ) (p : Clock) → Sound M p → trimmed M p ≡ p
trimmed-sound M Over h = refl
trimmed-sound M (Counted w r) h =
    let a : w ≤ M = h.0 in
    let b : w ≡ M → r ≡ 0 = h.1 in
    let c : r ≤ 4 = h.2 in
    let m : min r 15 ≡ r = omega arith in
    grind (arith, nat_tests)

pub exact : (ps : List Clock) (ms : List ℕ) (r : List Clock) → r ≡ four_of (after 4 (limit ms) (trim_all ms ps)) → Sounds ms ps → r ≡ four_of (after 4 (limit ms) (at ps))
exact ps ms r e s =
    let q : four_of (trim_all ms ps) ≡ four_of (at ps) =
    four_same (trim_all ms ps) (at ps) (trimmed-sound (limit ms 0) (at ps 0) s.0) (trimmed-sound (limit ms 1) (at ps 1) s.1) (trimmed-sound (limit ms 2) (at ps 2) s.2) (trimmed-sound (limit ms 3) (at ps 3) s.3) in
    e ∙ sym (after-at (trim_all ms ps) (limit ms)) ∙ ap (λ x. four_of (after 4 (limit ms) (at x))) q ∙ after-at (at ps) (limit ms)

near-elapsed : (q : ℕ → Clock) (M : ℕ → ℕ) (c : ℕ) → Near (M c) (q c) → (any_sharp 4 q ≡ false → sharp (q c) ≡ false) → Near (M c) (elapsed 4 M q c)
near-elapsed q M c h s =
    near-cond (M c) (any_sharp 4 q) (lift (M c) (q c)) (roll (highest 4 q) (q c))
    (λ _. near-lift (M c) (q c) h) (λ e. near-roll (M c) (highest 4 q) (q c) (s e) h)

pub keeps : (ps : List Clock) (ms : List ℕ) (r : List Clock) → r ≡ four_of (after 4 (limit ms) (trim_all ms ps)) → Sounds ms r
unfolding any_sharp
keeps ps ms r e =
    let q : ℕ → Clock = trim_all ms ps in
    let n : any_sharp 4 q ≡ false → (sharp (q 0) ≡ false) × (sharp (q 1) ≡ false) × (sharp (q 2) ≡ false) × (sharp (q 3) ≡ false) = none (sharp (q 0)) (sharp (q 1)) (sharp (q 2)) (sharp (q 3)) in
    let f : ℕ → ℕ = closed 4 (elapsed 4 (limit ms) q) in
    let o : (c : ℕ) → (any_sharp 4 q ≡ false → sharp (q c) ≡ false) → Sound (limit ms c) (after 4 (limit ms) q c) =
    λ c s. sound-renamed (limit ms c) f (closed-zero 4 (elapsed 4 (limit ms) q)) (closed-le 4 (elapsed 4 (limit ms) q)) (elapsed 4 (limit ms) q c) (near-elapsed q (limit ms) c (near-trimmed (limit ms c) (at ps c)) s) in
    subst (λ x. Sounds ms x) (sym e) (o 0 (λ h. (n h).0), o 1 (λ h. (n h).1), o 2 (λ h. (n h).2), o 3 (λ h. (n h).3))

near-sound : (M : ℕ) (p : Clock) → Sound M p → Near M p
near-sound M Over h = tt
near-sound M (Counted w r) h = (h.0, h.1)

near-restarted : (M : ℕ) (b : Bool) (p : Clock) → Near M p → Near M (restarted b p)
near-restarted M true p h = (omega arith, λ q. refl)
near-restarted M false p h = h

capped-sound : (M : ℕ) (b : Bool) (p : Clock) → Sound M p → capped (restarted b p) ≡ restarted b p
capped-sound M true p h = refl
capped-sound M false Over h = refl
capped-sound M false (Counted w r) h =
    let l : r ≤ 4 = h.2 in
    ap (λ k. Counted w k) (omega arith)

pub restarts : (ps : List Clock) (bs : List Bool) (r : List Clock) → r ≡ four_of (tidy 4 (λ c. capped (restarted (hit bs c) (at ps c)))) → (ms : List ℕ) → Sounds ms ps → r ≡ four_of (tidy 4 (λ c. restarted (hit bs c) (at ps c)))
restarts ps bs r e ms s =
    let f : ℕ → Clock = λ c. capped (restarted (hit bs c) (at ps c)) in
    let g : ℕ → Clock = λ c. restarted (hit bs c) (at ps c) in
    e
    ∙ same-four (tidy 4 f) (tidy 4 g)
    (tidy-same 4 f g
    (below-four (λ c. f c ≡ g c)
    (capped-sound (limit ms 0) (hit bs 0) (at ps 0) s.0) (capped-sound (limit ms 1) (hit bs 1) (at ps 1) s.1) (capped-sound (limit ms 2) (hit bs 2) (at ps 2) s.2) (capped-sound (limit ms 3) (hit bs 3) (at ps 3) s.3)))

pub restarts-keep : (ps : List Clock) (bs : List Bool) (r : List Clock) → r ≡ four_of (tidy 4 (λ c. capped (restarted (hit bs c) (at ps c)))) → (ms : List ℕ) → Sounds ms ps → Sounds ms r
restarts-keep ps bs r e ms s =
    let g : ℕ → Clock = λ c. restarted (hit bs c) (at ps c) in
    let o : (c : ℕ) → Sound (limit ms c) (at ps c) → Sound (limit ms c) (tidy 4 g c) =
    λ c h. sound-renamed (limit ms c) (closed 4 g) (closed-zero 4 g) (closed-le 4 g) (g c) (near-restarted (limit ms c) (hit bs c) (at ps c) (near-sound (limit ms c) (at ps c) h)) in
    subst (λ x. Sounds ms x) (sym (restarts ps bs r e ms s)) (o 0 s.0, o 1 s.1, o 2 s.2, o 3 s.3)
