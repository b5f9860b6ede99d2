-- A clock that stands as over at the end changes nothing for the others.
use Rattle.std.proofs.Common.{◌≡◌, ℕ, zero, suc, ◌+◌, ◌-◌, ◌<◌, ◌≤◌, max, Bool, true, false, cond, ◌||◌, List, length, sym, refl, ap, ◌∙◌, subst, arith}
use mathlib.Core.Path.{fun_ext}
use Rattle.std.proofs.lemmas.Bool.Decides.{nat_tests}
use Rattle.regions.specs.declared.clocks.Clock.{Clock}
use Rattle.regions.specs.declared.clocks.Clock.TheVariants.{Over}
use Rattle.regions.specs.Regions.{rank_of, sharp, any_sharp, highest, lift, roll, elapsed, renamed, used, closed, tidy, after}
use Rattle.regions.specs.Clocks.{at, four_of, limit, trimmed, trim_all, capped, hit, restarted, Padded}
use Rattle.std.proofs.lemmas.List.{get_or_past}
use Rattle.regions.proofs.Closing.{closed_same, renamed-same}
use Rattle.regions.proofs.Fours.{over-at, spread}

module _ (n : ℕ) (f : ℕ → Clock) (o : f n ≡ Over) where
  used-less : (k : ℕ) → 0 < k → used (suc n) f k ≡ used n f k
  unfolding used
  used-less k h =
      let z : rank_of (f n) ≡ 0 = ap rank_of o in
      grind (arith, nat_tests)

  pub closed-less : (r : ℕ) → closed (suc n) f r ≡ closed n f r
  unfolding closed
  closed-less zero = refl
  closed-less (suc r) =
      ap (λ x. x + cond (used (suc n) f (suc r)) 1 0) (closed-less r)
      ∙ ap (λ u. closed n f r + cond u 1 0) (used-less (suc r) (omega arith))

  pub sharp-less : any_sharp (suc n) f ≡ any_sharp n f
  unfolding any_sharp
  sharp-less = ap (λ p. sharp p || any_sharp n f) o

  highest-less : highest (suc n) f ≡ highest n f
  unfolding highest
  highest-less = ap (λ p. max (rank_of p) (highest n f)) o ∙ omega arith

module _ (n : ℕ) (f : ℕ → Clock) (o : f n ≡ Over) where
  elapsed-less : (M : ℕ → ℕ) (c : ℕ) → elapsed (suc n) M f c ≡ elapsed n M f c
  elapsed-less M c =
      ap (λ b. cond b (lift (M c) (f c)) (roll (highest (suc n) f) (f c))) (sharp-less n f o)
      ∙ ap (λ t. cond (any_sharp n f) (lift (M c) (f c)) (roll t (f c))) (highest-less n f o)

  elapsed-over : (M : ℕ → ℕ) → elapsed n M f n ≡ Over
  elapsed-over M = ap (λ p. cond (any_sharp n f) (lift (M n) p) (roll (highest n f) p)) o ∙ same (any_sharp n f) where
    same : (b : Bool) → cond b Over Over ≡ Over
    same true = refl
    same false = refl

  after_less : (M : ℕ → ℕ) (c : ℕ) → after (suc n) M f c ≡ after n M f c
  after_less M c =
      ap (renamed (closed (suc n) (elapsed (suc n) M f))) (elapsed-less M c)
      ∙ renamed-same (closed (suc n) (elapsed (suc n) M f)) (closed (suc n) (elapsed n M f)) (closed_same (suc n) (elapsed (suc n) M f) (elapsed n M f) (λ k _. elapsed-less M k)) (elapsed n M f c)
      ∙ renamed-same (closed (suc n) (elapsed n M f)) (closed n (elapsed n M f)) (closed-less n (elapsed n M f) (elapsed-over M)) (elapsed n M f c)

-- what one clock more that is over does not change is the same of four clocks as of n, where the last are over
pub to-four : {A : Type 0} (g : ℕ → A) (f : ℕ → Clock) → ((k : ℕ) → f k ≡ Over → g (suc k) ≡ g k) → (n : ℕ) → n ≤ 4 → Padded n f → g 4 ≡ g n
to-four g f same n h p = steps (4 - n) n (omega arith) p
  where
    steps : (d k : ℕ) → d + k ≡ 4 → Padded k f → g 4 ≡ g k
    steps zero k e p = let q : 4 ≡ k = omega arith in ap g q
    steps (suc d) k e p = steps d (suc k) (omega arith) (λ c i. p c (omega arith)) ∙ same k (p k (omega arith))

-- of n clocks, four of which the last are over tell the same
pub fewer : (n : ℕ) (M : ℕ → ℕ) (f : ℕ → Clock) → n ≤ 4 → Padded n f → (c : ℕ) → after 4 M f c ≡ after n M f c
fewer n M f h p c = to-four (λ k. after k M f c) f (λ k o. after_less k f o M c) n h p

over-stays : (n : ℕ) (M : ℕ → ℕ) (f : ℕ → Clock) (c : ℕ) → f c ≡ Over → after n M f c ≡ Over
over-stays n M f c o =
    ap (λ p. renamed (closed n (elapsed n M f)) (cond (any_sharp n f) (lift (M c) p) (roll (highest n f) p))) o
    ∙ same (any_sharp n f) where
      same : (b : Bool) → renamed (closed n (elapsed n M f)) (cond b Over Over) ≡ Over
      same true = refl
      same false = refl

-- the four clocks after an elapse, as n of them
pub fewer-at : (ps r : List Clock) (M : ℕ → ℕ) → length ps ≡ 4 → r ≡ four_of (after 4 M (at ps)) → (n : ℕ) → n ≤ 4 → Padded n (at ps) → at r ≡ after n M (at ps)
fewer-at ps r M l e n h p =
    ap at e
    ∙ spread (after 4 M (at ps)) (λ c i. over-stays 4 M (at ps) c (get_or_past ps c Over (omega arith)))
    ∙ fun_ext (fewer n M (at ps) h p)

-- last clocks that are over stay over
pub elapse-pads : (ps : List Clock) (ms : List ℕ) (r : List Clock) → r ≡ four_of (after 4 (limit ms) (trim_all ms ps)) → (n : ℕ) → n ≤ 4 → Padded n (at ps) → Padded n (at r)
elapse-pads ps ms r e n h p =
    subst (λ x. Padded n (at x)) (sym e)
    (λ c i. over-at (after 4 (limit ms) (trim_all ms ps)) c (over-stays 4 (limit ms) (trim_all ms ps) c (ap (trimmed (limit ms c)) (p c i))))

pub reset-pads : (ps : List Clock) (bs : List Bool) (r : List Clock) → r ≡ four_of (tidy 4 (λ c. capped (restarted (hit bs c) (at ps c)))) → (n : ℕ) → n ≤ 4 → Padded n (at ps) → ((c : ℕ) → n ≤ c → hit bs c ≡ false) → Padded n (at r)
reset-pads ps bs r e n h p k =
    let f : ℕ → Clock = λ c. capped (restarted (hit bs c) (at ps c)) in
    subst (λ x. Padded n (at x)) (sym e)
    (λ c i. over-at (tidy 4 f) c (ap (λ b. renamed (closed 4 f) (capped (restarted b (at ps c)))) (k c i) ∙ ap (λ x. renamed (closed 4 f) (capped x)) (p c i)))
