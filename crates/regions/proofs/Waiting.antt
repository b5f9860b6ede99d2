-- One elapse, on four clocks.
use Rattle.std.proofs.Common.{◌≡◌, ℕ, suc, ◌<◌, ◌≤◌, Bool, true, false, cond, ◌||◌, eqb, List, sym, refl, ap, ◌∙◌, arith}
use Rattle.std.proofs.lemmas.Bool.Decides.{nat_tests}
use Rattle.regions.specs.declared.clocks.Clock.{Clock}
use Rattle.regions.specs.declared.clocks.Clock.TheVariants.{Over, Counted}
use Rattle.regions.specs.Clocks.{whole_of, capped, at, four_of, Every, Fit, limit, trim_all}
use Rattle.regions.specs.Regions.{rank_of, sharp, any_sharp, highest, lift, roll, elapsed, tidy, after}
use Rattle.regions.proofs.Closing.{tidy-same}
use Rattle.regions.proofs.Fours.{below-four, same-four}

rank-cond : (b : Bool) (x y : Clock) (n : ℕ) → rank_of x ≤ n → rank_of y ≤ n → rank_of (cond b x y) ≤ n
rank-cond true x y n h k = h
rank-cond false x y n h k = k

lift-rank : (M : ℕ) (p : Clock) → rank_of p ≤ 15 → rank_of (lift M p) ≤ 31
lift-rank M Over h = omega arith
lift-rank M (Counted w r) h =
    rank-cond (eqb r 0) (cond (eqb w M) Over (Counted w 1)) (Counted w (suc r)) 31
    (rank-cond (eqb w M) Over (Counted w 1) 31 (omega arith) (omega arith))
    (omega arith)

roll-rank : (t : ℕ) (p : Clock) → rank_of p ≤ 15 → rank_of (roll t p) ≤ 31
roll-rank t Over h = omega arith
roll-rank t (Counted w r) h = rank-cond (eqb r t) (Counted (suc w) 0) (Counted w r) 31 (omega arith) (omega arith)

capped-low : (p : Clock) → rank_of p ≤ 31 → capped p ≡ p
capped-low Over h = refl
capped-low (Counted w r) h = ap (λ k. Counted w k) (omega arith)

-- a place that was moved to m at each index
moved : (q m : ℕ → Clock) (ms : List ℕ) → Every (λ p. rank_of p ≤ 31) (four_of m) → ((c : ℕ) → m c ≡ elapsed 4 (limit ms) q c) → four_of (tidy 4 (λ c. capped (at (four_of m) c))) ≡ four_of (after 4 (limit ms) q)
moved q m ms f e =
    same-four (tidy 4 (λ c. capped (at (four_of m) c))) (after 4 (limit ms) q)
    (tidy-same 4 (λ c. capped (at (four_of m) c)) (elapsed 4 (limit ms) q)
    (below-four (λ c. capped (at (four_of m) c) ≡ elapsed 4 (limit ms) q c)
    (capped-low (m 0) f.0 ∙ e 0) (capped-low (m 1) f.1 ∙ e 1) (capped-low (m 2) f.2 ∙ e 2) (capped-low (m 3) f.3 ∙ e 3)))

lifted : (q : ℕ → Clock) (ms : List ℕ) → Every Fit (four_of q) → any_sharp 4 q ≡ true → four_of (tidy 4 (λ c. capped (at (four_of (λ k. lift (limit ms k) (q k))) c))) ≡ four_of (after 4 (limit ms) q)
lifted q ms f s =
    moved q (λ k. lift (limit ms k) (q k)) ms
    (lift-rank (limit ms 0) (q 0) f.0.0, lift-rank (limit ms 1) (q 1) f.1.0, lift-rank (limit ms 2) (q 2) f.2.0, lift-rank (limit ms 3) (q 3) f.3.0)
    (λ c. ap (λ b. cond b (lift (limit ms c) (q c)) (roll (highest 4 q) (q c))) (sym s))

rolled : (q : ℕ → Clock) (ms : List ℕ) → Every Fit (four_of q) → any_sharp 4 q ≡ false → four_of (tidy 4 (λ c. capped (at (four_of (λ k. roll (highest 4 q) (q k))) c))) ≡ four_of (after 4 (limit ms) q)
rolled q ms f s =
    moved q (λ k. roll (highest 4 q) (q k)) ms
    (roll-rank (highest 4 q) (q 0) f.0.0, roll-rank (highest 4 q) (q 1) f.1.0, roll-rank (highest 4 q) (q 2) f.2.0, roll-rank (highest 4 q) (q 3) f.3.0)
    (λ c. ap (λ b. cond b (lift (limit ms c) (q c)) (roll (highest 4 q) (q c))) (sym s))

-- where no clock is on a whole number, each has room for the next one
room : (p : Clock) → Fit p → sharp p ≡ false → whole_of p < 65535
room Over f s = omega arith
room (Counted w r) f s = grind (arith, nat_tests)

pub none : (a b c d : Bool) → (d || (c || (b || (a || false)))) ≡ false → (a ≡ false) × (b ≡ false) × (c ≡ false) × (d ≡ false)
none a b c d s = grind arith

pub rooms : (ps : List Clock) → Every Fit ps → any_sharp 4 (at ps) ≡ false → Every (λ p. whole_of p < 65535) ps
unfolding any_sharp
rooms ps f s =
    let o : (a b c d : Bool) → (d || (c || (b || (a || false)))) ≡ false → (a ≡ false) × (b ≡ false) × (c ≡ false) × (d ≡ false) = none in
    let n = o (sharp (at ps 0)) (sharp (at ps 1)) (sharp (at ps 2)) (sharp (at ps 3)) s in
    (room (at ps 0) f.0 n.0, room (at ps 1) f.1 n.1, room (at ps 2) f.2 n.2, room (at ps 3) f.3 n.3)

pub after-at : (q : ℕ → Clock) (M : ℕ → ℕ) → four_of (after 4 M (at (four_of q))) ≡ four_of (after 4 M q)
unfolding any_sharp highest
after-at q M =
    same-four (after 4 M (at (four_of q))) (after 4 M q)
    (tidy-same 4 (elapsed 4 M (at (four_of q))) (elapsed 4 M q)
    (below-four (λ c. elapsed 4 M (at (four_of q)) c ≡ elapsed 4 M q c) refl refl refl refl))

module _ (ps : List Clock) (ms : List ℕ) (fit to r : List Clock) (e : fit ≡ four_of (trim_all ms ps)) (f : Every Fit fit) (t : r ≡ four_of (tidy 4 (λ c. capped (at to c)))) where
  ends : four_of (after 4 (limit ms) (at fit)) ≡ four_of (after 4 (limit ms) (trim_all ms ps))
  ends = ap (λ x. four_of (after 4 (limit ms) (at x))) e ∙ after-at (trim_all ms ps) (limit ms)

  pub lift-way : any_sharp 4 (at fit) ≡ true → to ≡ four_of (λ c. lift (limit ms c) (at fit c)) → r ≡ four_of (after 4 (limit ms) (trim_all ms ps))
  lift-way s m = t ∙ ap (λ x. four_of (tidy 4 (λ c. capped (at x c)))) m ∙ lifted (at fit) ms f s ∙ ends

  pub roll-way : (top : ℕ) → top ≡ highest 4 (at fit) → any_sharp 4 (at fit) ≡ false → to ≡ four_of (λ c. roll top (at fit c)) → r ≡ four_of (after 4 (limit ms) (trim_all ms ps))
  roll-way top h s m =
      t ∙ ap (λ x. four_of (tidy 4 (λ c. capped (at x c)))) (m ∙ ap (λ n. four_of (λ c. roll n (at fit c))) h) ∙ rolled (at fit) ms f s ∙ ends
