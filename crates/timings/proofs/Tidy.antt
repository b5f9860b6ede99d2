-- Closing the gaps between ranks keeps what a place stands for.
use Rattle.std.proofs.Common.{◌≡◌, ℕ, zero, suc, ◌<◌, ◌≤◌, true, refl, ap, arith}
use Rattle.std.proofs.lemmas.Bool.Decides.{nat_tests}
use Rattle.regions.specs.declared.clocks.Clock.{Clock}
use Rattle.regions.specs.declared.clocks.Clock.TheVariants.{Over, Counted}
use Rattle.regions.specs.Regions.{rank_of, used, closed, renamed, tidy}
use Rattle.timings.specs.Standing.{Two, Stands}
use Rattle.timings.proofs.Move.{Keeps, Zero, renumbered}

used-at : (n : ℕ) (ps : ℕ → Clock) (c : ℕ) → c < n → used n ps (rank_of (ps c)) ≡ true
unfolding used
used-at zero ps c h = grind arith
used-at (suc n) ps c h =
    let ih : c < n → used n ps (rank_of (ps c)) ≡ true = used-at n ps c in
    let q : c ≡ n → rank_of (ps c) ≡ rank_of (ps n) = ap (λ k. rank_of (ps k)) in
    grind (arith, nat_tests)

module _ (n : ℕ) (ps : ℕ → Clock) where
  mono : (r s : ℕ) → r ≤ s → closed n ps r ≤ closed n ps s
  unfolding closed
  mono r zero h =
      let e : r ≡ 0 = omega arith in
      rw e (omega arith)
  mono r (suc s) h =
      let ih : r ≤ s → closed n ps r ≤ closed n ps s = mono r s in
      let q : r ≡ suc s → closed n ps r ≡ closed n ps (suc s) = ap (closed n ps) in
      grind arith

  strict : (r s : ℕ) → r < s → used n ps s ≡ true → closed n ps r < closed n ps s
  unfolding closed
  strict r zero h u = omega arith
  strict r (suc s) h u =
      let m : closed n ps r ≤ closed n ps s = mono r s (omega arith) in
      grind arith

  zero-closed : closed n ps 0 ≡ 0
  unfolding closed
  zero-closed = refl

  closed-zero : (p : Clock) → used n ps (rank_of p) ≡ true → Zero (closed n ps) p
  closed-zero Over u = tt
  closed-zero (Counted w r) u =
      let s : 0 < r → closed n ps 0 < closed n ps r = λ h. strict 0 r h u in
      let q : r ≡ 0 → closed n ps r ≡ closed n ps 0 = ap (closed n ps) in
      grind (arith, zero-closed)

  closed-two : (p q : Clock) → used n ps (rank_of p) ≡ true → used n ps (rank_of q) ≡ true → Two (rank_of p) (rank_of q) (renamed (closed n ps) p) (renamed (closed n ps) q)
  closed-two Over Over u u' = tt
  closed-two Over (Counted v s) u u' = tt
  closed-two (Counted w r) Over u u' = tt
  closed-two (Counted w r) (Counted v s) u u' =
      let a : r ≤ s → closed n ps r ≤ closed n ps s = mono r s in
      let b : s < r → closed n ps s < closed n ps r = λ h. strict s r h u in
      grind arith

  keeps : Keeps n (closed n ps) ps
  keeps =
      record { zeros = λ c h. closed-zero (ps c) (used-at n ps c h); orders = λ c d h i. closed-two (ps c) (ps d) (used-at n ps c h) (used-at n ps d i) }

pub tidied : {n E : ℕ} {M xs fs : ℕ → ℕ} {ps : ℕ → Clock} → Stands n E M xs fs ps → Stands n E M xs fs (tidy n ps)
tidied {n} {E} {M} {xs} {fs} {ps} s = renumbered n E M xs fs ps (closed n ps) (keeps n ps) s
