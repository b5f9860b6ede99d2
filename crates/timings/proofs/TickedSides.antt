-- One clock: a whole number of units as a ticked place has it, and its sides.
use Rattle.std.proofs.Common.{◌≡◌, ℕ, suc, ◌+◌, ◌*◌, ◌<◌, ◌≤◌, Bool, true, false, cond, leb, refl, ap, mul-le-mul_right, suc-mul, mul-lt-mul_of_pos_right, arith}
use Rattle.std.proofs.lemmas.Bool.{leb-false, lt-leb}
use Rattle.std.proofs.lemmas.Bool.Decides.{nat_tests}
use Rattle.judging.specs.Truth.{compared}
use Rattle.ticked.specs.declared.places.Ticks.TheVariants.{At}
use Rattle.ticked.specs.Ticks.{side_of, later, cleared}
use Rattle.timings.specs.TickedStanding.{counted}

pub counted-zero : (M : ℕ) → At 0 ≡ counted M 0
counted-zero M = grind (arith, nat_tests)

pub counted-later : (M w : ℕ) → later M (counted M w) ≡ counted M (suc w)
counted-later M w = go (leb w M) refl
  where
    go : (b : Bool) → leb w M ≡ b → later M (counted M w) ≡ counted M (suc w)
    go true e = rw e refl
    go false e = let l : M < w = leb-false w M e in rw (e, lt-leb (suc w) M (omega arith)) refl

pub counted-cleared : (M w : ℕ) (b : Bool) → cleared b (counted M w) ≡ counted M (cond b 0 w)
counted-cleared M w true = counted-zero M
counted-cleared M w false = refl

-- w units of N parts each stand to j units as w to j
pub whole-side : (N w j : ℕ) → 1 ≤ N → compared w j ≡ compared (w * N) (j * N)
whole-side N w j h =
    let b : w < j → w * N < j * N = λ l. mul-lt-mul_of_pos_right l h in
    let a : j < w → j * N < w * N = λ l. mul-lt-mul_of_pos_right l h in
    let e : w ≡ j → w * N ≡ j * N = ap (λ k. k * N) in
    grind (arith, nat_tests)

-- and with less than a unit more as w and a half to j
pub past-side : (N w e j : ℕ) → 0 < e → e < N → compared (2 * w + 1) (2 * j) ≡ compared (w * N + e) (j * N)
past-side N w e j h l =
    let a : j ≤ w → j * N ≤ w * N = mul-le-mul_right N in
    let b : suc w ≤ j → suc w * N ≤ j * N = mul-le-mul_right N in
    let s : suc w * N ≡ w * N + N = suc-mul w N in
    grind (arith, nat_tests)

-- what a place shows of a clock, up to its ceiling
pub shows-whole : (M w j : ℕ) → j ≤ M → side_of false (counted M w) j ≡ compared w j
shows-whole M w j h = go (leb w M) refl
  where
    go : (b : Bool) → leb w M ≡ b → side_of false (counted M w) j ≡ compared w j
    go true e = rw e refl
    go false e = let l : M < w = leb-false w M e in rw e (grind (arith, nat_tests))

pub shows-half : (M w j : ℕ) → j ≤ M → side_of true (counted M w) j ≡ compared (2 * w + 1) (2 * j)
shows-half M w j h = go (leb w M) refl
  where
    go : (b : Bool) → leb w M ≡ b → side_of true (counted M w) j ≡ compared (2 * w + 1) (2 * j)
    go true e = rw e (grind (arith, nat_tests))
    go false e = let l : M < w = leb-false w M e in rw e (grind (arith, nat_tests))
