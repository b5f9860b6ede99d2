-- A mask of ranks, and the number of its ones up to a bit.
use Rattle.std.proofs.Common.{◌≡◌, ℕ, zero, suc, ◌+◌, ◌-◌, ◌*◌, ◌/◌, ◌%◌, ◌^◌, ◌<◌, min, max, Bool, true, false, cond, ◌||◌, eqb, sym, refl, ap, ◌∙◌, pow-suc, one-add, arith}
use native.Mathlib.Nat.{div-eq_of_lt, div_self, zero-div, mod-one}
use lib.Bits.{bit_or, or_step, or_shr}
use lib.Count.{ones, ones_in, ones_cat}
use Rattle.std.proofs.lemmas.Bool.Decides.{nat_tests}
use Rattle.std.proofs.lemmas.Nat.{pow_pos, pow-add, shl-shr, shr-shr, mod-pow-add, mod_below, pow_below}
use Rattle.regions.specs.declared.clocks.Clock.{Clock}
use Rattle.regions.specs.declared.clocks.Clock.TheVariants.{Over, Counted}
use Rattle.regions.specs.Clocks.{capped, bit_of, mask_of, ones_to, four_of}
use Rattle.regions.specs.Regions.{rank_of, renamed, used, closed, tidy}
use Rattle.regions.proofs.Closing.{renamed-same}

or-bit : (a b k : ℕ) → bit_or a b / 2 ^ k % 2 ≡ max (a / 2 ^ k % 2) (b / 2 ^ k % 2)
or-bit a b k =
    let e : bit_or a b / 2 ^ k ≡ bit_or (a / 2 ^ k) (b / 2 ^ k) = or_shr a b k in
    let s : bit_or (a / 2 ^ k) (b / 2 ^ k) ≡ bit_or (a / 2 ^ k / 2) (b / 2 ^ k / 2) * 2 + max (a / 2 ^ k % 2) (b / 2 ^ k % 2) = or_step (a / 2 ^ k) (b / 2 ^ k) in
    ap (λ n. n % 2) e ∙ omega (arith, s)

pow_low : (r k : ℕ) → r < k → 2 ^ r / 2 ^ k % 2 ≡ 0
pow_low r k h = ap (λ n. n % 2) (div-eq_of_lt (pow_below r k h))

pow-high : (r k : ℕ) → k < r → 2 ^ r / 2 ^ k % 2 ≡ 0
pow-high r k h =
    let e : r ≡ suc (r - suc k) + k = omega arith in
    let p : 2 ^ r ≡ 2 ^ suc (r - suc k) * 2 ^ k = ap (λ n. 2 ^ n) e ∙ pow-add 2 (suc (r - suc k)) k in
    let q : 2 ^ r / 2 ^ k ≡ 2 ^ suc (r - suc k) = ap (λ n. n / 2 ^ k) p ∙ shl-shr (2 ^ suc (r - suc k)) k in
    let t : 2 ^ suc (r - suc k) ≡ 2 ^ (r - suc k) * 2 = pow-suc 2 (r - suc k) in
    ap (λ n. n % 2) (q ∙ t) ∙ omega arith

pow-bit : (r k : ℕ) → 2 ^ r / 2 ^ k % 2 ≡ cond (eqb r k) 1 0
pow-bit r k =
    let a : r < k → 2 ^ r / 2 ^ k % 2 ≡ 0 = pow_low r k in
    let b : k < r → 2 ^ r / 2 ^ k % 2 ≡ 0 = pow-high r k in
    let e : r ≡ k → 2 ^ r / 2 ^ k % 2 ≡ 1 = λ q. ap (λ n. 2 ^ n / 2 ^ k % 2) q ∙ ap (λ n. n % 2) (div_self (pow_pos k)) in
    grind (arith, nat_tests)

one_bit : (b : ℕ) → b < 2 → ones b ≡ b
unfolding ones ones_in
one_bit zero h = refl
one_bit (suc zero) h = refl
one_bit (suc (suc b)) h = omega arith

low_ones : (m r : ℕ) → ones (m % 2 ^ suc r) ≡ ones (m % 2 ^ r) + m / 2 ^ r % 2
low_ones m r =
    let s : m % 2 ^ suc r ≡ (m / 2 ^ r % 2) * 2 ^ r + m % 2 ^ r = ap (λ n. m % 2 ^ n) (sym (one-add r)) ∙ mod-pow-add m 1 r in
    let c : ones ((m / 2 ^ r % 2) * 2 ^ r + m % 2 ^ r) ≡ ones (m / 2 ^ r % 2) + ones (m % 2 ^ r) = ones_cat r (m / 2 ^ r % 2) (m % 2 ^ r) (mod_below m (2 ^ r) (pow_pos r)) in
    let b : ones (m / 2 ^ r % 2) ≡ m / 2 ^ r % 2 = one_bit (m / 2 ^ r % 2) (mod_below (m / 2 ^ r) 2 (omega arith)) in
    ap ones s ∙ omega (arith, c, b)

clock-bit : (p : Clock) (k : ℕ) → 0 < k → bit_of p / 2 ^ k % 2 ≡ cond (eqb (rank_of (capped p)) k) 1 0
clock-bit Over k h =
    let z : 0 / 2 ^ k ≡ 0 = zero-div (2 ^ k) in
    grind (arith, nat_tests)
clock-bit (Counted w r) k h = pow-bit (min r 31) k

max-or : (u e : Bool) → max (cond u 1 0) (cond e 1 0) ≡ cond (e || u) 1 0
max-or true true = refl
max-or true false = refl
max-or false true = refl
max-or false false = refl

mask-bit : (n : ℕ) (ps : ℕ → Clock) (k : ℕ) → 0 < k → mask_of n ps / 2 ^ k % 2 ≡ cond (used n (λ c. capped (ps c)) k) 1 0
unfolding used
mask-bit zero ps k h = ap (λ n. n % 2) (zero-div (2 ^ k))
mask-bit (suc n) ps k h =
    or-bit (mask_of n ps) (bit_of (ps n)) k
    ∙ ap (λ x. max x (bit_of (ps n) / 2 ^ k % 2)) (mask-bit n ps k h)
    ∙ ap (λ x. max (cond (used n (λ c. capped (ps c)) k) 1 0) x) (clock-bit (ps n) k h)
    ∙ max-or (used n (λ c. capped (ps c)) k) (eqb (rank_of (capped (ps n))) k)

pub closed-ones : (n : ℕ) (ps : ℕ → Clock) (r : ℕ) → ones_to (mask_of n ps) r ≡ closed n (λ c. capped (ps c)) r
unfolding closed ones ones_in
closed-ones n ps zero = ap ones (mod-one (mask_of n ps / 2))
closed-ones n ps (suc r) =
    let s : mask_of n ps / 2 / 2 ^ r ≡ mask_of n ps / 2 ^ suc r = shr-shr (mask_of n ps) 1 r ∙ ap (λ k. mask_of n ps / 2 ^ k) (one-add r) in
    let b : mask_of n ps / 2 ^ suc r % 2 ≡ cond (used n (λ c. capped (ps c)) (suc r)) 1 0 = mask-bit n ps (suc r) (omega arith) in
    low_ones (mask_of n ps / 2) r
    ∙ ap (λ x. x + mask_of n ps / 2 / 2 ^ r % 2) (closed-ones n ps r)
    ∙ ap (λ x. closed n (λ c. capped (ps c)) r + x) (ap (λ x. x % 2) s ∙ b)

pub tidied : (ps : ℕ → Clock) → four_of (λ c. renamed (ones_to (mask_of 4 ps)) (capped (ps c))) ≡ four_of (tidy 4 (λ c. capped (ps c)))
tidied ps =
    let e : (p : Clock) → renamed (ones_to (mask_of 4 ps)) p ≡ renamed (closed 4 (λ c. capped (ps c))) p = renamed-same (ones_to (mask_of 4 ps)) (closed 4 (λ c. capped (ps c))) (closed-ones 4 ps) in
    let e0 = e (capped (ps 0)) in
    let e1 = e (capped (ps 1)) in
    let e2 = e (capped (ps 2)) in
    let e3 = e (capped (ps 3)) in
    cc
