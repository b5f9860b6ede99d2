-- A stack of bits in a word: what a push and a take leave.
use Rattle.std.proofs.Common.{◌≡◌, ℕ, ◌+◌, ◌*◌, ◌/◌, ◌%◌, ◌^◌, ◌<◌, ◌≤◌, Bool, true, false, sym, ap, ◌∙◌, mod-eq_of_lt, arith, pow_mono}
use lib.Bits.{bit_or}
use mir.Val.{bool_byte}
use Rattle.std.proofs.lemmas.Nat.{or_shifted, mod_low, pow-add}
use Rattle.std.proofs.lemmas.Bool.{eq-eqb, ne_eqb}
use Rattle.judging.specs.Judging.{bit, low, push}

wraps : (s t : ℕ) → t < 2 → (s * 2 + t) % 2 ^ 32 ≡ (s % 2 ^ 31) * 2 + t
wraps s t h =
    let parts : s * 2 + t ≡ (s / 2 ^ 31) * 2 ^ 32 + ((s % 2 ^ 31) * 2 + t) = omega arith in
    ap (λ x. x % 2 ^ 32) parts ∙ mod_low (s / 2 ^ 31) 32 ((s % 2 ^ 31) * 2 + t) (omega arith)

word : (s t : ℕ) → t < 2 → bit_or ((s * 2) % 2 ^ 32) t ≡ (s * 2 + t) % 2 ^ 32
word s t h =
    let zero : s * 2 ≡ s * 2 + 0 = omega arith in
    let even : (s * 2) % 2 ^ 32 ≡ (s % 2 ^ 31) * 2 = ap (λ x. x % 2 ^ 32) zero ∙ wraps s 0 (omega arith) ∙ omega arith in
    ap (λ x. bit_or x t) even ∙ or_shifted (s % 2 ^ 31) 1 t h ∙ sym (wraps s t h)

pub pushes : (s t : ℕ) (b : Bool) → t ≡ bool_byte b → bit_or ((s * 2) % 2 ^ 32) t ≡ push s b
pushes s t true e = word s t (omega arith) ∙ ap (λ x. (s * 2 + x) % 2 ^ 32) e
pushes s t false e = word s t (omega arith) ∙ ap (λ x. (s * 2 + x) % 2 ^ 32) e

-- as long as there is room, a push loses nothing
pub small : (s k : ℕ) (b : Bool) → s < 2 ^ k → k + 1 ≤ 32 → push s b ≡ s * 2 + bit b
small s k true h r = let p : 2 ^ k ≤ 2 ^ 31 = pow_mono {i = k} {j = 31} (omega arith) in mod-eq_of_lt {n = s * 2 + 1} {m = 2 ^ 32} (omega arith)
small s k false h r = let p : 2 ^ k ≤ 2 ^ 31 = pow_mono {i = k} {j = 31} (omega arith) in mod-eq_of_lt {n = s * 2 + 0} {m = 2 ^ 32} (omega arith)

pub grows : (s k : ℕ) (b : Bool) → s < 2 ^ k → s * 2 + bit b < 2 ^ (k + 1)
grows s k true h = let p = pow-add 2 k 1 in omega arith
grows s k false h = let p = pow-add 2 k 1 in omega arith

pub low_of : (s : ℕ) (b : Bool) → low (s * 2 + bit b) ≡ b
low_of s true = eq-eqb _ 1 (omega arith)
low_of s false = ne_eqb _ 1 (omega arith)

pub rest_of : (s : ℕ) (b : Bool) → (s * 2 + bit b) / 2 ≡ s
rest_of s true = omega arith
rest_of s false = omega arith

pub rest-of-two : (s : ℕ) (x y : Bool) → ((s * 2 + bit x) * 2 + bit y) / 4 ≡ s
rest-of-two s true true = omega arith
rest-of-two s true false = omega arith
rest-of-two s false true = omega arith
rest-of-two s false false = omega arith
