-- Number and values are each the other's inverse, values are in range, and numbers are below the product.
use Rattle.std.proofs.Common.{◌≡◌, ℕ, ◌+◌, ◌*◌, ◌/◌, ◌%◌, ◌<◌, true, ltb, List, [], ◌∷◌, ◌++◌, length, take, sym, refl, ap, ◌∙◌, mod-lt, mod-eq_of_lt, mul_assoc, arith}
use native.Mathlib.Nat.{mod-one, mul-add-div_right, mul-add-mod_self_right}
use lib.Arith.{mod-mul, digits_lt, digits_div}
use Rattle.std.proofs.lemmas.Bool.{and_parts, and_from, ltb-true, lt-ltb}
use Rattle.instruction.specs.Sizes.{product, ranged}
use Rattle.valuations.specs.Radix.{number, digits, within}
use Rattle.instruction.proofs.Ranged.{ranged-first, ranged-rest, product-positive}

pub digits-within : (ns : List ℕ) (v : ℕ) (zs : List ℕ) → ranged ns ≡ true → within ns (digits ns v ++ zs) ≡ true
unfolding within digits
digits-within [] v zs h = refl
digits-within (n ∷ ns) v zs h =
    let two = ranged-first n ns h in
    and_from (ltb (v / product ns % n) n) (within ns (digits ns v ++ zs)) (lt-ltb (v / product ns % n) n (mod-lt (v / product ns) (omega arith))) (digits-within ns v zs (ranged-rest n ns h))

pub number_digits : (ns : List ℕ) (v : ℕ) (zs : List ℕ) → ranged ns ≡ true → number ns (digits ns v ++ zs) ≡ v % product ns
unfolding number digits
number_digits [] v zs h = sym (mod-one v)
number_digits (n ∷ ns) v zs h =
    let two = ranged-first n ns h in
    let pos : 0 < n = omega arith in
    ap (λ r. v / product ns % n * product ns + r) (number_digits ns v zs (ranged-rest n ns h)) ∙ sym (mod-mul v pos (product-positive ns (ranged-rest n ns h)))

pub number-below : (ns xs : List ℕ) → within ns xs ≡ true → number ns xs < product ns
unfolding number within
number-below [] xs h = omega arith
number-below (n ∷ ns) [] h = absurd (let z : ◌≡◌ {A = ℕ} 0 1 = cc in omega arith)
number-below (n ∷ ns) (x ∷ xs) h =
    let both = and_parts (ltb x n) (within ns xs) h in
    digits_lt (ltb-true x n both.0) (number-below ns xs both.1)

-- a multiple of the product leaves the values as they are
digits-past : (ns : List ℕ) (q r : ℕ) → ranged ns ≡ true → digits ns (q * product ns + r) ≡ digits ns r
unfolding digits
digits-past [] q r h = refl
digits-past (n ∷ ns) q r h =
    rw (← mul_assoc q n (product ns), mul-add-div_right (product-positive ns (ranged-rest n ns h)) (q * n) r, mul-add-mod_self_right q n (r / product ns), digits-past ns (q * n) r (ranged-rest n ns h))

pub digits_number : (ns xs : List ℕ) → ranged ns ≡ true → within ns xs ≡ true → digits ns (number ns xs) ≡ take (length ns) xs
unfolding number within digits
digits_number [] xs h w = refl
digits_number (n ∷ ns) [] h w = absurd (let z : ◌≡◌ {A = ℕ} 0 1 = cc in omega arith)
digits_number (n ∷ ns) (x ∷ xs) h w =
    let both = and_parts (ltb x n) (within ns xs) w in
    rw (digits_div x (number-below ns xs both.1), mod-eq_of_lt (ltb-true x n both.0), digits-past ns x (number ns xs) (ranged-rest n ns h), digits_number ns xs (ranged-rest n ns h) both.1)
