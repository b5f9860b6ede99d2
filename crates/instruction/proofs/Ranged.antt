-- Numbers of values in range: each is from 2 to 16, so are those of a back part, and their product is positive.
use Rattle.std.proofs.Common.{◌≡◌, ℕ, ◌<◌, ◌≤◌, true, ◌&&◌, leb, List, [], ◌∷◌, drop, refl, mul-pos, arith}
use Rattle.std.proofs.lemmas.Bool.{and_parts, leb-true}
use Rattle.instruction.specs.Sizes.{product, ranged}

pub ranged-first : (n : ℕ) (ns : List ℕ) → ranged (n ∷ ns) ≡ true → (2 ≤ n) × (n ≤ 16)
ranged-first n ns h =
    let both = and_parts (leb 2 n) (leb n 16) (and_parts (leb 2 n && leb n 16) (ranged ns) h).0 in
    (leb-true 2 n both.0, leb-true n 16 both.1)

pub ranged-rest : (n : ℕ) (ns : List ℕ) → ranged (n ∷ ns) ≡ true → ranged ns ≡ true
ranged-rest n ns h = (and_parts (leb 2 n && leb n 16) (ranged ns) h).1

pub ranged-drop : (i : ℕ) (ns : List ℕ) → ranged ns ≡ true → ranged (drop i ns) ≡ true
ranged-drop ℕ.zero ns h = h
ranged-drop (ℕ.suc i) [] h = refl
ranged-drop (ℕ.suc i) (n ∷ ns) h = ranged-drop i ns (ranged-rest n ns h)

pub product-positive : (ns : List ℕ) → ranged ns ≡ true → 0 < product ns
product-positive [] h = omega arith
product-positive (n ∷ ns) h =
    let two = ranged-first n ns h in
    mul-pos (omega arith) (product-positive ns (ranged-rest n ns h))
