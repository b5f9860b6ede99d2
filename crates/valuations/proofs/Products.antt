-- The product of a chain of numbers that may be declared together: what it is, and that no front part has a larger one.
use Rattle.std.proofs.Common.{◌≡◌, ℕ, ◌*◌, ◌<◌, ◌≤◌, true, List, [], ◌∷◌, length, take, map, Option, sym, ap, ◌∙◌, subst, map-id, mul-le-mul_left, mul_assoc, mul-one, arith}
use Rattle.std.specs.Bool.{⊤}
use Rattle.std.specs.Iterator.{Yields, Drains}
use Rattle.std.specs.Iterator.Runs.{EachRunFrom, YieldsRun}
use Rattle.std.specs.List.{fold}
use Rattle.std.proofs.lemmas.Iterator.{YieldsList}
use Rattle.std.proofs.lemmas.Iterator.Adapters.{total_from_yields_List}
use Rattle.std.proofs.lemmas.Iterator.Consumers.{YieldsList-so_far}
use Rattle.instruction.specs.Sizes.{product, ranged}
use Rattle.instruction.proofs.Ranged.{ranged-rest, product-positive}

fold-product : (p : ℕ) (ns : List ℕ) → fold (λ q n. q * n) p ns ≡ p * product ns
fold-product p [] = sym (mul-one p)
fold-product p (n ∷ ns) = fold-product (p * n) ns ∙ mul_assoc p n (product ns)

product-front : (k : ℕ) (ns : List ℕ) → ranged ns ≡ true → product (take k ns) ≤ product ns
product-front ℕ.zero ns h = omega (arith, product-positive ns h)
product-front (ℕ.suc k) [] h = omega arith
product-front (ℕ.suc k) (n ∷ ns) h = mul-le-mul_left n (product-front k ns (ranged-rest n ns h))

module _ {S : Type 0} {steps : S → Option ℕ → S → Type 0} {s : S} (ns : List ℕ) (road : YieldsList steps (λ n. n) s (map (λ n. n) ns)) where
  pub product-is : (r : ℕ) → ((xs : List ℕ) × (⊤ → Drains steps s xs) × (r ≡ fold (λ p n. p * n) 1 xs)) → r ≡ product ns
  product-is r ran = omega (arith, total_from_yields_List (λ p n. p * n) 1 r ran road, ap (fold (λ p n. p * n) 1) (map-id ns), fold-product 1 ns)

  pub product-fits : (top : ℕ) → ranged ns ≡ true → product ns < top → EachRunFrom steps s (λ p. fold (λ q n. q * n) 1 p.items < top)
  unfolding YieldsRun
  product-fits top h low =
      λ p _ at.
      let passed = YieldsList-so_far road p.items p.gave.0.0 (subst (λ u. Yields steps u p.items p.gave.0.0) at p.gave.0.1) in
      let front : p.items ≡ take (length p.items) ns = sym (map-id p.items) ∙ passed ∙ ap (take (length p.items)) (map-id ns) in
      omega (arith, low, ap (fold (λ q n. q * n) 1) front, fold-product 1 (take (length p.items) ns), product-front (length p.items) ns h)
