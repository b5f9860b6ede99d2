-- What the numbers of values that were read are.
use Rattle.std.proofs.Common.{◌≡◌, ℕ, ◌-◌, ◌*◌, ◌≤◌, true, ◌&&◌, leb, List, [], ◌∷◌, ◌++◌, length, Ok, sym, refl, ap, ◌∙◌, subst, append_assoc, append-nil, mul_assoc, mul-le-mul_left, arith}
use Rattle.std.proofs.lemmas.Bool.{leb-true, le-leb, and_parts, and_from}
use Rattle.instruction.specs.declared.faults.Fault.TheVariants.{Product, ValueCount}
use Rattle.instruction.specs.Sizes.{product, ranged}
use Rattle.instruction.proofs.Ranged.{product-positive}
use Rattle.instruction.proofs.Inverse.{tested, and_then-ok, never-ok}
use Rattle.sizes.specs.Promise.{Countable}
use Rattle.sizes.specs.Reading.{counted, counting}

-- a number of values that was taken in
pub record Taken (p k q : ℕ) : Type 0 where
  pub low : 2 ≤ k
  pub high : k ≤ 16
  pub product : q ≡ p * k
  pub small : q ≤ 1024

pub counted-was : (at p k q : ℕ) → counted at p k ≡ Ok q → Taken p k q
counted-was at p k q e =
    let x = tested (leb 2 k && leb k 16) _ (ValueCount at) q e in
    let y = tested (leb (p * k) 1024) (Ok (p * k)) (Product at) q x.1 in
    let z = and_parts (leb 2 k) (leb k 16) x.0 in
    let same : p * k ≡ q = cc y.1 in
    record { low = leb-true 2 k z.0; high = leb-true k 16 z.1; product = sym same; small = omega (arith, leb-true (p * k) 1024 y.0) }

pub product_small : (at p k q : ℕ) → counted at p k ≡ Ok q → q ≤ 1024
product_small at p k q e = (counted-was at p k q e).small

pub product-push : (ns : List ℕ) (k : ℕ) → product (ns ++ (k ∷ [])) ≡ product ns * k
product-push [] k = omega arith
product-push (n ∷ ns) k = ap (λ p. n * p) (product-push ns k) ∙ sym (mul_assoc n (product ns) k)

product-append : (ns ms : List ℕ) → product (ns ++ ms) ≡ product ns * product ms
product-append [] ms = omega arith
product-append (n ∷ ns) ms = ap (λ p. n * p) (product-append ns ms) ∙ sym (mul_assoc n (product ns) (product ms))

ranged-append : (ns ms : List ℕ) → ranged ns ≡ true → ranged ms ≡ true → ranged (ns ++ ms) ≡ true
ranged-append [] ms h k = k
ranged-append (n ∷ ns) ms h k =
    let x = and_parts (leb 2 n && leb n 16) (ranged ns) h in
    and_from (leb 2 n && leb n 16) (ranged (ns ++ ms)) x.0 (ranged-append ns ms x.1 k)

ranged-parts : (ns ms : List ℕ) → ranged (ns ++ ms) ≡ true → (ranged ns ≡ true) × (ranged ms ≡ true)
ranged-parts [] ms h = (refl, h)
ranged-parts (n ∷ ns) ms h =
    let x = and_parts (leb 2 n && leb n 16) (ranged (ns ++ ms)) h in
    let y = ranged-parts ns ms x.1 in
    (and_from (leb 2 n && leb n 16) (ranged ns) x.0 y.0, y.1)

one-ranged : (k : ℕ) → 2 ≤ k → k ≤ 16 → ranged (k ∷ []) ≡ true
one-ranged k a b = simp (le-leb 2 k a, le-leb k 16 b)

-- a front of numbers that may be declared together
front-countable : (ns ms : List ℕ) → Countable (ns ++ ms) → Countable ns
front-countable ns ms h =
    let r = ranged-parts ns ms h.values in
    let m : product ns * 1 ≤ product ns * product ms = mul-le-mul_left {m = 1} {n = product ms} (product ns) (product-positive ms r.1) in
    record { values = r.0; valuations = omega (arith, product-append ns ms, h.valuations) }

pub none-countable : Countable []
none-countable = record { values = refl; valuations = omega arith }

-- with one number of values more
pub more-countable : (p k q : ℕ) (ns : List ℕ) → Countable ns → p ≡ product ns → Taken p k q → Countable (ns ++ (k ∷ [])) × (q ≡ product (ns ++ (k ∷ [])))
more-countable p k q ns h e t =
    let same : q ≡ product (ns ++ (k ∷ [])) = t.product ∙ ap (λ x. x * k) e ∙ sym (product-push ns k) in
    (record { values = ranged-append ns (k ∷ []) h.values (one-ranged k t.low t.high); valuations = omega (arith, t.small) }, same)

-- what was counted
pub record Counts (n : ℕ) (ns bs ms : List ℕ) : Type 0 where
  pub added : List ℕ
  pub rest : List ℕ
  pub all : ms ≡ ns ++ added
  pub number : length added ≡ n
  pub bytes : bs ≡ added ++ rest
  pub countable : Countable ms

module _ (end : ℕ) where
  pub counting-was : (n p : ℕ) (ns bs ms : List ℕ) → Countable ns → p ≡ product ns → counting end n ns p bs ≡ Ok ms → Counts n ns bs ms
  unfolding counting
  counting-was ℕ.zero p ns bs ms h e c =
      let same : ns ≡ ms = cc in
      record { added = []; rest = bs; all = sym same ∙ sym (append-nil ns); number = refl; bytes = refl; countable = subst Countable same h }
  counting-was (ℕ.suc n) p ns [] ms h e c = never-ok _ ms _ c
  counting-was (ℕ.suc n) p ns (k ∷ bs) ms h e c =
      let x = and_then-ok (counted (end - length (k ∷ bs)) p k) _ ms c in
      let m = more-countable p k x.0 ns h e (counted-was _ p k x.0 x.1) in
      let y = counting-was n x.0 (ns ++ (k ∷ [])) bs ms m.0 m.1 x.2 in
      record { added = k ∷ y.added; rest = y.rest; all = y.all ∙ append_assoc ns (k ∷ []) y.added; number = ap ℕ.suc y.number; bytes = ap (λ l. k ∷ l) y.bytes; countable = y.countable }

  pub counting-through : (p : ℕ) (ns added rest : List ℕ) → Countable (ns ++ added) → p ≡ product ns → counting end (length added) ns p (added ++ rest) ≡ Ok (ns ++ added)
  unfolding counting
  counting-through p ns [] rest h e = ap Ok (sym (append-nil ns))
  counting-through p ns (k ∷ added) rest h e =
      let whole : (ns ++ (k ∷ [])) ++ added ≡ ns ++ (k ∷ added) = append_assoc ns (k ∷ []) added in
      let g : Countable ((ns ++ (k ∷ [])) ++ added) = subst Countable (sym whole) h in
      let f = front-countable (ns ++ (k ∷ [])) added g in
      let r = ranged-parts ns (k ∷ []) f.values in
      let s = and_parts (leb 2 k && leb k 16) true r.1 in
      let q : p * k ≡ product (ns ++ (k ∷ [])) = ap (λ x. x * k) e ∙ sym (product-push ns k) in
      simp (s.0, le-leb (p * k) 1024 (omega (arith, f.valuations))) (counting-through (p * k) (ns ++ (k ∷ [])) added rest g q ∙ ap Ok whole)
