-- One turn of each loop at a variable of n values, and the end of each loop.
use Rattle.std.proofs.Common.{◌≡◌, ℕ, ◌+◌, ◌-◌, ◌*◌, ◌/◌, ◌%◌, ◌<◌, ◌≤◌, true, false, List, [], ◌∷◌, ◌++◌, length, drop, set, replicate, refl, sym, ap, ◌∙◌, mul-le-mul_right, mod-lt, mul_assoc, mul_comm, add-mul, one-mul, mul-one, le-mul_of_pos_right, div-one, arith, append_assoc, append-nil, length-append}
use native.Mathlib.Nat.{div-div-eq-div-mul}
use Rattle.std.proofs.lemmas.List.{drop_all, drop_at, drop-replicate, drop-set}
use Rattle.std.specs.List.{push}
use Rattle.std.proofs.lemmas.Bool.{lt-ltb, le-ltb}
use Rattle.instruction.specs.Sizes.{product, ranged}
use Rattle.valuations.specs.Radix.{number, digits, within}
use Rattle.instruction.proofs.Ranged.{ranged-first, ranged-rest, ranged-drop, product-positive}

-- the numbers and the values that are left
module _ (n x : ℕ) (ns xs : List ℕ) where
  pub within-not : n ≤ x → within (n ∷ ns) (x ∷ xs) ≡ false
  unfolding within
  within-not h = rw (le-ltb x n h)

  pub within-turn : x < n → within (n ∷ ns) (x ∷ xs) ≡ within ns xs
  unfolding within
  within-turn h = rw (lt-ltb x n h)

  -- a is the number so far
  pub number-turn : (a t : ℕ) → a * product (n ∷ ns) + number (n ∷ ns) (x ∷ xs) ≡ t → (a * n + x) * product ns + number ns xs ≡ t
  unfolding number
  number-turn a t e = omega (arith, e, add-mul (a * n) x (product ns), mul_assoc a n (product ns))

  -- one more number there is room for, of those with this front
  pub room-turn : (a t : ℕ) → x < n → (a + 1) * product (n ∷ ns) ≤ t → (a * n + x + 1) * product ns ≤ t
  room-turn a t h room =
      let less : a * n + x + 1 ≤ (a + 1) * n = omega (arith, add-mul a 1 n, one-mul n) in
      omega (arith, mul-le-mul_right (product ns) less, mul_assoc (a + 1) n (product ns))

  pub number_fits : (a t : ℕ) (ms : List ℕ) → ms ≡ n ∷ ns → ranged ms ≡ true → x < n → (a + 1) * product ms ≤ t → a * n + x < t
  number_fits a t ms e h l room = omega (arith, le-mul_of_pos_right (a * n + x + 1) (product-positive ns (ranged-rest n ns (rw e at h))), room-turn a t l (rw e at room))

-- with none left
pub within_end : (ns xs : List ℕ) → length ns ≡ 0 → within ns xs ≡ true
unfolding within
within_end [] xs e = refl
within_end (n ∷ ns) xs e = absurd (omega arith)

pub number-end : (a : ℕ) (ns xs : List ℕ) → length ns ≡ 0 → a * product ns + number ns xs ≡ a
unfolding number
number-end a [] xs e = omega (arith, mul-one a)
number-end a (n ∷ ns) xs e = absurd (omega arith)

-- past the last variable
module _ (ns : List ℕ) (v m : ℕ) where
  none : drop (length ns) ns ≡ []
  none = drop_all (length ns) ns (omega arith)

  pub whole-end : ns ++ drop (length ns) ns ≡ ns
  whole-end = ap (λ t. ns ++ t) none ∙ append-nil ns

  pub left_end : v ≡ v / product (drop (length ns) ns)
  left_end = rw none (sym (div-one v))

  pub digits-end : drop (length ns) (replicate m 0) ≡ digits (drop (length ns) ns) v ++ replicate (m - length ns) 0
  unfolding digits
  digits-end = rw none (drop-replicate (length ns) m 0)

-- down to the first variable the values are whole
pub digits-whole : (ns xs zs : List ℕ) (i v : ℕ) → i ≡ 0 → drop i xs ≡ digits (drop i ns) v ++ zs → xs ≡ digits ns v ++ zs
digits-whole ns xs zs ℕ.zero v low e = e
digits-whole ns xs zs (ℕ.suc i) v low e = absurd (omega arith)

-- the loop of the values goes down: these are the numbers in front, and with the one that is taken
module _ (ns front taken : List ℕ) (n : ℕ) (h : ranged ns ≡ true) (split : taken ≡ push front n) (whole : taken ++ drop (length taken) ns ≡ ns) where
  next : length front + 1 ≡ length taken
  next = omega (arith, ap length split, length-append front (n ∷ []))

  parts : ns ≡ front ++ (n ∷ drop (length taken) ns)
  parts = sym whole ∙ ap (λ t. t ++ drop (length taken) ns) split ∙ append_assoc front (n ∷ []) (drop (length taken) ns)

  from_is : drop (length front) ns ≡ n ∷ drop (length taken) ns
  from_is = ap (drop (length front)) parts ∙ drop_at front (n ∷ drop (length taken) ns) (length front) refl

  pub whole-turn : front ++ drop (length front) ns ≡ ns
  whole-turn = ap (λ t. front ++ t) from_is ∙ sym parts

  pub below : length front < length ns
  below = omega (arith, ap length parts, length-append front (n ∷ drop (length taken) ns))

  from-ranged : ranged (n ∷ drop (length taken) ns) ≡ true
  from-ranged = rw from_is at (ranged-drop (length front) ns h)

  pub some-values : 0 < n
  some-values = omega (arith, (ranged-first n (drop (length taken) ns) from-ranged).0)

  pub value-small : (a : ℕ) → a % n ≤ 16
  value-small a = omega (arith, (ranged-first n (drop (length taken) ns) from-ranged).1, mod-lt a some-values)

  pub left-turn : (a v : ℕ) → a ≡ v / product (drop (length taken) ns) → a / n ≡ v / product (drop (length front) ns)
  left-turn a v e = rw (e, from_is) (div-div-eq-div-mul v (product (drop (length taken) ns)) n ∙ ap (λ q. v / q) (mul_comm (product (drop (length taken) ns)) n))

  pub digits-turn : (a v : ℕ) (xs zs : List ℕ) → length front < length xs → a ≡ v / product (drop (length taken) ns) → drop (length taken) xs ≡ digits (drop (length taken) ns) v ++ zs → drop (length front) (set xs (length front) (a % n)) ≡ digits (drop (length front) ns) v ++ zs
  unfolding digits
  digits-turn a v xs zs l e d = rw (drop-set xs (length front) (a % n) l, from_is, next, d, e)
