-- One turn of the loop over the numbers of values, and its end.
use Rattle.std.proofs.Common.{◌≡◌, ℕ, ◌+◌, ◌-◌, ◌<◌, ◌≤◌, min, List, [], ◌∷◌, ◌++◌, length, get_or, take, drop, Ok, Err, sym, refl, ap, ◌∙◌, arith, length-take, length-drop}
use Rattle.std.proofs.lemmas.List.{take_more, take_min, take_all, take_rest, drop_more, drop_all, get_or-take}
use Rattle.std.proofs.lemmas.Bool.{le-leb}
use Rattle.instruction.specs.declared.faults.Fault.{Fault}
use Rattle.instruction.specs.declared.faults.Fault.TheVariants.{Ended}
use Rattle.instruction.specs.declared.sections.Section.TheVariants.{Variables}
use Rattle.sizes.specs.Reading.{counted, counting, variables}
use Rattle.sizes.proofs.Counting.{product_small}

module _ (end m p k : ℕ) (ns bs : List ℕ) where
  one-more : (q : ℕ) → counted (end - length (k ∷ bs)) p k ≡ Ok q → counting end (ℕ.suc m) ns p (k ∷ bs) ≡ counting end m (ns ++ (k ∷ [])) q bs
  unfolding counting
  one-more q e = simp e

  one-refused : (x : Fault) → counted (end - length (k ∷ bs)) p k ≡ Err x → counting end (ℕ.suc m) ns p (k ∷ bs) ≡ Err x
  unfolding counting
  one-refused x e = simp e

missing : (end m p : ℕ) (ns : List ℕ) → counting end (ℕ.suc m) ns p [] ≡ Err (Ended Variables end)
unfolding counting
missing end m p ns = refl

none-left : (end p : ℕ) (ns bs : List ℕ) → counting end 0 ns p bs ≡ Ok ns
unfolding counting
none-left end p ns bs = refl

-- ls are the numbers of values that the record has, n are declared
module _ (bs ls : List ℕ) (n : ℕ) (is : ls ≡ take n (drop 1 bs)) (i p : ℕ) where
  abbrev all : List ℕ
  all = drop 1 bs

  long : length ls ≡ min n (length all)
  long = ap length is ∙ length-take n all

  module _ (more : i < length ls) where
    abbrev k : ℕ
    k = get_or ls i 0

    within : (i < n) × (i < length all)
    within = (omega (arith, long), omega (arith, long))

    left : drop i all ≡ k ∷ drop (i + 1) all
    left = drop_more all i 0 within.1 ∙ ap (λ x. x ∷ drop (i + 1) all) (sym (ap (λ l. get_or l i 0) is ∙ get_or-take n all i 0 within.0))

    at : length bs - length (k ∷ drop (i + 1) all) ≡ i + 1
    at = omega (arith, within.1, length-drop (i + 1) all, length-drop 1 bs)

    some : n - i ≡ ℕ.suc (n - (i + 1))
    some = omega (arith, within.0)

    pub count-again : (q : ℕ) → counted (i + 1) p k ≡ Ok q → (q ≤ 1024) × (counting (length bs) (n - i) (take i ls) p (drop i all) ≡ counting (length bs) (n - (i + 1)) (take (i + 1) ls) q (drop (i + 1) all))
    count-again q e = (product_small (i + 1) p k q e, rw (left, some, take_more ls i 0 more) (one-more (length bs) (n - (i + 1)) p k (take i ls) (drop (i + 1) all) q (ap (λ a. counted a p k) at ∙ e)))

    pub count-refused : (x : Fault) → counted (i + 1) p k ≡ Err x → counting (length bs) (n - i) (take i ls) p (drop i all) ≡ Err x
    count-refused x e = rw (left, some) (one-refused (length bs) (n - (i + 1)) p k (take i ls) (drop (i + 1) all) x (ap (λ a. counted a p k) at ∙ e))

  module _ (ends : length ls ≤ i) (inside : i ≤ length ls) where
    pub count-missing : length ls < n → counting (length bs) (n - i) (take i ls) p (drop i all) ≡ Err (Ended Variables (length bs))
    count-missing less =
        let some : n - i ≡ ℕ.suc (n - (i + 1)) = omega arith in
        rw (drop_all i all (omega (arith, long)), some) (missing (length bs) (n - (i + 1)) p (take i ls))

    pub count-done : n ≤ length ls → counting (length bs) (n - i) (take i ls) p (drop i all) ≡ Ok ls
    count-done enough =
        let none : n - i ≡ 0 = omega arith in
        rw (none, take_all i ls ends) (none-left (length bs) p ls (drop i all))

module _ (bs : List ℕ) (n m : ℕ) (cut : m ≡ min (length (take (length bs - 1) (drop 1 bs))) n) where
  pub listed-is : take m (take (length bs - 1) (drop 1 bs)) ≡ take n (drop 1 bs)
  listed-is = let few : m ≡ min n (length (drop 1 bs)) = omega (arith, rw take_rest at cut) in rw (take_rest, few) (take_min n (drop 1 bs))

-- section 1, once its first byte is there and in range
pub variables-are : (bs : List ℕ) → 1 ≤ length bs → get_or bs 0 0 ≤ 8 → variables bs ≡ counting (length bs) (get_or bs 0 0) [] 1 (drop 1 bs)
variables-are [] some few = absurd (omega arith)
variables-are (n ∷ bs) some few = simp (le-leb n 8 few)
