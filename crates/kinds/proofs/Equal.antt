-- Kinds of time in which places that are the same are equal, and a trial gives a place where tests hold.
use Rattle.std.proofs.Common.{◌≡◌, ℕ, suc, ◌<◌, ◌≤◌, Bool, true, false, cond, ◌&&◌, ltb, List, [], ◌∷◌, length, Some, None, Option, sym, refl, ap, ap₂, ◌∙◌, subst, arith}
use Rattle.std.specs.Cmp.Lexicographic.{pointwise}
use Rattle.std.proofs.lemmas.Bool.{and_parts, and_from, false≢true, ltb-true}
use Rattle.kinds.specs.Time.{Meaning, Alike, Timed, Lawful}

-- a test of two lists, item by item by a test of two items
pub record Pairs (A : Type 0) (one : A → A → Bool) (all : List A → List A → Bool) : Type 0 where
  pub none : all [] [] ≡ true
  pub left : (y : A) (ys : List A) → all [] (y ∷ ys) ≡ false
  pub right : (x : A) (xs : List A) → all (x ∷ xs) [] ≡ false
  pub both : (x y : A) (xs ys : List A) → all (x ∷ xs) (y ∷ ys) ≡ (one x y && all xs ys)

module _ {A : Type 0} {one : A → A → Bool} {all : List A → List A → Bool} (k : Pairs A one all) where
  pub all-is : ((x y : A) → one x y ≡ true → x ≡ y) → (xs ys : List A) → all xs ys ≡ true → xs ≡ ys
  all-is is [] [] e = refl
  all-is is [] (y ∷ ys) e = absurd (false≢true (sym (k.left y ys) ∙ e))
  all-is is (x ∷ xs) [] e = absurd (false≢true (sym (k.right x xs) ∙ e))
  all-is is (x ∷ xs) (y ∷ ys) e =
      let b = and_parts (one x y) (all xs ys) (sym (k.both x y xs ys) ∙ e) in
      ap₂ (λ z zs. z ∷ zs) (is x y b.0) (all-is is xs ys b.1)

  pub all-itself : ((x : A) → one x x ≡ true) → (xs : List A) → all xs xs ≡ true
  all-itself itself [] = k.none
  all-itself itself (x ∷ xs) = k.both x x xs xs ∙ and_from (one x x) (all xs xs) (itself x) (all-itself itself xs)

  -- as by any other test that says the same of two items
  pub pointed : (f : A → A → Bool) → ((x y : A) → f x y ≡ one x y) → (xs ys : List A) → pointwise f xs ys ≡ all xs ys
  pointed f h [] [] = sym k.none
  pointed f h [] (y ∷ ys) = sym (k.left y ys)
  pointed f h (x ∷ xs) [] = sym (k.right x xs)
  pointed f h (x ∷ xs) (y ∷ ys) = ap₂ ◌&&◌ (h x y) (pointed f h xs ys) ∙ sym (k.both x y xs ys)

-- what a test gave is the place that was tested, and the test held
pub given : {P : Type 0} (Q : P → Type 0) (b : Bool) (p q : P) → cond b (Some p) None ≡ Some q → (b ≡ true → Q p) → Q q
given Q true p q h x = let e : p ≡ q = cc in subst Q e (x refl)
given Q false p q h x = absurd (let z : ◌≡◌ {A = ℕ} 0 1 = cc in omega arith)

-- likewise where a number has to be small
pub given-below : {P : Type 0} (Q : P → Type 0) (i n : ℕ) (b : Bool) (p q : P) → cond (ltb i n) (cond b (Some p) None) None ≡ Some q → (i < n → b ≡ true → Q p) → Q q
given-below Q i n b p q h x = go (ltb i n) refl h
  where
    go : (c : Bool) → ltb i n ≡ c → cond c (cond b (Some p) None) None ≡ Some q → Q q
    go true e h = given Q b p q h (x (ltb-true i n e))
    go false e h = absurd (let z : ◌≡◌ {A = ℕ} 0 1 = cc in omega arith)

-- a chain whose delays are in whole units
pub timed-whole : {P : Type 0} (k : Meaning P) (i : ℕ) (is : List ℕ) → k.parts i is ≡ 1 → length (k.delays i is) ≡ length is → Timed k i is
timed-whole k i is e l = record { some = omega arith; few = omega arith; each = l }

module _ {P : Type 0} (k : Meaning P) (equal : (p q : P) → k.same p q ≡ true → p ≡ q) (itself : (p : P) → k.same p p ≡ true) where
  alike : (o : Option P) → Alike k.same o o
  alike (Some p) = itself p
  alike None = tt

  -- what is left to show of such a kind, with at most 1,024 valuations and one step trial more than starts
  pub lawful : 1 ≤ k.starts → k.starts ≤ 1024 → k.trials ≡ suc k.starts → ((i : ℕ) (p : P) → k.start i ≡ Some p → k.valuation p < k.valuations) → ((p q : P) (i : ℕ) → k.valuation p < k.valuations → k.step p i ≡ Some q → k.valuation q < k.valuations) → ((i : ℕ) (is : List ℕ) → Timed k i is) → Lawful k
  lawful some few one started stepped timed =
      record {
        some = some;
        few_starts = omega arith;
        few_trials = omega arith;
        itself = itself;
        turned = λ p q h. subst (λ x. k.same x p ≡ true) (equal p q h) (itself p);
        joined = λ p q r g h. subst (λ x. k.same p x ≡ true) (equal q r h) g;
        values = λ p q h. ap k.valuation (equal p q h);
        slots = λ p q h. ap k.slot (equal p q h);
        steps = λ p q i h. subst (λ x. Alike k.same (k.step p i) (k.step x i)) (equal p q h) (alike (k.step p i));
        started = started;
        stepped = stepped;
        timed = λ i is p c. timed i is;
      }
