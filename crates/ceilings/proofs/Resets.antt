-- The largest of the heights of the reset formulas is the peak of their places.
use Rattle.std.proofs.Common.{◌≡◌, ℕ, ◌+◌, ◌<◌, Bool, true, false, max, cond, ltb, List, [], ◌∷◌, get_or, take, drop, map, Option, Some, None, refl, ap, arith, MatchOption}
use Rattle.std.proofs.lemmas.List.{get_or-take, drop_all, length-take}
use Rattle.std.proofs.lemmas.List.Folds.{max_of_map}
use Rattle.std.proofs.lemmas.Bool.{lt-ltb}
use Rattle.std.specs.List.{fold, reduce, range_with_len}
use Rattle.std.specs.Option.{unwrap_or}
use Rattle.std.specs.Ordering.{nat_cmp, max_by_ordering}
use Rattle.formula.specs.Heights.{scanned}
use Rattle.model.specs.declared.layout.Span.{Span}
use Rattle.model.specs.Reading.{Layout, span}
use Rattle.ceilings.specs.Ceilings.{height_at, peak}

module _ (bs : List ℕ) (y : Layout) (c : ℕ) where
  -- past the end there is the empty span, in which nothing stands
  next : (ps : List Span) (i : ℕ) → peak bs y c (drop i ps) ≡ max (height_at bs y c (get_or ps i (span 0 0))) (peak bs y c (drop (ℕ.suc i) ps))
  unfolding peak scanned
  next [] ℕ.zero = refl
  next [] (ℕ.suc i) = refl
  next (p ∷ ps) ℕ.zero = refl
  next (p ∷ ps) (ℕ.suc i) = next ps i

  chosen : (b : Bool) (p : Span) (r : ℕ) → MatchOption (cond b (Some p) None) (r ≡ 0) (λ q. r ≡ height_at bs y c q) → r ≡ cond b (height_at bs y c p) 0
  chosen true p r e = e
  chosen false p r e = e

  module _ (resets : List Span) (n : ℕ) where
    -- the height of a reset formula by its clock
    abbrev pub height_by : ℕ → ℕ
    height_by i = cond (ltb i n) (height_at bs y c (get_or resets i (span 0 0))) 0

    pub height_is : (i r : ℕ) → MatchOption (cond (ltb i n) (Some (get_or resets i (span 0 0))) None) (r ≡ 0) (λ p. r ≡ height_at bs y c p) → r ≡ height_by i
    height_is i r e = chosen (ltb i n) (get_or resets i (span 0 0)) r e

    from_clock : (k i h : ℕ) → i + k ≡ n → fold (λ x j. max x (height_by j)) h (range_with_len i k) ≡ max h (peak bs y c (drop i (take n resets)))
    unfolding peak
    from_clock ℕ.zero i h e =
        let none : drop i (take n resets) ≡ [] = drop_all i (take n resets) (simp length-take (omega arith)) in
        rw none (omega arith)
    from_clock (ℕ.suc k) i h e =
        let below : i < n = omega arith in
        let here : height_by i ≡ height_at bs y c (get_or (take n resets) i (span 0 0)) = rw get_or-take (simp (lt-ltb i n below)) in
        let split = next (take n resets) i in
        let more : ℕ.suc i ≡ i + 1 = omega arith in
        let rest : fold (λ x j. max x (height_by j)) h (range_with_len i (ℕ.suc k)) ≡ max (max h (height_by i)) (peak bs y c (drop (i + 1) (take n resets))) = from_clock k (i + 1) (max h (height_by i)) (omega arith) in
        omega (arith, rest, here, split, ap (λ j. peak bs y c (drop j (take n resets))) more)

    pub peak-is : (r : Option ℕ) (h : ℕ) → h ≡ unwrap_or r 0 → r ≡ reduce (λ p z. max_by_ordering (nat_cmp p z) p z) (map height_by (range_with_len 0 n)) → h ≡ peak bs y c (take n resets)
    peak-is r h e f =
        let whole = from_clock n 0 0 (omega arith) in
        omega (arith, e, ap (λ o. unwrap_or o 0) f, max_of_map height_by (range_with_len 0 n), whole)
