-- Sizes: what is accepted, what is refused, and that nothing else is.
use Rattle.std.proofs.Common.{◌≡◌, ℕ, ◌+◌, ◌-◌, ◌*◌, ◌<◌, ◌≤◌, Bool, true, false, cond, ◌&&◌, leb, List, [], ◌∷◌, ◌++◌, length, drop, Ok, Err, Result, sym, refl, ap, ◌∙◌, subst, ⊎_elim, append_assoc, append-nil, arith}
use Rattle.std.proofs.lemmas.List.{drop_at, length-append}
use Rattle.std.proofs.lemmas.Bool.{leb-true, leb-false, le-leb, and_parts, and_from, both_ways}
use Rattle.instruction.specs.declared.faults.Fault.{Fault}
use Rattle.instruction.specs.declared.faults.Fault.TheVariants.{Ended, TooManyVariables, ValueCount, Product, TooManyClocks}
use Rattle.instruction.specs.declared.faults.Refusal.{Refusal}
use Rattle.instruction.specs.declared.sections.Section.TheVariants.{Variables, Clocks}
use Rattle.instruction.specs.Faults.{told, refusal}
use Rattle.instruction.specs.Sizes.{product}
use Rattle.instruction.proofs.Inverse.{tested, and_then-ok, never-ok}
use Rattle.instruction.proofs.Broken.{untested, and_then-err, never, fault-is}
use Rattle.sizes.specs.Promise.{Countable, Sized, Measures}
use Rattle.sizes.specs.Reading.{counted, counting, variables, clock_count, sizing}
use Rattle.sizes.specs.Promise.{Unsized, no_variables, many_variables, no_value_count, bad_value_count, many_valuations, no_clock_count, many_clocks}
use Rattle.sizes.proofs.Counting.{counted-was, more-countable, none-countable, counting-was, counting-through, product-push}

-- a number of values that was not taken in
data Untaken (at p k : ℕ) : Refusal → Type 0 where
  bad : ((2 ≤ k) × (k ≤ 16) → ⊥) → Untaken at p k (told 3 Variables at)
  many : 2 ≤ k → k ≤ 16 → 1024 < p * k → Untaken at p k (told 4 Variables at)

counted-refused : (at p k : ℕ) (x : Fault) → counted at p k ≡ Err x → Untaken at p k (refusal x)
counted-refused at p k x = go (leb 2 k && leb k 16) refl
  where
    inner : (c : Bool) → leb (p * k) 1024 ≡ c → (leb 2 k && leb k 16) ≡ true → cond c (Ok (p * k)) (Err (Product at)) ≡ Err x → Untaken at p k (refusal x)
    inner true t r e = never (p * k) x _ e
    inner false t r e =
        let z = and_parts (leb 2 k) (leb k 16) r in
        fault-is (Untaken at p k) (Product at) x e (many (leb-true 2 k z.0) (leb-true k 16 z.1) (leb-false (p * k) 1024 t))

    go : (b : Bool) → (leb 2 k && leb k 16) ≡ b → cond b (cond (leb (p * k) 1024) (Ok (p * k)) (Err (Product at))) (Err (ValueCount at)) ≡ Err x → Untaken at p k (refusal x)
    go true r e = inner (leb (p * k) 1024) refl r e
    go false r e =
        fault-is (Untaken at p k) (ValueCount at) x e (bad (λ h. both_ways (leb 2 k && leb k 16) r (and_from (leb 2 k) (leb k 16) (le-leb 2 k h.0) (le-leb k 16 h.1))))

-- n numbers of values behind those of ns that were not taken in
data Miscounted (end n : ℕ) (ns bs : List ℕ) : Refusal → Type 0 where
  missing : length bs < n → Countable (ns ++ bs) → Miscounted end n ns bs (told 1 Variables end)
  wrong : (added : List ℕ) (k : ℕ) (rest : List ℕ) (r : Refusal) → bs ≡ added ++ (k ∷ rest) → length added < n → Countable (ns ++ added) → Untaken (end - length (k ∷ rest)) (product (ns ++ added)) k r → Miscounted end n ns bs r

module _ (end : ℕ) where
  one_more : (n k : ℕ) (ns bs : List ℕ) {r : Refusal} → Miscounted end n (ns ++ (k ∷ [])) bs r → Miscounted end (ℕ.suc n) ns (k ∷ bs) r
  one_more n k ns bs (missing l h) = missing (omega arith) (subst Countable (append_assoc ns (k ∷ []) bs) h)
  one_more n k ns bs (wrong added j rest r b l h u) =
      let same : (ns ++ (k ∷ [])) ++ added ≡ ns ++ (k ∷ added) = append_assoc ns (k ∷ []) added in
      wrong (k ∷ added) j rest r (ap (λ t. k ∷ t) b) (omega arith) (subst Countable same h) (subst (λ t. Untaken (end - length (j ∷ rest)) (product t) j r) same u)

  counting-refused : (n p : ℕ) (ns bs : List ℕ) (x : Fault) → Countable ns → p ≡ product ns → counting end n ns p bs ≡ Err x → Miscounted end n ns bs (refusal x)
  unfolding counting
  counting-refused ℕ.zero p ns bs x h e c = never ns x _ c
  counting-refused (ℕ.suc n) p ns [] x h e c =
      fault-is (Miscounted end (ℕ.suc n) ns []) (Ended Variables end) x c (missing (omega arith) (subst Countable (sym (append-nil ns)) h))
  counting-refused (ℕ.suc n) p ns (k ∷ bs) x h e c =
      ⊎_elim
      (λ f. let u = counted-refused (end - length (k ∷ bs)) p k x f in
      let same : p ≡ product (ns ++ []) = e ∙ ap product (sym (append-nil ns)) in
      wrong [] k bs (refusal x) refl (omega arith) (subst Countable (sym (append-nil ns)) h) (subst (λ t. Untaken (end - length (k ∷ bs)) t k (refusal x)) same u))
      (λ y. let m = more-countable p k y.0 ns h e (counted-was _ p k y.0 y.1) in
      one_more n k ns bs (counting-refused n y.0 (ns ++ (k ∷ [])) bs x m.0 m.1 y.2))
      (and_then-err (counted (end - length (k ∷ bs)) p k) _ x c)

-- section 1 that was accepted
pub record Declared (bs ns : List ℕ) : Type 0 where
  pub rest : List ℕ
  pub few : length ns ≤ 8
  pub countable : Countable ns
  pub bytes : bs ≡ length ns ∷ (ns ++ rest)

pub variables-was : (bs ns : List ℕ) → variables bs ≡ Ok ns → Declared bs ns
variables-was [] ns e = never-ok _ ns _ e
variables-was (n ∷ bs) ns e =
    let x = tested (leb n 8) _ TooManyVariables ns e in
    let y = counting-was (length (n ∷ bs)) n 1 [] bs ns none-countable refl x.1 in
    let size : length ns ≡ n = ap length y.all ∙ y.number in
    record { rest = y.rest; few = omega (arith, leb-true n 8 x.0); countable = y.countable; bytes = ap (λ k. k ∷ bs) (sym size) ∙ ap (λ l. length ns ∷ l) (y.bytes ∙ ap (λ l. l ++ y.rest) (sym y.all)) }

variables-refused : (bs : List ℕ) (x : Fault) → variables bs ≡ Err x → Unsized bs (refusal x)
variables-refused [] x e = fault-is (Unsized []) (Ended Variables 0) x e (no_variables refl)
variables-refused (n ∷ bs) x e = go (leb n 8) refl e
  where
    untaken : (added : List ℕ) (k : ℕ) (rest : List ℕ) {r : Refusal} → bs ≡ added ++ (k ∷ rest) → n ≤ 8 → Countable added → length added < n → Untaken (length (n ∷ bs) - length (k ∷ rest)) (product added) k r → Unsized (n ∷ bs) r
    untaken added k rest b few h l (bad o) =
        let at : length (n ∷ bs) - length (k ∷ rest) ≡ 1 + length added = omega (arith, simp length-append at (ap length b)) in
        subst (λ p. Unsized (n ∷ bs) (told 3 Variables p)) (sym at) (bad_value_count n added k rest (ap (λ t. n ∷ t) b) few h l o)
    untaken added k rest b few h l (many low high o) =
        let at : length (n ∷ bs) - length (k ∷ rest) ≡ 1 + length added = omega (arith, simp length-append at (ap length b)) in
        subst (λ p. Unsized (n ∷ bs) (told 4 Variables p)) (sym at) (many_valuations n added k rest (ap (λ t. n ∷ t) b) few h l low high (omega (arith, product-push added k)))

    from : {r : Refusal} → n ≤ 8 → Miscounted (length (n ∷ bs)) n [] bs r → Unsized (n ∷ bs) r
    from few (missing l h) = no_value_count n bs refl few h l
    from few (wrong added k rest r b l h u) = untaken added k rest b few h l u

    go : (b : Bool) → leb n 8 ≡ b → cond b (counting (length (n ∷ bs)) n [] 1 bs) (Err TooManyVariables) ≡ Err x → Unsized (n ∷ bs) (refusal x)
    go true t f = from (leb-true n 8 t) (counting-refused (length (n ∷ bs)) n 1 [] bs x none-countable refl f)
    go false t f = fault-is (Unsized (n ∷ bs)) TooManyVariables x f (many_variables n bs refl (leb-false n 8 t))

clocks-was : (end : ℕ) (bs : List ℕ) (n : ℕ) → clock_count end bs ≡ Ok n → (rest : List ℕ) × (bs ≡ n ∷ rest) × (n ≤ 4)
clocks-was end [] n e = never-ok _ n _ e
clocks-was end (m ∷ bs) n e =
    let x = tested (leb m 4) (Ok m) (TooManyClocks (end - length (m ∷ bs))) n e in
    let same : m ≡ n = cc x.1 in
    (bs, ap (λ k. k ∷ bs) same, omega (arith, leb-true m 4 x.0))

pub behind-front : (ns rest : List ℕ) (n : ℕ) → drop (2 + length ns) (length ns ∷ (ns ++ (n ∷ rest))) ≡ rest
behind-front ns rest n =
    let two : 2 + length ns ≡ length (length ns ∷ (ns ++ (n ∷ []))) = omega (arith, length-append ns (n ∷ [])) in
    ap (λ l. drop (2 + length ns) (length ns ∷ l)) (sym (append_assoc ns (n ∷ []) rest))
    ∙ drop_at (length ns ∷ (ns ++ (n ∷ []))) rest (2 + length ns) (sym two)

pub front-drop : (ns rest : List ℕ) → drop (1 + length ns) (length ns ∷ (ns ++ rest)) ≡ rest
front-drop ns rest = drop_at (length ns ∷ ns) rest (1 + length ns) (omega arith)

pub sizing-was : (bs ns : List ℕ) (n : ℕ) → sizing bs ≡ Ok (ns, n) → Sized bs ns n
sizing-was bs ns n e =
    let x = and_then-ok (variables bs) _ (ns, n) e in
    let y = and_then-ok (clock_count (length bs) (drop (1 + length x.0) bs)) _ (ns, n) x.2 in
    let pair : ◌≡◌ {A = List ℕ × ℕ} (x.0, y.0) (ns, n) = cc y.2 in
    let z : x.0 ≡ ns = ap (λ p. p.0) pair in
    let w : y.0 ≡ n = ap (λ p. p.1) pair in
    let d = subst (Declared bs) z (variables-was bs x.0 x.1) in
    let c = clocks-was (length bs) (drop (1 + length ns) bs) n (subst (λ k. clock_count (length bs) (drop (1 + length k) bs) ≡ Ok n) z (y.1 ∙ ap Ok w)) in
    let r : d.rest ≡ n ∷ c.0 = sym (ap (drop (1 + length ns)) d.bytes ∙ front-drop ns d.rest) ∙ c.1 in
    let b : bs ≡ length ns ∷ (ns ++ (n ∷ c.0)) = d.bytes ∙ ap (λ t. length ns ∷ (ns ++ t)) r in
    record { rest = c.0; few = d.few; countable = d.countable; clocks = c.2; bytes = b }

pub sizing-through : (ns rest : List ℕ) (n : ℕ) → length ns ≤ 8 → Countable ns → n ≤ 4 → sizing (length ns ∷ (ns ++ (n ∷ rest))) ≡ Ok (ns, n)
sizing-through ns rest n few h c =
    let e = counting-through (length (length ns ∷ (ns ++ (n ∷ rest)))) 1 [] ns (n ∷ rest) h refl in
    let d : drop (1 + length ns) (length ns ∷ (ns ++ (n ∷ rest))) ≡ n ∷ rest = front-drop ns (n ∷ rest) in
    simp (le-leb (length ns) 8 few, e, d, le-leb n 4 c)

pub sizing-refused : (bs : List ℕ) (x : Fault) → sizing bs ≡ Err x → Unsized bs (refusal x)
sizing-refused bs x e =
    ⊎_elim
    (λ f. variables-refused bs x f)
    (λ y. ⊎_elim
    (λ f. clocks y.0 (variables-was bs y.0 y.1) f)
    (λ z. never _ x _ z.2)
    (and_then-err (clock_count (length bs) (drop (1 + length y.0) bs)) _ x y.2))
    (and_then-err (variables bs) _ x e)
  where
    at_rest : (ns rest : List ℕ) → bs ≡ length ns ∷ (ns ++ rest) → length ns ≤ 8 → Countable ns → clock_count (length bs) rest ≡ Err x → Unsized bs (refusal x)
    at_rest ns [] b few h f = fault-is (Unsized bs) (Ended Clocks (length bs)) x f (no_clock_count ns (b ∙ ap (λ t. length ns ∷ t) (append-nil ns)) few h)
    at_rest ns (n ∷ rest) b few h f =
        let u = untested (leb n 4) n (TooManyClocks (length bs - length (n ∷ rest))) x f in
        let at : length bs - length (n ∷ rest) ≡ 1 + length ns = omega (arith, simp length-append at (ap length b)) in
        subst (λ y. Unsized bs (refusal y)) u.1 (subst (λ p. Unsized bs (told 5 Clocks p)) (sym at) (many_clocks ns n rest b few h (leb-false n 4 u.0)))

    clocks : (ns : List ℕ) → Declared bs ns → clock_count (length bs) (drop (1 + length ns) bs) ≡ Err x → Unsized bs (refusal x)
    clocks ns d f =
        let r : drop (1 + length ns) bs ≡ d.rest = ap (drop (1 + length ns)) d.bytes ∙ front-drop ns d.rest in
        at_rest ns d.rest d.bytes d.few d.countable (subst (λ t. clock_count (length bs) t ≡ Err x) r f)

-- the same as the code cuts the bytes
module _ (bs ns left : List ℕ) (given : Ok ns ≡ variables bs) (cut : left ≡ drop (length ns + 1) bs) where
  same_left : left ≡ drop (1 + length ns) bs
  same_left = let e : length ns + 1 ≡ 1 + length ns = omega arith in cut ∙ ap (λ k. drop k bs) e

  pub sizes-by : (n : ℕ) → Ok n ≡ clock_count (length bs) left → Ok (ns, n) ≡ sizing bs
  sizes-by n e =
      let f : clock_count (length bs) (drop (1 + length ns) bs) ≡ Ok n = ap (clock_count (length bs)) (sym same_left) ∙ sym e in
      simp (sym given, f)

  pub refused-by : (x : Fault) → Err x ≡ clock_count (length bs) left → Err x ≡ sizing bs
  refused-by x e =
      let f : clock_count (length bs) (drop (1 + length ns) bs) ≡ Err x = ap (clock_count (length bs)) (sym same_left) ∙ sym e in
      simp (sym given, f)

pub undeclared-by : (bs : List ℕ) (x : Fault) → Err x ≡ variables bs → Err x ≡ sizing bs
undeclared-by bs x e = simp (sym e)

-- all laws from the answer
pub measured : (bs : List ℕ) (r : Result (List ℕ × ℕ) Fault) → r ≡ sizing bs → Measures bs r
measured bs r e =
    record {
      answer = e;
      accepts = λ ns n z. e ∙ ap sizing z.bytes ∙ sizing-through ns z.rest n z.few z.countable z.clocks;
      accepted = λ ns n h. sizing-was bs ns n (sym e ∙ h);
      refused = λ x h. sizing-refused bs x (sym e ∙ h);
    }
