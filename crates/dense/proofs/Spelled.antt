-- Delays in step records, one record after the other.
use Rattle.std.proofs.Common.{◌≡◌, ℕ, suc, ◌+◌, ◌<◌, List, [], ◌∷◌, ◌++◌, map, reverse, length, get_or, take, drop, set, sym, refl, ap, ◌∙◌, arith}
use Rattle.std.proofs.lemmas.List.{reverse-append, reverse-reverse, length-reverse, length-take-le, length-append, length-drop, length_push, take-append-drop, take_at, drop_at, take_more, drop_more, map_push, append_assoc, get_or_at, set_at}
use Rattle.kinds.specs.declared.steps.Step.{Step}
use Rattle.kinds.specs.Steps.{delay_of, with_delay, redelayed, trials_of}

-- what is read past the last step
abbrev pub none : Step
none = record { kind = 0; valuation = 0; delay = 0 }

pub length-redelayed : (ps : List Step) (ds : List ℕ) → length (redelayed ps ds) ≡ length ps
unfolding redelayed
length-redelayed [] ds = refl
length-redelayed (p ∷ ps) [] = refl
length-redelayed (p ∷ ps) (d ∷ ds) = ap suc (length-redelayed ps ds)

pub delays-of : (ps : List Step) (ds : List ℕ) → length ps ≡ length ds → map delay_of (redelayed ps ds) ≡ ds
unfolding redelayed
delays-of [] [] h = refl
delays-of [] (d ∷ ds) h = absurd (omega arith)
delays-of (p ∷ ps) [] h = absurd (omega arith)
delays-of (p ∷ ps) (d ∷ ds) h = ap (λ l. d ∷ l) (delays-of ps ds (omega arith))

pub same-delays : (ps : List Step) → redelayed ps (map delay_of ps) ≡ ps
unfolding redelayed
same-delays [] = refl
same-delays (p ∷ ps) = ap (λ l. p ∷ l) (same-delays ps)

pub twice : (ps : List Step) (ds es : List ℕ) → length ps ≡ length ds → length ps ≡ length es → redelayed (redelayed ps ds) es ≡ redelayed ps es
unfolding redelayed
twice [] ds es h k = refl
twice (p ∷ ps) [] es h k = absurd (omega arith)
twice (p ∷ ps) (d ∷ ds) [] h k = absurd (omega arith)
twice (p ∷ ps) (d ∷ ds) (e ∷ es) h k = ap (λ l. with_delay p e ∷ l) (twice ps ds es (omega arith) (omega arith))

pub one_more : (ps : List Step) (p : Step) (ds : List ℕ) (d : ℕ) → length ps ≡ length ds → redelayed (ps ++ p ∷ []) (ds ++ d ∷ []) ≡ redelayed ps ds ++ with_delay p d ∷ []
unfolding redelayed
one_more [] p [] d h = refl
one_more [] p (e ∷ ds) d h = absurd (omega arith)
one_more (q ∷ ps) p [] d h = absurd (omega arith)
one_more (q ∷ ps) p (e ∷ ds) d h = ap (λ l. with_delay q e ∷ l) (one_more ps p ds d (omega arith))

reverse-more : (d : ℕ) (ds : List ℕ) → reverse (d ∷ ds) ≡ reverse ds ++ d ∷ []
reverse-more d ds = reverse-append (d ∷ []) ds

pub trials-more : (ps : List Step) (i : ℕ) → i < length ps → trials_of (take (i + 1) ps) ≡ (get_or ps i none).delay ∷ trials_of (take i ps)
trials-more ps i l =
    ap trials_of (take_more ps i none l) ∙ ap reverse (map_push delay_of (take i ps) (get_or ps i none)) ∙ reverse-append (map delay_of (take i ps)) ((get_or ps i none).delay ∷ [])

-- the steps before i with the delays ds, the newest first, and the others as they were
abbrev pub filled : ℕ → List Step → List ℕ → List Step
filled i ps ds = redelayed (take i ps) (reverse ds) ++ drop i ps

module _ (ps : List Step) (i : ℕ) (ds : List ℕ) (less : i < length ps) (each : length ds ≡ i) where
  front : length (take i ps) ≡ length (reverse ds)
  front = omega (arith, length-take-le i ps, length-reverse ds)

  front-is : length (redelayed (take i ps) (reverse ds)) ≡ i
  front-is = omega (arith, length-take-le i ps, length-redelayed (take i ps) (reverse ds))

  abbrev here : Step
  here = get_or ps i none

  parted : filled i ps ds ≡ redelayed (take i ps) (reverse ds) ++ here ∷ drop (i + 1) ps
  parted = ap (λ l. redelayed (take i ps) (reverse ds) ++ l) (drop_more ps i none less)

  pub here-is : get_or (filled i ps ds) i none ≡ here
  here-is = ap (λ l. get_or l i none) parted ∙ get_or_at (redelayed (take i ps) (reverse ds)) here (drop (i + 1) ps) none i front-is

  before-is : take i (filled i ps ds) ≡ redelayed (take i ps) (reverse ds)
  before-is = take_at (redelayed (take i ps) (reverse ds)) (drop i ps) i front-is

  pub trials-are : trials_of (take i (filled i ps ds)) ≡ ds
  trials-are = ap trials_of before-is ∙ ap reverse (delays-of (take i ps) (reverse ds) front) ∙ reverse-reverse ds

  spelled : (w : ℕ) → redelayed (take (i + 1) ps) (reverse (w ∷ ds)) ≡ redelayed (take i ps) (reverse ds) ++ with_delay here w ∷ []
  spelled w = rw (take_more ps i none less, reverse-more w ds) (one_more (take i ps) here (reverse ds) w front)

  -- step i gets its delay
  pub next-filled : (xs : List Step) (w : ℕ) → xs ≡ filled i ps ds → set xs i (with_delay (get_or xs i none) w) ≡ filled (i + 1) ps (w ∷ ds)
  next-filled xs w e =
      ap (λ l. set l i (with_delay (get_or l i none) w)) e ∙ ap (λ p. set (filled i ps ds) i (with_delay p w)) here-is ∙ ap (λ l. set l i (with_delay here w)) parted
      ∙ set_at (redelayed (take i ps) (reverse ds)) here (drop (i + 1) ps) (with_delay here w) i front-is
      ∙ sym (ap (λ l. l ++ drop (i + 1) ps) (spelled w) ∙ append_assoc (redelayed (take i ps) (reverse ds)) (with_delay here w ∷ []) (drop (i + 1) ps))

  pub length-filled : length (filled i ps ds) ≡ length ps
  length-filled = length-append (redelayed (take i ps) (reverse ds)) (drop i ps) ∙ omega (arith, front-is, length-drop i ps)

  rest-is : drop (i + 1) (filled i ps ds) ≡ drop (i + 1) ps
  rest-is =
      let long : length (redelayed (take i ps) (reverse ds) ++ here ∷ []) ≡ i + 1 = omega (arith, length_push (redelayed (take i ps) (reverse ds)) here, front-is) in
      ap (drop (i + 1)) (parted ∙ sym (append_assoc (redelayed (take i ps) (reverse ds)) (here ∷ []) (drop (i + 1) ps)))
      ∙ drop_at (redelayed (take i ps) (reverse ds) ++ here ∷ []) (drop (i + 1) ps) (i + 1) long

-- of records that were given delays before, those count no more
pub refilled : (ps : List Step) (i : ℕ) (ds es : List ℕ) (w : ℕ) → i < length ps → length ds ≡ i → length es ≡ i → filled (i + 1) (filled i ps ds) (w ∷ es) ≡ filled (i + 1) ps (w ∷ es)
refilled ps i ds es w less each other =
    let long : i < length (filled i ps ds) = omega (arith, length-filled ps i ds less each) in
    let same : redelayed (take i (filled i ps ds)) (reverse es) ≡ redelayed (take i ps) (reverse es) =
    ap (λ l. redelayed l (reverse es)) (before-is ps i ds less each) ∙ twice (take i ps) (reverse ds) (reverse es) (front ps i ds less each) (front ps i es less other) in
    let early : redelayed (take (i + 1) (filled i ps ds)) (reverse (w ∷ es)) ≡ redelayed (take (i + 1) ps) (reverse (w ∷ es)) =
    spelled (filled i ps ds) i es long other w ∙ ap (λ l. l ++ with_delay (get_or (filled i ps ds) i none) w ∷ []) same
    ∙ ap (λ p. redelayed (take i ps) (reverse es) ++ with_delay p w ∷ []) (here-is ps i ds less each)
    ∙ sym (spelled ps i es less other w) in
    ap (λ l. l ++ drop (i + 1) (filled i ps ds)) early ∙ ap (λ l. redelayed (take (i + 1) ps) (reverse (w ∷ es)) ++ l) (rest-is ps i ds less each)

-- records as they are
pub as-they-are : (ps : List Step) (i : ℕ) → ps ≡ filled i ps (trials_of (take i ps))
as-they-are ps i =
    sym (ap (λ l. redelayed (take i ps) l ++ drop i ps) (reverse-reverse (map delay_of (take i ps))) ∙ ap (λ l. l ++ drop i ps) (same-delays (take i ps)) ∙ take-append-drop i ps)
