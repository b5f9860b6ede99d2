-- The delays of ticked time, filled in.
use Rattle.std.proofs.Common.{◌≡◌, ℕ, ◌≤◌, List, [], ◌∷◌, ◌++◌, map, reverse, length, sym, refl, ap, ◌∙◌, arith}
use Rattle.std.proofs.lemmas.List.{map-append, reverse-append, reverse-reverse}
use Rattle.kinds.specs.declared.steps.Step.{Step}
use Rattle.kinds.specs.Steps.{delay_of, redelayed, trials_of, Delayed}
use Rattle.tables.specs.Settings.{Setting}
use Rattle.ticked.specs.Trials.{units_of, in_units, ticked}

map-rev : (f : ℕ → ℕ) (xs : List ℕ) → map f (reverse xs) ≡ reverse (map f xs)
map-rev f [] = refl
map-rev f (x ∷ xs) =
    ap (map f) (reverse-append (x ∷ []) xs) ∙ map-append f (reverse xs) (x ∷ []) ∙ ap (λ l. l ++ (f x ∷ [])) (map-rev f xs)
    ∙ sym (reverse-append (f x ∷ []) (map f xs))

by-records : (ps : List Step) → redelayed ps (map units_of (map delay_of ps)) ≡ map in_units ps
unfolding redelayed
by-records [] = refl
by-records (p ∷ ps) = ap (λ l. in_units p ∷ l) (by-records ps)

turned : (ps : List Step) → reverse (map units_of (trials_of ps)) ≡ map units_of (map delay_of ps)
turned ps = ap reverse (map-rev units_of (map delay_of ps)) ∙ reverse-reverse (map units_of (map delay_of ps))

pub delayed : (K : Setting) (i : ℕ) (ps qs : List Step) → length ps ≤ 65534 → qs ≡ map in_units ps → Delayed (ticked K) i ps qs 1
delayed K i ps qs l e =
    record { parts = λ _. refl; filled = λ _. e ∙ sym (ap (redelayed ps) (turned ps) ∙ by-records ps); long = λ h. absurd (omega arith) }
