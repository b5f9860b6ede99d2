-- One turn of the loop over the reset formulas.
use Rattle.std.proofs.Common.{◌≡◌, ℕ, ◌+◌, ◌-◌, ◌<◌, List, [], ◌∷◌, ◌++◌, length, take, set, Ok, Err, sym, refl, ap, ◌∙◌, subst, arith}
use Rattle.std.proofs.lemmas.List.{take_more_set}
use Rattle.instruction.specs.declared.faults.Fault.{Fault}
use Rattle.instruction.specs.declared.sections.Section.TheVariants.{Clocks}
use Rattle.model.specs.declared.layout.Span.{Span}
use Rattle.model.specs.Reading.{cut, resetting}

module _ (ns : List ℕ) (n end : ℕ) where
  pub reset-more : (k : ℕ) (ps : List Span) (p : Span) (bs rest : List ℕ) → 0 < k → cut ns n end Clocks bs ≡ Ok (p, rest) → resetting ns n end k ps bs ≡ resetting ns n end (k - 1) (ps ++ (p ∷ [])) rest
  unfolding resetting
  reset-more ℕ.zero ps p bs rest some e = absurd (omega arith)
  reset-more (ℕ.suc k) ps p bs rest some e =
      let back : ℕ.suc k - 1 ≡ k = omega arith in
      simp (e, back)

  -- the same as the loop counts
  pub reset-again : (i : ℕ) (spans : List Span) (p : Span) (bs rest : List ℕ) → i < n → i < length spans → cut ns n end Clocks bs ≡ Ok (p, rest) → resetting ns n end (n - i) (take i spans) bs ≡ resetting ns n end (n - (i + 1)) (take (i + 1) (set spans i p)) rest
  reset-again i spans p bs rest below inside e =
      let less : n - i - 1 ≡ n - (i + 1) = omega arith in
      reset-more (n - i) (take i spans) p bs rest (omega arith) e
      ∙ ap (λ m. resetting ns n end m (take i spans ++ (p ∷ [])) rest) less
      ∙ ap (λ ps. resetting ns n end (n - (i + 1)) ps rest) (sym (take_more_set spans i p inside))

  pub reset-refused : (k : ℕ) (ps : List Span) (x : Fault) (bs : List ℕ) → 0 < k → cut ns n end Clocks bs ≡ Err x → resetting ns n end k ps bs ≡ Err x
  unfolding resetting
  reset-refused ℕ.zero ps x bs some e = absurd (omega arith)
  reset-refused (ℕ.suc k) ps x bs some e = simp e

  pub reset-done : (k : ℕ) (ps : List Span) (bs : List ℕ) → k ≡ 0 → resetting ns n end k ps bs ≡ Ok (ps, bs)
  unfolding resetting
  reset-done k ps bs e = subst (λ x. resetting ns n end x ps bs ≡ Ok (ps, bs)) (sym e) refl
