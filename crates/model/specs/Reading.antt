-- Reading a record from the left: the first fault counts.
use Rattle.std.specs.Prelude.{ℕ, ◌+◌, ◌-◌, ◌*◌, cond, List, [], ◌∷◌, ◌++◌, length, take, drop, Ok, Err, Result, nat_le}
use Rattle.instruction.specs.declared.faults.Fault.{Fault}
use Rattle.instruction.specs.declared.faults.Fault.TheVariants.{Ended, TooLong, Trailing}
use Rattle.instruction.specs.declared.sections.Section.{Section}
use Rattle.instruction.specs.declared.sections.Section.TheVariants.{Clocks, Start, Invariant, Transition, Urgent}
use Rattle.instruction.specs.Counts.{value_counts}
use Rattle.instruction.specs.Reader.{and_then}
use Rattle.formula.specs.Reader.{walk}
use Rattle.sizes.specs.Reading.{sizing}
use Rattle.model.specs.declared.layout.Span.{Span}
use Rattle.model.specs.declared.layout.Model.{Model}

abbrev pub span : ℕ → ℕ → Span
span at len = record { at = at; len = len }

module _ (ns : List ℕ) (n : ℕ) (end : ℕ) where
  -- a formula behind its count of two bytes, at the front of what is left; what stands behind it
  abbrev pub cut : Section → List ℕ → Result (Span × List ℕ) Fault
  cut s [] = Err (Ended s end)
  cut s (h ∷ []) = Err (Ended s end)
  cut s (h ∷ l ∷ bs) =
      cond (nat_le (h * 256 + l) 2000)
      (cond (nat_le (h * 256 + l) (length bs))
      (and_then (walk ns n s (end - length bs + (h * 256 + l)) 0 0 (take (h * 256 + l) bs)) (λ _. Ok (span (end - length bs) (h * 256 + l), drop (h * 256 + l) bs)))
      (Err (Ended s end)))
      (Err (TooLong s (end - length (h ∷ l ∷ bs))))

  -- k reset formulas behind those at the spans ps
  unfoldable pub resetting : ℕ → List Span → List ℕ → Result (List Span × List ℕ) Fault
  resetting ℕ.zero ps bs = Ok (ps, bs)
  resetting (ℕ.suc k) ps bs = and_then (cut Clocks bs) (λ c. resetting k (ps ++ (c.0 ∷ [])) c.1)

-- what is read of a record: sizes, and where each formula lies
pub record Layout : Type 0 where
  pub counts : List ℕ
  pub clocks : ℕ
  pub resets : List Span
  pub start : Span
  pub invariant : Span
  pub transition : Span
  pub urgent : Span

-- the record ends here
abbrev pub finish : Layout → ℕ → List ℕ → Result Layout Fault
finish y end [] = Ok y
finish y end (b ∷ bs) = Err (Trailing (end - length (b ∷ bs)))

-- sections 2 to 6, behind the number of clocks
abbrev pub sections : List ℕ → ℕ → ℕ → List ℕ → Result Layout Fault
sections ns n end bs =
    and_then (resetting ns n end n [] bs) (λ r.
    and_then (cut ns n end Start r.1) (λ a.
    and_then (cut ns n end Invariant a.1) (λ b.
    and_then (cut ns n end Transition b.1) (λ c.
    and_then (cut ns n end Urgent c.1) (λ d.
    finish (record { counts = ns; clocks = n; resets = r.0; start = a.0; invariant = b.0; transition = c.0; urgent = d.0 }) end d.1)))))

abbrev pub reading : List ℕ → Result Layout Fault
reading bs = and_then (sizing bs) (λ z. sections z.0 z.1 (length bs) (drop (2 + length z.0) bs))

-- what a model holds
abbrev pub layout : Model → Layout
layout m =
    record { counts = value_counts m.sizes; clocks = m.sizes.clocks; resets = take m.sizes.clocks m.resets; start = m.start; invariant = m.invariant; transition = m.transition; urgent = m.urgent }

abbrev pub layouts : Result Model Fault → Result Layout Fault
layouts (Ok m) = Ok (layout m)
layouts (Err x) = Err x
