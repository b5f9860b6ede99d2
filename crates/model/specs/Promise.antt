-- What is promised of an answer to a record.
use Rattle.std.specs.Prelude.{◌≡◌, ℕ, ◌+◌, List, [], ◌∷◌, length, take, drop, Ok, Err, Result}
use Rattle.instruction.specs.declared.faults.Fault.{Fault}
use Rattle.instruction.specs.Faults.{refusal}
use Rattle.formula.specs.Formulas.{Formula, written}
use Rattle.model.specs.declared.layout.Span.{Span}
use Rattle.model.specs.Systems.{System, Sound, Records}
use Rattle.model.specs.Reading.{Layout, span, reading}
use Rattle.model.specs.Faults.{Broken}

-- where formulas in a row lie, the first behind a count at the position at; the position past them
unfoldable pub spans : ℕ → List Formula → List Span
spans at [] = []
spans at (f ∷ fs) = span (at + 2) (length (written f)) ∷ spans (at + 2 + length (written f)) fs

unfoldable pub past : ℕ → List Formula → ℕ
past at [] = at
past at (f ∷ fs) = past (at + 2 + length (written f)) fs

-- where the formulas of a system lie in its record
abbrev pub laid : System → Layout
laid m =
    let a : ℕ = past (2 + length m.counts) m.resets in
    let b : ℕ = a + 2 + length (written m.start) in
    let c : ℕ = b + 2 + length (written m.invariant) in
    let d : ℕ = c + 2 + length (written m.transition) in
    record { counts = m.counts; clocks = length m.resets; resets = spans (2 + length m.counts) m.resets; start = span (a + 2) (length (written m.start)); invariant = span (b + 2) (length (written m.invariant)); transition = span (c + 2) (length (written m.transition)); urgent = span (d + 2) (length (written m.urgent)) }

-- the part of the record at a span is the formula, byte for byte
abbrev pub Holds : List ℕ → Span → Formula → Type 0
Holds bs p f = take p.len (drop p.at bs) ≡ written f

abbrev pub HoldAll : List ℕ → List Span → List Formula → Type 0
HoldAll bs [] [] = Unit {0}
HoldAll bs [] (f ∷ fs) = ⊥
HoldAll bs (p ∷ ps) [] = ⊥
HoldAll bs (p ∷ ps) (f ∷ fs) = Holds bs p f × HoldAll bs ps fs

pub record Lies (bs : List ℕ) (y : Layout) (m : System) : Type 0 where
  pub counts : y.counts ≡ m.counts
  pub clocks : y.clocks ≡ length m.resets
  pub resets : HoldAll bs y.resets m.resets
  pub start : Holds bs y.start m.start
  pub invariant : Holds bs y.invariant m.invariant
  pub transition : Holds bs y.transition m.transition
  pub urgent : Holds bs y.urgent m.urgent

pub record Reads (bs : List ℕ) (r : Result Layout Fault) : Type 0 where
  -- first fault from the left
  pub answer : r ≡ reading bs
  -- accepted exactly when it is the writing of a sound system, and then it is that system's layout
  pub accepts : (m : System) → Sound m → Records m bs → r ≡ Ok (laid m)
  pub accepted : (y : Layout) → r ≡ Ok y → (m : System) × Sound m × Records m bs × (y ≡ laid m)
  pub unique : (m k : System) → Sound m → Sound k → Records m bs → Records k bs → m ≡ k
  -- each part of the record is the formula that the system has there
  pub lies : (m : System) → Sound m → Records m bs → Lies bs (laid m) m
  -- a refusal names a rule that is broken, behind a good beginning
  pub refused : (x : Fault) → r ≡ Err x → Broken bs (refusal x)
