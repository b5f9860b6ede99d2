-- What a table's formulas say: of a system by their trees, of a record by its bytes.
use Rattle.std.specs.Prelude.{ℕ, Bool, false, List, [], ◌∷◌, take, drop, Some, None, Option}
use Rattle.instruction.specs.Counts.{value_counts}
use Rattle.formula.specs.Formulas.{Formula}
use Rattle.judging.specs.Truth.{View, holds}
use Rattle.judging.specs.declared.sides.Side.{Side}
use Rattle.judging.specs.Judging.{judged, seen}
use Rattle.model.specs.declared.layout.Span.{Span}
use Rattle.model.specs.declared.layout.Model.{Model}
use Rattle.model.specs.declared.layout.Role.{Role}
use Rattle.model.specs.declared.layout.Role.TheVariants.{Reset, Start, Invariant, Transition, Urgent}
use Rattle.model.specs.Parts.{span_of}
use Rattle.model.specs.Systems.{System}

-- what the formulas of a table say of a view
pub record Table : Type 0 where
  pub counts : List ℕ
  pub start : View → Bool
  pub invariant : View → Bool
  pub transition : View → Bool
  pub urgent : View → Bool
  pub reset : ℕ → View → Bool

unfoldable pub reset_of : List Formula → ℕ → View → Bool
reset_of [] c v = false
reset_of (f ∷ fs) ℕ.zero v = holds v f
reset_of (f ∷ fs) (ℕ.suc c) v = reset_of fs c v

abbrev pub table_of : System → Table
table_of m =
    record { counts = m.counts; start = λ v. holds v m.start; invariant = λ v. holds v m.invariant; transition = λ v. holds v m.transition; urgent = λ v. holds v m.urgent; reset = reset_of m.resets }

-- what the bytes at a span say; where there is no formula, nothing holds
abbrev pub said : List ℕ → Model → View → Option Span → Bool
said bs m v None = false
said bs m v (Some p) = judged (value_counts m.sizes) m.sizes.clocks v 0 0 (take p.len (drop p.at bs))

abbrev pub says_of : List ℕ → Model → Role → View → Bool
says_of bs m r v = said bs m v (span_of m r)

abbrev pub table_in : List ℕ → Model → Table
table_in bs m =
    record { counts = value_counts m.sizes; start = says_of bs m Start; invariant = says_of bs m Invariant; transition = says_of bs m Transition; urgent = says_of bs m Urgent; reset = λ c. says_of bs m (Reset c) }

-- the invariant at four clocks, where the variables have the values xs
abbrev pub lasting : List ℕ → Model → List ℕ → (ℕ → ℕ → Side) → Bool
lasting bs m xs s = says_of bs m Invariant (seen xs xs s)

-- what the bytes of a question say
abbrev pub asked : List ℕ → Model → View → Bool
asked q m v = judged (value_counts m.sizes) m.sizes.clocks v 0 0 q

-- one for each of the four clocks
abbrev pub four : (ℕ → Bool) → List Bool
four f = f 0 ∷ f 1 ∷ f 2 ∷ f 3 ∷ []
