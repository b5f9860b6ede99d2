-- A supervisor table: what it is made of, when it is sound, and how a record writes it.
use Rattle.std.specs.Prelude.{◌≡◌, ℕ, ◌+◌, ◌*◌, ◌≤◌, List, [], ◌∷◌, ◌++◌, length, replicate}
use Rattle.instruction.specs.declared.sections.Section.{Section}
use Rattle.instruction.specs.declared.sections.Section.TheVariants.{Clocks, Start, Invariant, Transition, Urgent}
use Rattle.formula.specs.Formulas.{Formula, written, depth, Allowed}
use Rattle.sizes.specs.Promise.{Countable}

-- a timed transition system: the number of values of each variable, a reset formula for each clock
pub record System : Type 0 where
  pub counts : List ℕ
  pub resets : List Formula
  pub start : Formula
  pub invariant : Formula
  pub transition : Formula
  pub urgent : Formula

-- its formulas in the order of the record, and the section of each; n is the number of clocks
abbrev pub formulas : System → List Formula
formulas m = m.resets ++ (m.start ∷ m.invariant ∷ m.transition ∷ m.urgent ∷ [])

abbrev pub order : ℕ → List Section
order n = replicate n Clocks ++ (Start ∷ Invariant ∷ Transition ∷ Urgent ∷ [])

-- the formula may stand in the section
pub record Fits (ns : List ℕ) (n : ℕ) (s : Section) (f : Formula) : Type 0 where
  pub allowed : Allowed s ns n f
  pub shallow : depth f ≤ 32
  pub short : length (written f) ≤ 2000

-- each formula may stand in its section
abbrev pub Stand : List ℕ → ℕ → List Section → List Formula → Type 0
Stand ns n [] [] = Unit {0}
Stand ns n [] (f ∷ fs) = ⊥
Stand ns n (s ∷ ss) [] = ⊥
Stand ns n (s ∷ ss) (f ∷ fs) = Fits ns n s f × Stand ns n ss fs

pub record Sound (m : System) : Type 0 where
  pub variables : length m.counts ≤ 8
  pub countable : Countable m.counts
  pub clocks : length m.resets ≤ 4
  pub stand : Stand m.counts (length m.resets) (order (length m.resets)) (formulas m)

-- the bytes of formulas in a row, each behind its count of two bytes, high byte first
pub data Row : List Formula → List ℕ → Type 0 where
  none : Row [] []
  more : (h l : ℕ) (f : Formula) (fs : List Formula) (bs : List ℕ) → h * 256 + l ≡ length (written f) → Row fs bs → Row (f ∷ fs) (h ∷ l ∷ (written f ++ bs))

-- the bytes are the writing of the system: the number of variables and their numbers of values, the
-- number of clocks, the formulas
pub record Records (m : System) (bs : List ℕ) : Type 0 where
  pub row : List ℕ
  pub rows : Row (formulas m) row
  pub bytes : bs ≡ length m.counts ∷ (m.counts ++ (length m.resets ∷ row))
