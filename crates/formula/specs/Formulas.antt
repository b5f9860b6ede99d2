-- Formulas: their trees, their bytes, and what may stand in which section.
use Rattle.std.specs.Prelude.{◌≡◌, ℕ, ◌+◌, ◌<◌, ◌≤◌, max, List, [], ◌∷◌, ◌++◌, length, slice_index}
use Rattle.instruction.specs.declared.instructions.Compare.{Compare}
use Rattle.instruction.specs.declared.sections.Section.{Section}
use Rattle.instruction.specs.Marks.{mark, HasNext, HasClocks}

-- `is i k`: variable i is k; `becomes i k`: its next value is k; `stays i`: its next value is its
-- present one; `clock o c j`: clock c compares so with j
pub data Formula : Type 0 where
  is : ℕ → ℕ → Formula
  becomes : ℕ → ℕ → Formula
  stays : ℕ → Formula
  clock : Compare → ℕ → ℕ → Formula
  always : Formula
  not : Formula → Formula
  and or : Formula → Formula → Formula

-- operands first; the other marks are v, n, s, t, !, &, |
unfoldable pub written : Formula → List ℕ
written (is i k) = 118 ∷ i ∷ k ∷ []
written (becomes i k) = 110 ∷ i ∷ k ∷ []
written (stays i) = 115 ∷ i ∷ []
written (clock o c j) = mark o ∷ c ∷ j ∷ []
written always = 116 ∷ []
written (not f) = written f ++ (33 ∷ [])
written (and f g) = written f ++ (written g ++ (38 ∷ []))
written (or f g) = written f ++ (written g ++ (124 ∷ []))

-- how many values wait at the most while the bytes are read from the left
unfoldable pub depth : Formula → ℕ
depth (is i k) = 1
depth (becomes i k) = 1
depth (stays i) = 1
depth (clock o c j) = 1
depth always = 1
depth (not f) = depth f
depth (and f g) = max (depth f) (1 + depth g)
depth (or f g) = max (depth f) (1 + depth g)

-- the formula may stand in the section; its variables and clocks are declared, its values and
-- constants in range; ns has the numbers of values, n is the number of clocks
unfoldable pub Allowed : Section → List ℕ → ℕ → Formula → Type 0
Allowed s ns n (is i k) = (i < length ns) × (k < slice_index ns i)
Allowed s ns n (becomes i k) = HasNext s × (i < length ns) × (k < slice_index ns i)
Allowed s ns n (stays i) = HasNext s × (i < length ns)
Allowed s ns n (clock o c j) = HasClocks s × (c < n) × (j ≤ 250)
Allowed s ns n always = Unit {0}
Allowed s ns n (not f) = Allowed s ns n f
Allowed s ns n (and f g) = Allowed s ns n f × Allowed s ns n g
Allowed s ns n (or f g) = Allowed s ns n f × Allowed s ns n g

-- the bytes are the writing of a formula that may stand in the section
pub record Writes (ns : List ℕ) (n : ℕ) (s : Section) (bs : List ℕ) (f : Formula) : Type 0 where
  pub bytes : bs ≡ written f
  pub allowed : Allowed s ns n f
  pub shallow : depth f ≤ 32
