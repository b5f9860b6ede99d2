-- The rules that an instruction keeps, in their order.
use Rattle.std.specs.Prelude.{◌≡◌, ℕ, ◌+◌, ◌<◌, ◌≤◌, Bool, true, false, cond, ◌||◌, List, [], ◌∷◌, length, ◌==◌, slice_index}
use Rattle.instruction.specs.declared.sections.Section.{Section}
use Rattle.instruction.specs.declared.faults.Refusal.{Refusal}
use Rattle.instruction.specs.Faults.{told}
use Rattle.instruction.specs.Marks.{HasNext, HasClocks}

abbrev pub among : ℕ → List ℕ → Bool
among m [] = false
among m (x ∷ xs) = m == x || among m xs

-- n, s
abbrev pub next_marks : List ℕ
next_marks = 110 ∷ 115 ∷ []

-- <, l, =, g, >
abbrev pub clock_marks : List ℕ
clock_marks = 60 ∷ 108 ∷ 61 ∷ 103 ∷ 62 ∷ []

-- v, n, s
abbrev pub variable_marks : List ℕ
variable_marks = 118 ∷ 110 ∷ 115 ∷ []

-- v, n
abbrev pub value_marks : List ℕ
value_marks = 118 ∷ 110 ∷ []

-- those that take no operand: v, n, s, the clock marks, t
abbrev pub leaf_marks : List ℕ
leaf_marks = 118 ∷ 110 ∷ 115 ∷ 60 ∷ 108 ∷ 61 ∷ 103 ∷ 62 ∷ 116 ∷ []

-- all twelve: the leaves, !, &, |
abbrev pub marks : List ℕ
marks = 118 ∷ 110 ∷ 115 ∷ 60 ∷ 108 ∷ 61 ∷ 103 ∷ 62 ∷ 116 ∷ 33 ∷ 38 ∷ 124 ∷ []

-- an instruction's number of bytes
abbrev pub size : ℕ → ℕ
size m = cond (among m value_marks || among m clock_marks) 3 (cond (m == 115) 2 1)

abbrev pub Known : ℕ → Type 0
Known m = among m marks ≡ true

abbrev pub Permitted : Section → ℕ → Type 0
Permitted s m = (among m next_marks ≡ true → HasNext s) × (among m clock_marks ≡ true → HasClocks s)

abbrev pub Whole : ℕ → List ℕ → Type 0
Whole m bs = size m ≤ length (m ∷ bs)

abbrev pub Declared : List ℕ → ℕ → ℕ → List ℕ → Type 0
Declared ns n m bs = (among m variable_marks ≡ true → slice_index bs 0 < length ns) × (among m clock_marks ≡ true → slice_index bs 0 < n)

abbrev pub InRange : List ℕ → ℕ → List ℕ → Type 0
InRange ns m bs = (among m value_marks ≡ true → slice_index bs 1 < slice_index ns (slice_index bs 0)) × (among m clock_marks ≡ true → slice_index bs 1 ≤ 250)

-- there are operands enough, and no 33rd value waits
abbrev pub Room : ℕ → ℕ → Type 0
Room m w = (among m leaf_marks ≡ true → w < 32) × ((m == 33) ≡ true → 1 ≤ w) × (among m (38 ∷ 124 ∷ []) ≡ true → 2 ≤ w)

-- the instruction m ∷ bs breaks one rule and keeps those before it; at is the position of its mark,
-- and w values wait
pub data Breaks (ns : List ℕ) (n : ℕ) (s : Section) (at w m : ℕ) (bs : List ℕ) : Refusal → Type 0 where
  unknown : (Known m → ⊥) → Breaks ns n s at w m bs (told 7 s at)
  barred : Known m → (Permitted s m → ⊥) → Breaks ns n s at w m bs (told 8 s at)
  short : Known m → Permitted s m → (Whole m bs → ⊥) → Breaks ns n s at w m bs (told 9 s at)
  undeclared : Known m → Permitted s m → Whole m bs → (Declared ns n m bs → ⊥) → Breaks ns n s at w m bs (told 10 s (at + 1))
  out : Known m → Permitted s m → Whole m bs → Declared ns n m bs → (InRange ns m bs → ⊥) → Breaks ns n s at w m bs (told 11 s (at + 2))
  crowded : Known m → Permitted s m → Whole m bs → Declared ns n m bs → InRange ns m bs → (Room m w → ⊥) → Breaks ns n s at w m bs (told 12 s at)
