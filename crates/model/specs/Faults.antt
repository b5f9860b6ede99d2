-- What a refusal of a record says: the rule that is broken, where, and what stands before it.
use Rattle.std.specs.Prelude.{◌≡◌, ℕ, ◌+◌, ◌-◌, ◌*◌, ◌<◌, ◌≤◌, List, ◌∷◌, ◌++◌, length}
use Rattle.instruction.specs.declared.faults.Refusal.{Refusal}
use Rattle.instruction.specs.declared.sections.Section.{Section}
use Rattle.instruction.specs.declared.sections.Section.TheVariants.{Urgent}
use Rattle.instruction.specs.Faults.{told}
use Rattle.formula.specs.Formulas.{Formula}
use Rattle.formula.specs.Rules.{Refused}
use Rattle.sizes.specs.Promise.{Countable, Unsized}
use Rattle.model.specs.Systems.{System, Sound, Records, Stand, Row, order}

-- what is wrong with the formula that is due at the front of what is left; end is the record's length
pub data Unread (ns : List ℕ) (n : ℕ) (s : Section) (end : ℕ) (left : List ℕ) : Refusal → Type 0 where
  no_count : length left < 2 → Unread ns n s end left (told 1 s end)
  too_long : (h l : ℕ) (bs : List ℕ) → left ≡ h ∷ l ∷ bs → 2000 < h * 256 + l → Unread ns n s end left (told 6 s (end - length left))
  cut_off : (h l : ℕ) (bs : List ℕ) → left ≡ h ∷ l ∷ bs → h * 256 + l ≤ 2000 → length bs < h * 256 + l → Unread ns n s end left (told 1 s end)
  inside : (h l : ℕ) (code bs : List ℕ) (r : Refusal) → left ≡ h ∷ l ∷ (code ++ bs) → h * 256 + l ≡ length code → length code ≤ 2000 → Refused ns n s (end - length bs) code r → Unread ns n s end left r

-- a good beginning: sound sizes, and formulas that stand in the first sections
pub record Begun (bs : List ℕ) (ns : List ℕ) (n : ℕ) (done : List Section) (left : List ℕ) : Type 0 where
  pub few : length ns ≤ 8
  pub countable : Countable ns
  pub clocks : n ≤ 4
  pub trees : List Formula
  pub stand : Stand ns n done trees
  pub row : List ℕ
  pub rows : Row trees row
  pub bytes : bs ≡ length ns ∷ (ns ++ (n ∷ (row ++ left)))

-- the rule that a record breaks first, with number, section and position
pub data Broken (bs : List ℕ) : Refusal → Type 0 where
  bad_sizes : (r : Refusal) → Unsized bs r → Broken bs r
  bad_formula : (ns : List ℕ) (n : ℕ) (done : List Section) (s : Section) (later : List Section) (left : List ℕ) (r : Refusal) → Begun bs ns n done left → order n ≡ done ++ (s ∷ later) → Unread ns n s (length bs) left r → Broken bs r
  more_bytes : (m : System) (front : List ℕ) (b : ℕ) (rest : List ℕ) → Sound m → Records m front → bs ≡ front ++ (b ∷ rest) → Broken bs (told 13 Urgent (length front))
