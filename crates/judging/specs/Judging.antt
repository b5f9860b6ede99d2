-- Judging a formula: the values that wait are the bits of a number, the last one lowest.
use Rattle.std.specs.Prelude.{◌≡◌, ℕ, ◌+◌, ◌-◌, ◌*◌, ◌/◌, ◌%◌, ◌^◌, ◌<◌, ◌≤◌, Bool, true, false, not, ◌&&◌, ◌||◌, List, [], ◌∷◌, Ok, Err, Result, ◌==◌, slice_index}
use Rattle.instruction.specs.declared.faults.Fault.{Fault}
use Rattle.instruction.specs.declared.instructions.Instruction.{Instruction}
use Rattle.instruction.specs.declared.instructions.Instruction.TheVariants.{Is, Becomes, Stays, Clock, Always, Not, And, Or}
use Rattle.instruction.specs.declared.sections.Section.{Section}
use Rattle.instruction.specs.declared.sections.Section.TheVariants.{Transition}
use Rattle.instruction.specs.Reader.{instruction, width}
use Rattle.formula.specs.Formulas.{Formula, Writes}
use Rattle.formula.specs.Heights.{scanned}
use Rattle.judging.specs.declared.sides.Side.{Side}
use Rattle.judging.specs.Truth.{View, holds, meets}

abbrev pub bit : Bool → ℕ
bit true = 1
bit false = 0

abbrev pub low : ℕ → Bool
low s = s % 2 == 1

abbrev pub push : ℕ → Bool → ℕ
push s b = (s * 2 + bit b) % 2 ^ 32

-- what is seen of values and next values, by the variables' indices
abbrev pub seen : List ℕ → List ℕ → (ℕ → ℕ → Side) → View
seen xs ys side = record { value = λ i. slice_index xs i; next = λ i. slice_index ys i; side = side }

-- what waits after an instruction
abbrev pub after : View → Instruction → ℕ → ℕ
after v (Is i k) s = push s (v.value i == k)
after v (Becomes i k) s = push s (v.next i == k)
after v (Stays i) s = push s (v.next i == v.value i)
after v (Clock o c j) s = push s (meets o (v.side c j))
after v Always s = push s true
after v Not s = push (s / 2) (not (low s))
after v And s = push (s / 4) (low (s / 2) && low s)
after v Or s = push (s / 4) (low (s / 2) || low s)

abbrev pub on_ok : Result Instruction Fault → (Instruction → Bool) → Bool
on_ok (Ok op) f = f op
on_ok (Err e) f = false

-- the instructions from the left, where the first k bytes are passed over; bytes that are no
-- instruction make it false
unfoldable pub judged : List ℕ → ℕ → View → ℕ → ℕ → List ℕ → Bool
judged ns n v k s [] = low s
judged ns n v (ℕ.suc k) s (b ∷ bs) = judged ns n v k s bs
judged ns n v ℕ.zero s (b ∷ bs) = on_ok (instruction ns n Transition 0 (b ∷ bs)) (λ op. judged ns n v (width op - 1) (after v op s) bs)

-- what an answer says of the bytes
pub record Judges (ns : List ℕ) (n : ℕ) (v : View) (bs : List ℕ) (r : Bool) : Type 0 where
  -- on all bytes
  pub answer : r ≡ judged ns n v 0 0 bs
  -- of a formula, its truth
  pub means : (s : Section) (f : Formula) → Writes ns n s bs f → r ≡ holds v f
  -- no more is looked at than the sides of declared clocks to constants up to the largest in the bytes
  pub depends : (w : View) → v.value ≡ w.value → v.next ≡ w.next → ((c j : ℕ) → c < n → j ≤ scanned ns n c 0 0 bs → v.side c j ≡ w.side c j) → r ≡ judged ns n w 0 0 bs
