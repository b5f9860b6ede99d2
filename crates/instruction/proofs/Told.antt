-- The laws of an instruction's answer.
use Rattle.std.proofs.Common.{◌≡◌, ℕ, ◌≤◌, List, [], ◌∷◌, length, get_or, drop, Result, sym, refl, ap, ◌∙◌, arith}
use Rattle.std.proofs.lemmas.List.{length-append}
use Rattle.instruction.specs.declared.faults.Fault.{Fault}
use Rattle.instruction.specs.declared.instructions.Instruction.{Instruction}
use Rattle.instruction.specs.declared.instructions.Instruction.TheVariants.{Is, Becomes, Stays, Clock, Always, Not, And, Or}
use Rattle.instruction.specs.declared.sections.Section.{Section}
use Rattle.instruction.specs.Reader.{instruction, marked, width}
use Rattle.instruction.specs.Promise.{spelled, Reads, Instructs}
use Rattle.instruction.proofs.Inverse.{reads}
use Rattle.instruction.proofs.Broken.{broken}

-- an instruction fills its width
pub wide : (op : Instruction) → (1 ≤ width op) × (length (spelled op) ≡ width op)
wide (Is i k) = (omega arith, refl)
wide (Becomes i k) = (omega arith, refl)
wide (Stays i) = (omega arith, refl)
wide (Clock o c j) = (omega arith, refl)
wide Always = (omega arith, refl)
wide Not = (omega arith, refl)
wide And = (omega arith, refl)
wide Or = (omega arith, refl)

module _ (ns : List ℕ) (n : ℕ) (s : Section) (at : ℕ) (bs : List ℕ) where
  fills : (op : Instruction) → Reads ns n s bs op → (1 ≤ width op) × (width op ≤ length bs)
  fills op r =
      let w = wide op in
      (w.0, omega (arith, w.1, ap length r.bytes, length-append (spelled op) (drop (width op) bs)))

  pub told : (r : Result Instruction Fault) → r ≡ instruction ns n s at bs → Instructs ns n s at bs r
  told r e =
      record {
        answer = e;
        reads = λ op h. reads ns n s at bs op (sym e ∙ h);
        some = λ op h. fills op (reads ns n s at bs op (sym e ∙ h));
        refused = λ m rest x w b h. broken ns n s at w x m rest (sym (ap (instruction ns n s at) b) ∙ sym e ∙ h);
      }

-- the same as the code has it
pub at_mark : (ns : List ℕ) (n : ℕ) (s : Section) (at place : ℕ) (bs : List ℕ) (r : Result Instruction Fault) → 1 ≤ length bs → at ≡ place → r ≡ marked (get_or bs 0 0) ns n s at bs → r ≡ instruction ns n s place bs
at_mark ns n s at place [] r some e f = absurd (omega arith)
at_mark ns n s at place (m ∷ bs) r some e f = f ∙ ap (λ a. marked m ns n s a (m ∷ bs)) e
