-- One turn of the judging loop over the instructions of a formula.
use Rattle.std.proofs.Common.{◌≡◌, ℕ, false, sym, ap, ◌∙◌, arith}
use Rattle.instruction.specs.declared.faults.Fault.{Fault}
use Rattle.instruction.specs.declared.instructions.Instruction.{Instruction}
use Rattle.instruction.specs.declared.sections.Section.TheVariants.{Transition}
use Rattle.instruction.specs.declared.sizes.Sizes.{Sizes}
use Rattle.instruction.specs.Counts.{value_counts}
use Rattle.formula.specs.declared.listing.Instructions.{Instructions}
use Rattle.formula.specs.Listing.{Onward, Faulty}
use Rattle.formula.proofs.Onward.{read, place, fault}
use Rattle.judging.specs.Truth.{View}
use Rattle.judging.specs.Judging.{judged, after}
use Rattle.judging.proofs.Judged.{turn, no-op}

module _ (z : Sizes) (v : View) (it : Instructions) (e : it.end ≡ 0) (f : it.sizes.now ≡ z) (g : it.section ≡ Transition) where
  pub judge-on : (s at : ℕ) (op : Instruction) (t : Instructions) → Onward it at op t → judged (value_counts z) z.clocks v 0 s it.rest.now ≡ judged (value_counts z) z.clocks v 0 (after v op s) t.rest.now
  judge-on s at op t h =
      turn (value_counts z) z.clocks v s at op it.rest.now (omega (arith, place z Transition 0 it e f g at op t h)) h.some h.wide (read z Transition 0 it e f g at op t h)
      ∙ ap (λ l. judged (value_counts z) z.clocks v 0 (after v op s) l) (sym h.left)

  pub judge-faulty : (s : ℕ) (x : Fault) (t : Instructions) → Faulty it x t → judged (value_counts z) z.clocks v 0 s it.rest.now ≡ false
  judge-faulty s x t h = no-op (value_counts z) z.clocks v s _ x it.rest.now (omega arith) h.some (fault z Transition 0 it e f g x t h)
