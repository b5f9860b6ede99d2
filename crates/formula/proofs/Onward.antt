-- One turn of a loop over the instructions of a formula.
use Rattle.std.proofs.Common.{◌≡◌, ℕ, ◌-◌, max, length, Some, Ok, Err, Result, sym, ap, ◌∙◌, subst, refl, arith}
use Rattle.instruction.specs.declared.faults.Fault.{Fault}
use Rattle.instruction.specs.declared.instructions.Instruction.{Instruction}
use Rattle.instruction.specs.declared.sections.Section.{Section}
use Rattle.instruction.specs.declared.sections.Section.TheVariants.{Transition}
use Rattle.instruction.specs.declared.sizes.Sizes.{Sizes}
use Rattle.instruction.specs.Counts.{value_counts}
use Rattle.instruction.specs.Reader.{instruction, waits}
use Rattle.formula.specs.declared.listing.Instructions.{Instructions}
use Rattle.formula.specs.Heights.{constant_of, scanned}
use Rattle.formula.specs.Listing.{Gives, Onward, Faulty}
use Rattle.formula.specs.Reader.{walk}
use Rattle.formula.proofs.Walks.{turn, no-op, no-wait}
use Rattle.formula.proofs.Scanned.{turn as scan-turn, no-op as scan-no-op}

pub onward : (s t : Instructions) (r : Result (ℕ × Instruction) Fault) (p : ℕ × Instruction) → r ≡ Ok p → Gives s (Some r) t → Onward s p.0 p.1 t
onward s t r p e g = subst (λ q. Gives s (Some q) t) e g

pub faulty : (s t : Instructions) (r : Result (ℕ × Instruction) Fault) (x : Fault) → r ≡ Err x → Gives s (Some r) t → Faulty s x t
faulty s t r x e g = subst (λ q. Gives s (Some q) t) e g

-- the instructions are those of a formula of this section, up to this position
module _ (z : Sizes) (s : Section) (end : ℕ) (it : Instructions) (e : it.end ≡ end) (f : it.sizes.now ≡ z) (g : it.section ≡ s) where
  pub read : (at : ℕ) (op : Instruction) (t : Instructions) → Onward it at op t → instruction (value_counts z) z.clocks s at it.rest.now ≡ Ok op
  read at op t h = cc (h.read, h.position)

  pub place : (at : ℕ) (op : Instruction) (t : Instructions) → Onward it at op t → at ≡ end - length it.rest.now
  place at op t h = h.position ∙ ap (λ k. k - length it.rest.now) e

  pub fault : (x : Fault) (t : Instructions) → Faulty it x t → instruction (value_counts z) z.clocks s (end - length it.rest.now) it.rest.now ≡ Err x
  fault x t h = cc h.fault

  pub walk-on : (w v at : ℕ) (op : Instruction) (t : Instructions) → Onward it at op t → waits op s at w ≡ Ok v → walk (value_counts z) z.clocks s end 0 w it.rest.now ≡ walk (value_counts z) z.clocks s end 0 v t.rest.now
  walk-on w v at op t h k =
      turn (value_counts z) z.clocks s end w v at op it.rest.now (place at op t h) h.some h.wide (read at op t h) k
      ∙ ap (λ l. walk (value_counts z) z.clocks s end 0 v l) (sym h.left)

  pub walk-stuck : (w at : ℕ) (op : Instruction) (x : Fault) (t : Instructions) → Onward it at op t → waits op s at w ≡ Err x → walk (value_counts z) z.clocks s end 0 w it.rest.now ≡ Err x
  walk-stuck w at op x t h k =
      no-wait (value_counts z) z.clocks s end w at op x it.rest.now (place at op t h) h.some (read at op t h) k

  pub walk-faulty : (w : ℕ) (x : Fault) (t : Instructions) → Faulty it x t → walk (value_counts z) z.clocks s end 0 w it.rest.now ≡ Err x
  walk-faulty w x t h = no-op (value_counts z) z.clocks s end w _ x it.rest.now refl h.some (fault x t h)

module _ (z : Sizes) (c : ℕ) (it : Instructions) (e : it.end ≡ 0) (f : it.sizes.now ≡ z) (g : it.section ≡ Transition) where
  pub scan-on : (h0 at : ℕ) (op : Instruction) (t : Instructions) → Onward it at op t → scanned (value_counts z) z.clocks c 0 h0 it.rest.now ≡ scanned (value_counts z) z.clocks c 0 (max h0 (constant_of c op)) t.rest.now
  scan-on h0 at op t h =
      scan-turn (value_counts z) z.clocks c h0 at op it.rest.now (omega (arith, place z Transition 0 it e f g at op t h)) h.some h.wide (read z Transition 0 it e f g at op t h)
      ∙ ap (λ l. scanned (value_counts z) z.clocks c 0 (max h0 (constant_of c op)) l) (sym h.left)

  pub scan-faulty : (h0 : ℕ) (x : Fault) (t : Instructions) → Faulty it x t → scanned (value_counts z) z.clocks c 0 h0 it.rest.now ≡ h0
  scan-faulty h0 x t h = scan-no-op (value_counts z) z.clocks c h0 _ x it.rest.now (omega arith) h.some (fault z Transition 0 it e f g x t h)
