-- The laws of acceptance from its answer.
use Rattle.std.proofs.Common.{◌≡◌, ℕ, List, Result, sym, ◌∙◌}
use Rattle.instruction.specs.declared.faults.Fault.{Fault}
use Rattle.instruction.specs.declared.sections.Section.{Section}
use Rattle.formula.specs.Reader.{walk, Accepts}
use Rattle.formula.proofs.Through.{accepted}
use Rattle.formula.proofs.Back.{was-written}
use Rattle.formula.proofs.Front.{was-refused}
use Rattle.formula.proofs.Unique.{unique}

pub told : (ns : List ℕ) (n : ℕ) (s : Section) (end : ℕ) (bs : List ℕ) (r : Result (Unit {0}) Fault) → r ≡ walk ns n s end 0 0 bs → Accepts ns n s end bs r
told ns n s end bs r e = record { answer = e; accepts = λ f h. e ∙ accepted ns n s end bs f h; accepted = λ h. was-written ns n s end bs (sym e ∙ h); refused = λ x h. was-refused ns n s end bs x (sym e ∙ h); unique = unique ns n s bs }
