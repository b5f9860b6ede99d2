-- The laws of a question's answer.
use Rattle.std.proofs.Common.{◌≡◌, ℕ, ◌<◌, ◌≤◌, leb, List, length, Err, Result, sym, ap, ◌∙◌, inl, inr, arith}
use Rattle.std.proofs.lemmas.Bool.{le-leb, lt-leb, cond-true, cond-false}
use Rattle.instruction.specs.declared.faults.Fault.{Fault}
use Rattle.instruction.specs.declared.faults.Fault.TheVariants.{TooLong}
use Rattle.instruction.specs.declared.sections.Section.TheVariants.{Question}
use Rattle.instruction.specs.Faults.{refusal}
use Rattle.formula.specs.Reader.{Accepts}
use Rattle.instruction.proofs.Inverse.{never-ok}
use Rattle.formula.proofs.Unique.{unique}
use Rattle.model.specs.Questions.{Asks}

module _ (ns : List ℕ) (n : ℕ) (bs : List ℕ) (r : Result (Unit {0}) Fault) where
  pub asked : length bs ≤ 2000 → Accepts ns n Question (length bs) bs r → Asks ns n bs r
  asked few a =
      record {
        answer = a.answer ∙ sym (cond-true (leb (length bs) 2000) _ _ (le-leb (length bs) 2000 few));
        accepts = λ f h l. a.accepts f h;
        accepted = λ e. let f = a.accepted e in (f.0, f.1, few);
        unique = a.unique;
        refused = λ x e. inr (few, a.refused x e);
      }

  pub asked-long : 2000 < length bs → r ≡ Err (TooLong Question 0) → Asks ns n bs r
  asked-long long e =
      record {
        answer = e ∙ sym (cond-false (leb (length bs) 2000) _ _ (lt-leb (length bs) 2000 long));
        accepts = λ f h l. absurd (omega arith);
        accepted = λ g. never-ok (TooLong Question 0) tt _ (sym e ∙ g);
        unique = unique ns n Question bs;
        refused = λ x g. inl (long, let same : x ≡ TooLong Question 0 = cc in ap refusal same);
      }
