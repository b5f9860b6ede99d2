use Rattle.std.proofs.Common.{sym, ◌∙◌}
use Rattle.std.proofs.lemmas.Result.{err_from_is_err_and}
use Rattle.formula.proofs.Onward.{onward, faulty, walk-on, walk-stuck, walk-faulty}
use Rattle.formula.proofs.Walks.{one_left, not-one-left}
use Rattle.formula.proofs.Told.{told}
use Rattle.formula.proofs.acceptance.accept.Goals as goal

pub returns-in_err-at : goal.returns-in_err-at
returns-in_err-at c =
    let i = c.instructions.invariant in
    let p = err_from_is_err_and c.from_residual.result c.from_residual.ensures.1 in
    let e = walk-faulty _ _ _ _ i.2 i.3 i.4 c.instructions.waiting _ _ (faulty _ _ _ _ c.in_err-at.was c.in-Some.ensures.steps) in
    told _ _ _ _ _ _ (cc (p.1, p.2, e, i.5))

pub returns-in_err-waiting : goal.returns-in_err-waiting
returns-in_err-waiting c =
    let i = c.instructions.invariant in
    let p = err_from_is_err_and c.from_residual-in_err-waiting.result c.from_residual-in_err-waiting.ensures.1 in
    let e = walk-stuck _ _ _ _ i.2 i.3 i.4 c.instructions.waiting _ _ _ _ (onward _ _ _ _ c.in_ok-at.was c.in-Some.ensures.steps) (sym c.in_err-waiting.ensures) in
    told _ _ _ _ _ _ (cc (p.1, p.2, e, i.5))

pub instructions-preserved : goal.instructions-preserved
instructions-preserved c =
    let i = c.instructions.invariant in
    let h = onward _ _ _ _ c.in_ok-at.was c.in-Some.ensures.steps in
    (tt, tt, h.same.end ∙ i.2, h.same.sizes ∙ i.3, h.same.section ∙ i.4, sym (walk-on _ _ _ _ i.2 i.3 i.4 c.instructions.waiting _ _ _ _ h (sym c.in_ok-waiting.ensures)) ∙ i.5)

pub returns-then-waiting-eq1 : goal.returns-then-waiting-eq1
returns-then-waiting-eq1 c =
    told _ _ _ _ _ _ (sym (one_left _ _ _ _ _ _ c.in-None.ensures.steps.none c.if-waiting-eq1.true) ∙ c.instructions.invariant.5)

pub returns-else-waiting-eq1 : goal.returns-else-waiting-eq1
returns-else-waiting-eq1 c =
    told _ _ _ _ _ _ (sym (not-one-left _ _ _ _ _ _ c.in-None.ensures.steps.none c.if-waiting-eq1.false) ∙ c.instructions.invariant.5)
