use Rattle.std.proofs.Common.{sym, ◌∙◌}
use Rattle.formula.proofs.Onward.{onward, faulty}
use Rattle.judging.proofs.Judged.{ended}
use Rattle.judging.proofs.Onward.{judge-on, judge-faulty}
use Rattle.judging.proofs.Told.{judges}
use Rattle.judging.proofs.judgement.judge.Goals as goal

pub returns-in_default : goal.returns-in_default
returns-in_default g c =
    let i = c.instructions.invariant in
    judges _ _ _ _ _ (sym (judge-faulty _ _ _ i.2 i.3 i.4 c.instructions.stack _ _ (faulty _ _ _ _ c.in_default.is c.in-Some.ensures.steps)) ∙ i.5)

pub instructions-preserved : goal.instructions-preserved
instructions-preserved g c =
    let i = c.instructions.invariant in
    let h = onward _ _ _ _ c.in-Ok.is c.in-Some.ensures.steps in
    (tt, tt, h.same.end ∙ i.2, h.same.sizes ∙ i.3, h.same.section ∙ i.4, simp c.applied-stack.ensures (sym (judge-on _ _ _ i.2 i.3 i.4 c.instructions.stack _ _ _ h) ∙ i.5))

pub returns : goal.returns
returns g c =
    judges _ _ _ _ _ (c.lowest.ensures ∙ sym (ended _ _ _ c.instructions.stack c.instructions.found-iterator.rest.now c.in-None.ensures.steps.none) ∙ c.instructions.invariant.5)
