use Rattle.std.proofs.Common.{sym, ◌∙◌}
use Rattle.formula.proofs.Onward.{onward, faulty, scan-on, scan-faulty}
use Rattle.formula.proofs.Scanned.{ended, measured}
use Rattle.formula.proofs.heights.highest.Goals as goal

pub returns-in_default : goal.returns-in_default
returns-in_default c =
    let i = c.instructions.invariant in
    measured _ _ _ _ _ (sym (scan-faulty _ _ _ i.2 i.3 i.4 c.instructions.height _ _ (faulty _ _ _ _ c.in_default.is c.in-Some.ensures.steps)) ∙ i.5)

pub instructions-preserved : goal.instructions-preserved
instructions-preserved c =
    let i = c.instructions.invariant in
    let h = onward _ _ _ _ c.in-Ok.is c.in-Some.ensures.steps in
    (tt, tt, h.same.end ∙ i.2, h.same.sizes ∙ i.3, h.same.section ∙ i.4, simp (c.max-height.ensures, c.constant_of.ensures) (sym (scan-on _ _ _ i.2 i.3 i.4 c.instructions.height _ _ _ h) ∙ i.5))

pub returns : goal.returns
returns c =
    measured _ _ _ _ _ (sym (ended _ _ _ c.instructions.height c.instructions.found-iterator.rest.now c.in-None.ensures.steps.none) ∙ c.instructions.invariant.5)
