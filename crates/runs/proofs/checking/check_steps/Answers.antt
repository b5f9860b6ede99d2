use Rattle.std.proofs.Common.{sym, ◌∙◌}
use Rattle.runs.proofs.Following.{fine_more, not-fine, all-fine}
use Rattle.runs.proofs.checking.check_steps.Goals as goal

pub returns-then-not-is_fine : goal.returns-then-not-is_fine
returns-then-not-is_fine c = sym (not-fine c.args.valuations c.args.steps.now c.steps.i _ c.steps-test.true (sym c.if-not-is_fine.ensures)) ∙ c.steps.invariant

pub steps-preserved : goal.steps-preserved
steps-preserved c = sym (fine_more c.args.valuations c.args.steps.now c.steps.i _ c.steps-test.true (sym c.if-not-is_fine.ensures)) ∙ c.steps.invariant

pub returns : goal.returns
returns c = sym (all-fine c.args.valuations c.args.steps.now c.steps.i c.steps-test.false) ∙ c.steps.invariant
