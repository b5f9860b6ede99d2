use Rattle.std.proofs.Common.{◌≡◌, drop}
use Rattle.runs.specs.Checks.{stepping}
use Rattle.runs.proofs.checking.check_steps.Given as goal

abbrev pub invariant-steps : goal.invariant-steps
invariant-steps l = stepping l.valuations l.i (drop l.i l.steps) ≡ stepping l.valuations 0 l.steps
