use Rattle.std.proofs.Common.{◌≡◌, ◌++◌, map, take, drop}
use Rattle.ticked.specs.Trials.{in_units}
use Rattle.ticked.proofs.units.fill_units.Given as goal

abbrev pub invariant-steps : goal.invariant-steps
invariant-steps l = l.steps ≡ map in_units (take l.step-index l.initial.steps) ++ drop l.step-index l.initial.steps
