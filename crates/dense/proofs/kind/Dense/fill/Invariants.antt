-- The first i steps have their delays, and the moment is the one after them.
use Rattle.tables.specs.Made.{made}
use Rattle.dense.specs.Trials.{stepping}
use Rattle.dense.proofs.Filling.{Filled}
use Rattle.dense.proofs.kind.Dense.fill.Given as goal

abbrev pub invariant-steps : goal.invariant-steps
invariant-steps l =
    Filled l.initial.at (stepping (made l.initial.self.setting)) l.initial.steps l.i l.steps l.at l.pace.parts l.pace.fractions
