-- The law of the ceilings from the ceiling of each clock.
use Rattle.std.proofs.Common.{arith}
use Rattle.std.proofs.lemmas.Grind.{common_steps}
use Rattle.ceilings.proofs.Heights.{told}
use Rattle.ceilings.proofs.ceilings.Goals as goal

pub returns : goal.returns
returns c = told _ _ _ (grind (arith, common_steps))
