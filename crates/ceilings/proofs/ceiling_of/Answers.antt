-- The largest of the three heights is the peak of all the places.
use Rattle.std.proofs.Common.{arith}
use Rattle.ceilings.specs.Ceilings.{peak}
use Rattle.ceilings.proofs.ceiling_of.Goals as goal

pub returns : goal.returns
unfolding peak
returns c = omega arith
