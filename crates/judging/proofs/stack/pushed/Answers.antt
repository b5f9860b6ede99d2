use Rattle.judging.proofs.Bits.{pushes}
use Rattle.judging.proofs.stack.pushed.Goals as goal

pub returns : goal.returns
returns c = pushes c.args.stack c.from.result c.args.b c.from.ensures
