use Rattle.std.proofs.Common.{◌∙◌}
use Rattle.tables.specs.Made.{made}
use Rattle.dense.proofs.Moving.{judged-is}
use Rattle.dense.proofs.kind.DenseTime.step.Goals as goal

pub returns : goal.returns
returns c = c.moves.ensures ∙ judged-is (made c.args.self.now.setting) c.args.place c.args.trial
