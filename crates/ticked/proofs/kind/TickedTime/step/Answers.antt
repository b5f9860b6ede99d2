use Rattle.std.proofs.Common.{◌∙◌}
use Rattle.tables.specs.Made.{made}
use Rattle.ticked.proofs.Moving.{judged-is}
use Rattle.ticked.proofs.kind.TickedTime.step.Goals as goal

pub returns : goal.returns
returns c = c.moves.ensures ∙ judged-is (made c.args.self.now.setting) c.args.place c.args.trial
