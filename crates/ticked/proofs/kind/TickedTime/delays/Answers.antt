use Rattle.tables.specs.Made.{made}
use Rattle.ticked.proofs.Filled.{delayed}
use Rattle.ticked.proofs.kind.TickedTime.delays.Goals as goal

pub returns : goal.returns
returns c = delayed (made c.args.self.now.setting) _ c.args.steps.now c.fill_units.new.steps c.if-steps-gt-MOST_STEPS.false c.fill_units.ensures
