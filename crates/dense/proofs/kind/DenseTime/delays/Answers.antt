use Rattle.tables.specs.Made.{made}
use Rattle.dense.proofs.Filling.{delayed}
use Rattle.dense.proofs.kind.DenseTime.delays.Goals as goal

pub returns : goal.returns
returns c =
    delayed (made c.args.self.now.setting) c.args.start c.args.steps.now c.fill.new.steps c.start-first.result c.fill.result
    c.if-steps-gt-MOST_STEPS.false c.start-first.ensures c.fill.ensures.parts c.fill.ensures.steps
