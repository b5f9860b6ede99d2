use Rattle.timings.proofs.Recorded.{dense-is-exact, dense-runs-so}
use Rattle.timings.proofs.dense_time.Goals as goal

pub returns : goal.returns
returns c =
    record { bytes = c.of.ensures.bytes; model = c.of.ensures.model; ceilings = c.of.ensures.ceilings; exact = dense-is-exact c.args.pack.now.bytes.now c.args.pack.now.model.now c.of.result.setting.ceilings c.of.ensures.ceilings; runs = dense-runs-so c.args.pack.now.bytes.now c.args.pack.now.model.now c.of.result.setting.ceilings c.of.ensures.ceilings }
