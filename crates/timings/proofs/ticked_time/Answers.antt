use Rattle.timings.proofs.Recorded.{ticked-is-exact, ticked-runs-so}
use Rattle.timings.proofs.ticked_time.Goals as goal

pub returns : goal.returns
returns c =
    record { bytes = c.of.ensures.bytes; model = c.of.ensures.model; ceilings = c.of.ensures.ceilings; exact = ticked-is-exact c.args.pack.now.bytes.now c.args.pack.now.model.now c.of.result.setting.ceilings c.of.ensures.ceilings; runs = ticked-runs-so c.args.pack.now.bytes.now c.args.pack.now.model.now c.of.result.setting.ceilings c.of.ensures.ceilings }
