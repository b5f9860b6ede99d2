use Rattle.std.proofs.Common.{ap, ◌∙◌}
use Rattle.regions.specs.Clocks.{at, capped, four_of}
use Rattle.regions.specs.Regions.{used, closed, tidy}
use Rattle.regions.proofs.Told.{reset-told}
use Rattle.regions.proofs.resets.reset.Goals as goal

pub returns : goal.returns
unfolding closed used
returns c =
    reset-told c.args.clocks c.args.resets c.close_up.result
    (c.close_up.ensures.value ∙ ap (λ x. four_of (tidy 4 (λ k. capped (at x k)))) c.restarts-kept.ensures)
    c.close_up.ensures.gapless
