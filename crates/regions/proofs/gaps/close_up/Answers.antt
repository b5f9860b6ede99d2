use Rattle.std.proofs.Common.{◌≡◌, ap, ◌∙◌}
use Rattle.regions.specs.Clocks.{at, capped, four_of, ones_to}
use Rattle.regions.specs.Regions.{renamed, tidy}
use Rattle.regions.proofs.Mask.{tidied}
use Rattle.regions.proofs.Alike.{no_gaps}
use Rattle.regions.proofs.gaps.close_up.Goals as goal

pub returns : goal.returns
returns c =
    let e : c.closes.result ≡ four_of (tidy 4 (λ k. capped (at c.args.clocks k))) =
    c.closes.ensures ∙ ap (λ m. four_of (λ k. renamed (ones_to m) (capped (at c.args.clocks k)))) c.ranks.ensures ∙ tidied (at c.args.clocks) in
    record { value = e; gapless = no_gaps _ (λ k. capped (at c.args.clocks k)) e }
