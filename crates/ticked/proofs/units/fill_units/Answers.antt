use Rattle.std.proofs.Common.{rules}
use Rattle.std.proofs.lemmas.List.Edits.{map_over_more}
use Rattle.ticked.specs.Trials.{in_units}
use Rattle.ticked.proofs.units.fill_units.Goals as goal

pub steps-preserved : goal.steps-preserved
steps-preserved c = search (rules, map_over_more in_units)
