use Rattle.std.proofs.Common.{◌&&◌, eqb, refl, ap, ◌∙◌}
use Rattle.ticked.specs.declared.places.Ticks.TheVariants.{Over, At}
use Rattle.kinds.proofs.Equal.{pointed}
use Rattle.ticked.specs.Laws.{paired}
use Rattle.ticked.proofs.places.same_places.Goals as goal

pub returns : goal.returns
returns c =
    c.eq.ensures
    ∙ ap (λ b. eqb c.args.place.valuation c.args.other.valuation && b)
    (pointed paired _ (elim [ Over ↦ elim [ Over ↦ refl | At v ↦ refl ] | At w ↦ elim [ Over ↦ refl | At v ↦ refl ] ]) c.args.place.clocks c.args.other.clocks)
