use Rattle.std.proofs.Common.{◌&&◌, eqb, refl, ap, ◌∙◌, arith}
use Rattle.regions.specs.declared.clocks.Clock.TheVariants.{Over, Counted}
use Rattle.kinds.proofs.Equal.{pointed}
use Rattle.regions.proofs.Same.{paired}
use Rattle.regions.proofs.Told.{same-told}
use Rattle.regions.proofs.places.Place.same.Goals as goal

pub returns : goal.returns
returns c =
    same-told c.args.self c.args.other _ (omega arith) (omega arith)
    (c.eq.ensures
    ∙ ap (λ b. eqb c.args.self.valuation c.args.other.valuation && b)
    (pointed paired _ (elim [ Over ↦ elim [ Over ↦ refl | Counted v s ↦ refl ] | Counted w r ↦ elim [ Over ↦ refl | Counted v s ↦ refl ] ]) c.args.self.clocks c.args.other.clocks))
