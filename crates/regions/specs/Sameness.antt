-- When two places are the same.
use Rattle.std.specs.Prelude.{Bool, true, false, ◌&&◌, List, [], ◌∷◌, ◌==◌}
use Rattle.regions.specs.declared.clocks.Clock.{Clock}
use Rattle.regions.specs.declared.clocks.Clock.TheVariants.{Over, Counted}
use Rattle.regions.specs.declared.places.Place.{Place}

abbrev pub same_clock : Clock → Clock → Bool
same_clock Over Over = true
same_clock Over (Counted v s) = false
same_clock (Counted w r) Over = false
same_clock (Counted w r) (Counted v s) = (w == v && r == s)

unfoldable pub same_clocks : List Clock → List Clock → Bool
same_clocks [] [] = true
same_clocks [] (q ∷ qs) = false
same_clocks (p ∷ ps) [] = false
same_clocks (p ∷ ps) (q ∷ qs) = (same_clock p q && same_clocks ps qs)

abbrev pub same_place : Place → Place → Bool
same_place p q = (p.valuation == q.valuation && same_clocks p.clocks q.clocks)
