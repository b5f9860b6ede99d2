-- Clocks as text.
use Rattle.std.specs.Prelude.{ℕ, List, ◌∷◌, ◌++◌, codes}
use Rattle.std.specs.Fmt.{decimal}
use Rattle.regions.specs.declared.clocks.Clock.{Clock}
use Rattle.regions.specs.declared.clocks.Clock.TheVariants.{Over, Counted}

-- a clock reads "over", or as its whole part and its rank in decimal, with a dot, 46 in ASCII, between them
abbrev pub clock_text : Clock → List ℕ
clock_text Over = codes "over"
clock_text (Counted w r) = decimal w ++ 46 ∷ decimal r
