-- Clocks as text.
use Rattle.std.specs.Prelude.{ℕ, List, codes}
use Rattle.std.specs.Fmt.{decimal}
use Rattle.ticked.specs.declared.places.Ticks.{Ticks}
use Rattle.ticked.specs.declared.places.Ticks.TheVariants.{Over, At}

-- a clock reads "over", or as its whole number in decimal
abbrev pub ticks_text : Ticks → List ℕ
ticks_text Over = codes "over"
ticks_text (At w) = decimal w
