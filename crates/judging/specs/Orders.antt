-- The side that an order is.
use Rattle.std.specs.declared.cmp.Ordering.{Ordering}
use Rattle.std.specs.declared.cmp.Ordering.TheVariants.{Less, Equal, Greater}
use Rattle.judging.specs.declared.sides.Side.{Side}
use Rattle.judging.specs.declared.sides.Side.TheVariants.{Below, At, Above}

abbrev pub side_by : Ordering → Side
side_by Less = Below
side_by Equal = At
side_by Greater = Above
