-- The slot number of a place.
use Rattle.std.specs.Prelude.{ℕ, ◌+◌, ◌*◌, ◌/◌}
use Rattle.kinds.specs.Slots.{mixing}
use Rattle.regions.specs.declared.clocks.Clock.{Clock}
use Rattle.regions.specs.declared.clocks.Clock.TheVariants.{Over, Counted}
use Rattle.regions.specs.declared.places.Place.{Place}
use Rattle.regions.specs.Clocks.{at}

abbrev pub code : Clock → ℕ
code Over = 7
code (Counted w r) = w * 8 + r

abbrev pub slot_of : Place → ℕ
slot_of p =
    mixing (mixing (mixing (mixing (mixing 0 p.valuation) (code (at p.clocks 0))) (code (at p.clocks 1))) (code (at p.clocks 2))) (code (at p.clocks 3)) / 65536
