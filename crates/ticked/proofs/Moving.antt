-- The trials as a table judges them are those of the definition.
use Rattle.std.proofs.Common.{◌≡◌, ℕ, zero, suc, false, refl}
use Rattle.tables.specs.Settings.{Setting}
use Rattle.tables.specs.Trials.{stepping as judged}
use Rattle.ticked.specs.declared.places.Place.{Place}
use Rattle.ticked.specs.Trials.{sides, making, stepping}

pub judged-is : (K : Setting) (p : Place) (t : ℕ) → judged (sides false) (making K) p t ≡ stepping K p t
judged-is K p zero = refl
judged-is K p (suc w) = refl
