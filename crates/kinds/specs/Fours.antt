-- Four clocks of any make, as a list.
use Rattle.std.specs.Prelude.{ℕ, List, [], ◌∷◌}

abbrev pub four : {C : Type 0} → (ℕ → C) → List C
four f = f 0 ∷ f 1 ∷ f 2 ∷ f 3 ∷ []
