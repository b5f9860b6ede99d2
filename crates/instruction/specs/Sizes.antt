-- The numbers of values and their product.
use Rattle.std.specs.Prelude.{ℕ, ◌*◌, Bool, true, ◌&&◌, List, [], ◌∷◌, nat_le}

-- the number of valuations
abbrev pub product : List ℕ → ℕ
product [] = 1
product (n ∷ ns) = n * product ns

-- every variable has from 2 to 16 values
abbrev pub ranged : List ℕ → Bool
ranged [] = true
ranged (n ∷ ns) = (nat_le 2 n && nat_le n 16) && ranged ns
