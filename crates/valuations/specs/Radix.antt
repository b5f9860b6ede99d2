-- Valuations in mixed radix, the first variable most significant.
use Rattle.std.specs.Prelude.{◌≡◌, ℕ, ◌+◌, ◌-◌, ◌*◌, ◌/◌, ◌%◌, ◌<◌, Bool, true, false, cond, ◌&&◌, List, [], ◌∷◌, ◌++◌, length, take, replicate, Some, None, Option, nat_lt}
use Rattle.instruction.specs.Sizes.{product}

-- the number of the valuation in which the variables have the values xs; ns has the numbers of values
unfoldable pub number : List ℕ → List ℕ → ℕ
number [] xs = 0
number (n ∷ ns) [] = 0
number (n ∷ ns) (x ∷ xs) = x * product ns + number ns xs

-- the value of each variable in valuation v
unfoldable pub digits : List ℕ → ℕ → List ℕ
digits [] v = []
digits (n ∷ ns) v = (v / product ns) % n ∷ digits ns v

-- every variable has one of its values
unfoldable pub within : List ℕ → List ℕ → Bool
within [] xs = true
within (n ∷ ns) [] = false
within (n ∷ ns) (x ∷ xs) = nat_lt x n && within ns xs

-- the same for eight variables, 0 where there is none
abbrev pub padded : List ℕ → ℕ → List ℕ
padded ns v = digits ns v ++ replicate (8 - length ns) 0

-- the values of a valuation, each variable's at its index
pub record Values (ns : List ℕ) (v : ℕ) (xs : List ℕ) : Type 0 where
  pub answer : xs ≡ padded ns v
  pub in_range : within ns xs ≡ true
  pub back : number ns xs ≡ v % product ns

-- the number of a valuation by its values, or nothing where a value is out of range
pub record Numbers (ns : List ℕ) (xs : List ℕ) (r : Option ℕ) : Type 0 where
  pub answer : r ≡ cond (within ns xs) (Some (number ns xs)) None
  pub bound : (v : ℕ) → r ≡ Some v → v < product ns
  pub back : (v : ℕ) → r ≡ Some v → digits ns v ≡ take (length ns) xs
