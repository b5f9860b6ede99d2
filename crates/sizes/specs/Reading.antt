-- Sizes, read from the left: the first fault counts.
use Rattle.std.specs.Prelude.{ℕ, ◌+◌, ◌-◌, ◌*◌, cond, ◌&&◌, List, [], ◌∷◌, ◌++◌, length, drop, Ok, Err, Result, nat_le}
use Rattle.instruction.specs.declared.faults.Fault.{Fault}
use Rattle.instruction.specs.declared.faults.Fault.TheVariants.{Ended, TooManyVariables, ValueCount, Product, TooManyClocks}
use Rattle.instruction.specs.declared.sections.Section.TheVariants.{Variables, Clocks}
use Rattle.instruction.specs.Reader.{and_then}

-- one number of values more, where the product so far is p
abbrev pub counted : ℕ → ℕ → ℕ → Result ℕ Fault
counted at p k = cond (nat_le 2 k && nat_le k 16) (cond (nat_le (p * k) 1024) (Ok (p * k)) (Err (Product at))) (Err (ValueCount at))

-- n numbers of values behind those of ns, whose product is p; end is the record's length
unfoldable pub counting : ℕ → ℕ → List ℕ → ℕ → List ℕ → Result (List ℕ) Fault
counting end ℕ.zero ns p bs = Ok ns
counting end (ℕ.suc n) ns p [] = Err (Ended Variables end)
counting end (ℕ.suc n) ns p (k ∷ bs) = and_then (counted (end - length (k ∷ bs)) p k) (λ q. counting end n (ns ++ (k ∷ [])) q bs)

-- section 1
abbrev pub variables : List ℕ → Result (List ℕ) Fault
variables [] = Err (Ended Variables 0)
variables (n ∷ bs) = cond (nat_le n 8) (counting (length (n ∷ bs)) n [] 1 bs) (Err TooManyVariables)

-- the number of clocks, at the front of what is left of a record of end bytes
abbrev pub clock_count : ℕ → List ℕ → Result ℕ Fault
clock_count end [] = Err (Ended Clocks end)
clock_count end (n ∷ bs) = cond (nat_le n 4) (Ok n) (Err (TooManyClocks (end - length (n ∷ bs))))

-- the numbers of values and the number of clocks
abbrev pub sizing : List ℕ → Result (List ℕ × ℕ) Fault
sizing bs = and_then (variables bs) (λ ns. and_then (clock_count (length bs) (drop (1 + length ns) bs)) (λ n. Ok (ns, n)))
