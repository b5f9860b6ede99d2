-- What is promised of the sizes of a record.
use Rattle.std.specs.Prelude.{◌≡◌, ℕ, ◌+◌, ◌<◌, ◌≤◌, true, List, [], ◌∷◌, ◌++◌, length, Ok, Err, Result}
use Rattle.instruction.specs.declared.faults.Fault.{Fault}
use Rattle.instruction.specs.declared.faults.Refusal.{Refusal}
use Rattle.instruction.specs.declared.sections.Section.TheVariants.{Variables, Clocks}
use Rattle.instruction.specs.Faults.{told, refusal}
use Rattle.instruction.specs.Sizes.{product, ranged}
use Rattle.sizes.specs.Reading.{sizing}

-- numbers of values that may be declared together
pub record Countable (ns : List ℕ) : Type 0 where
  pub values : ranged ns ≡ true
  pub valuations : product ns ≤ 1024

-- the record begins with these numbers of values and this number of clocks
pub record Sized (bs ns : List ℕ) (n : ℕ) : Type 0 where
  pub rest : List ℕ
  pub few : length ns ≤ 8
  pub countable : Countable ns
  pub clocks : n ≤ 4
  pub bytes : bs ≡ length ns ∷ (ns ++ (n ∷ rest))

-- the rule of sizes that a record breaks first, with number, section and position
pub data Unsized (bs : List ℕ) : Refusal → Type 0 where
  no_variables : bs ≡ [] → Unsized bs (told 1 Variables 0)
  many_variables : (n : ℕ) (rest : List ℕ) → bs ≡ n ∷ rest → 8 < n → Unsized bs (told 2 Variables 0)
  no_value_count : (n : ℕ) (ns : List ℕ) → bs ≡ n ∷ ns → n ≤ 8 → Countable ns → length ns < n → Unsized bs (told 1 Variables (length bs))
  bad_value_count : (n : ℕ) (ns : List ℕ) (k : ℕ) (rest : List ℕ) → bs ≡ n ∷ (ns ++ (k ∷ rest)) → n ≤ 8 → Countable ns → length ns < n → ((2 ≤ k) × (k ≤ 16) → ⊥) → Unsized bs (told 3 Variables (1 + length ns))
  many_valuations : (n : ℕ) (ns : List ℕ) (k : ℕ) (rest : List ℕ) → bs ≡ n ∷ (ns ++ (k ∷ rest)) → n ≤ 8 → Countable ns → length ns < n → 2 ≤ k → k ≤ 16 → 1024 < product (ns ++ (k ∷ [])) → Unsized bs (told 4 Variables (1 + length ns))
  no_clock_count : (ns : List ℕ) → bs ≡ length ns ∷ ns → length ns ≤ 8 → Countable ns → Unsized bs (told 1 Clocks (length bs))
  many_clocks : (ns : List ℕ) (n : ℕ) (rest : List ℕ) → bs ≡ length ns ∷ (ns ++ (n ∷ rest)) → length ns ≤ 8 → Countable ns → 4 < n → Unsized bs (told 5 Clocks (1 + length ns))

-- an answer to the bytes of a record
pub record Measures (bs : List ℕ) (r : Result (List ℕ × ℕ) Fault) : Type 0 where
  -- first fault from the left
  pub answer : r ≡ sizing bs
  -- accepted exactly when the record begins with sound sizes
  pub accepts : (ns : List ℕ) (n : ℕ) → Sized bs ns n → r ≡ Ok (ns, n)
  pub accepted : (ns : List ℕ) (n : ℕ) → r ≡ Ok (ns, n) → Sized bs ns n
  -- a refusal names a rule that is broken, behind a good beginning
  pub refused : (x : Fault) → r ≡ Err x → Unsized bs (refusal x)
