-- The laws of both functions, from the answer alone.
use Rattle.std.proofs.Common.{◌≡◌, ℕ, ◌-◌, true, false, List, ◌++◌, length, replicate, Some, None, ap, ◌∙◌, arith}
use Rattle.instruction.specs.Sizes.{ranged}
use Rattle.valuations.specs.Radix.{number, digits, within, Values, Numbers}
use Rattle.valuations.proofs.Radix.{digits-within, number_digits, number-below, digits_number}

module _ (ns : List ℕ) (h : ranged ns ≡ true) where
  pub valued : (v : ℕ) (xs : List ℕ) → xs ≡ digits ns v ++ replicate (8 - length ns) 0 → Values ns v xs
  valued v xs e =
      record {
        answer = e;
        in_range = ap (within ns) e ∙ digits-within ns v (replicate (8 - length ns) 0) h;
        back = ap (number ns) e ∙ number_digits ns v (replicate (8 - length ns) 0) h;
      }

  pub unnumbered : (xs : List ℕ) → within ns xs ≡ false → Numbers ns xs None
  unnumbered xs w =
      record {
        answer = simp w;
        bound = λ v e. absurd (let z : ◌≡◌ {A = ℕ} 0 1 = cc in omega arith);
        back = λ v e. absurd (let z : ◌≡◌ {A = ℕ} 0 1 = cc in omega arith);
      }

  pub numbered : (xs : List ℕ) (r : ℕ) → within ns xs ≡ true → r ≡ number ns xs → Numbers ns xs (Some r)
  numbered xs r w e =
      record {
        answer = simp (w, e);
        bound = λ v s. let a : v ≡ number ns xs = cc in rw a (number-below ns xs w);
        back = λ v s. let a : v ≡ number ns xs = cc in rw a (digits_number ns xs h w);
      }
