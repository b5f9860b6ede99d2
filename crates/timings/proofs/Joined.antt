-- States through the places of a chain make a run.
use Rattle.std.proofs.Common.{◌≡◌, ℕ, suc, false, eqb, List, [], ◌∷◌, ◌++◌, arith}
use Rattle.std.proofs.lemmas.Bool.Decides.{nat_tests}
use Rattle.kinds.specs.declared.steps.Step.{Step}
use Rattle.kinds.specs.Time.{Meaning}
use Rattle.runs.specs.Runs.{State, first, Begins, OneStep, Run, stop, on}
use Rattle.tables.specs.Tables.{Table}
use Rattle.timings.specs.Through.{step_for, Through, begin, next}

-- a trial past the first is a discrete step
pub not-elapse : (w : ℕ) → eqb (suc w) 0 ≡ false
not-elapse w = grind (arith, nat_tests)

-- a run to a state
pub record Joined (T : Table) (D i : ℕ) (u : State) : Type 0 where
  pub steps : List Step
  pub begins : Begins T D i
  pub run : Run T D (first i) steps u

longer : {T : Table} {D : ℕ} {s t u : State} {steps : List Step} (p : Step) → Run T D s steps t → OneStep T D t p u → Run T D s (steps ++ (p ∷ [])) u
longer p stop o = on p o stop
longer p (on x a b) o = on x a (longer p b o)

pub joined : {P : Type 0} {k : Meaning P} {T : Table} {Region : State → P → Type 0} {D i : ℕ} {is ds : List ℕ} {u : State} {p : P} → Through k T Region D i is ds u p → Joined T D i u
joined (begin p b e r) = record { steps = []; begins = b; run = stop }
joined {k = k} (next t d u q h e o r) =
    let j = joined h in
    record { steps = j.steps ++ (step_for t (k.valuation q) d ∷ []); begins = j.begins; run = longer (step_for t (k.valuation q) d) j.run o }

-- its last place is the region of its last state
pub arrived : {P : Type 0} {k : Meaning P} {T : Table} {Region : State → P → Type 0} {D i : ℕ} {is ds : List ℕ} {u : State} {p : P} → Through k T Region D i is ds u p → Region u p
arrived (begin p b e r) = r
arrived (next t d u q h e o r) = r
