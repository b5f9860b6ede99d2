-- The laws of the run check from its parts.
use Rattle.std.proofs.Common.{◌≡◌, ℕ, Bool, true, false, List, Ok, Err, Result, sym, refl, ap, ◌∙◌}
use Rattle.std.proofs.lemmas.Bool.{false≢true}
use Rattle.instruction.specs.declared.faults.Fault.{Fault}
use Rattle.instruction.specs.declared.faults.Fault.TheVariants.{RunNumbers}
use Rattle.instruction.specs.Counts.{value_counts}
use Rattle.instruction.specs.Sizes.{product}
use Rattle.instruction.proofs.Inverse.{never-ok}
use Rattle.model.specs.declared.layout.Model.{Model}
use Rattle.model.specs.Questions.{questioning}
use Rattle.kinds.specs.declared.steps.Step.{Step}
use Rattle.runs.specs.Checks.{numbered, stepping, admitting, Checks}
use Rattle.runs.specs.Instants.{Tells}
use Rattle.runs.specs.Runs.{Begins, Leads, Reaches, first}
use Rattle.tables.specs.Tables.{table_in, asked}
use Rattle.tables.proofs.Systems.{in-system, asks}

abbrev admitted : Model → List ℕ → ℕ → ℕ → List Step → Result (Unit {0}) Fault
admitted m q v D steps = admitting (value_counts m.sizes) m.sizes.clocks q v D steps

abbrev Asks : Model → List ℕ → Type 0
Asks m q = Ok tt ≡ questioning (value_counts m.sizes) m.sizes.clocks q

-- where the question and the numbers are fine, the steps decide
rest-is : (m : Model) (q : List ℕ) (v D S : ℕ) (steps : List Step) (r : Result (Unit {0}) Fault) → Asks m q → S ≡ product (value_counts m.sizes) → true ≡ numbered S v D steps → r ≡ stepping S 0 steps → admitted m q v D steps ≡ r
rest-is m q v D S steps r good size e f =
    let n : numbered (product (value_counts m.sizes)) v D steps ≡ true = sym (e ∙ ap (λ k. numbered k v D steps) size) in
    simp (sym good, n) (sym (f ∙ ap (λ k. stepping k 0 steps) size))

module _ {bs : List ℕ} {m : Model} {q : List ℕ} {v D : ℕ} {steps : List Step} where
  refused-with : (x : Fault) → admitted m q v D steps ≡ Err x → Checks bs m q v D steps (Err x)
  refused-with x e =
      record {
        refused = λ y f. let same : x ≡ y = cc in ap Err same;
        answered = λ f. never-ok x tt _ (sym e ∙ f);
        system = in-system bs m;
        question = λ f h w. asks (value_counts m.sizes) m.sizes.clocks q f w h;
      }

  answered-with : (b : Bool) → admitted m q v D steps ≡ Ok tt → Tells b (Reaches (table_in bs m) (asked q m) D v steps) → Checks bs m q v D steps (Ok b)
  answered-with b e t =
      record {
        refused = λ y f. never-ok y tt _ (sym f ∙ e);
        answered = λ _. (b, refl, t);
        system = in-system bs m;
        question = λ f h w. asks (value_counts m.sizes) m.sizes.clocks q f w h;
      }

  pub bad-question : {x : Fault} → Err x ≡ questioning (value_counts m.sizes) m.sizes.clocks q → Checks bs m q v D steps (Err x)
  bad-question {x} e = refused-with x (simp (sym e))

  module _ (good : Asks m q) {S : ℕ} (size : S ≡ product (value_counts m.sizes)) where
    pub bad-numbers : false ≡ numbered S v D steps → Checks bs m q v D steps (Err (RunNumbers 0))
    bad-numbers e =
        let f : numbered (product (value_counts m.sizes)) v D steps ≡ false = sym (e ∙ ap (λ k. numbered k v D steps) size) in
        refused-with (RunNumbers 0) (simp (sym good, f))

    pub bad-steps : {x : Fault} → true ≡ numbered S v D steps → Err x ≡ stepping S 0 steps → Checks bs m q v D steps (Err x)
    bad-steps {x} e f = refused-with x (rest-is m q v D S steps (Err x) good size e f)

    pub no_start : true ≡ numbered S v D steps → Ok tt ≡ stepping S 0 steps → Tells false (Begins (table_in bs m) D v) → Checks bs m q v D steps (Ok false)
    no_start e f t =
        answered-with false (rest-is m q v D S steps (Ok tt) good size e f) (record { yes = λ z. absurd (false≢true z); back = λ a. t.back a.begins })

    pub led : {b : Bool} → true ≡ numbered S v D steps → Ok tt ≡ stepping S 0 steps → Tells true (Begins (table_in bs m) D v) → Tells b (Leads (table_in bs m) (asked q m) D (first v) steps) → Checks bs m q v D steps (Ok b)
    led {b} e f t l =
        answered-with b (rest-is m q v D S steps (Ok tt) good size e f) (record { yes = λ z. record { begins = t.yes refl; leads = l.yes z }; back = λ a. l.back a.leads })
