use Rattle.std.proofs.Common.{ℕ, List, sym, ◌∙◌, rules}
use Rattle.std.proofs.lemmas.Result.{err_from_is_err_and}
use Rattle.sizes.proofs.Turns.{variables-are, listed-is, count-again, count-refused, count-missing, count-done}
use Rattle.sizes.proofs.read_counts.Goals as goal

pub returns-in_err-product-clause-is : goal.returns-in_err-product-clause-is
returns-in_err-product-clause-is c =
    let p = err_from_is_err_and c.from_residual.result c.from_residual.ensures.1 in
    let bs : List ℕ = c.args.bytes.now in
    rw (p.1, p.2)
    (sym (variables-are bs (search rules) c.if-variables-gt-MOST_VARIABLES.false ∙ sym c.variables.invariant.1
    ∙ count-refused bs _ _ (listed-is bs _ _ c.min.ensures) c.variables.i _ c.variables-test.true _ (sym c.in_err-product.ensures)))

pub variables-preserved : goal.variables-preserved
variables-preserved c =
    let bs : List ℕ = c.args.bytes.now in
    let e = count-again bs _ _ (listed-is bs _ _ c.min.ensures) c.variables.i _ c.variables-test.true _ (sym c.in_ok-product.ensures) in
    (e.0, sym e.1 ∙ c.variables.invariant.1)

pub returns-then-listed-wanted-clause-is : goal.returns-then-listed-wanted-clause-is
returns-then-listed-wanted-clause-is c =
    let bs : List ℕ = c.args.bytes.now in
    sym (variables-are bs (search rules) c.if-variables-gt-MOST_VARIABLES.false ∙ sym c.variables.invariant.1
    ∙ count-missing bs _ _ (listed-is bs _ _ c.min.ensures) c.variables.i c.variables.product c.variables-test.false c.variables.auto.i-end c.if-listed-wanted.true)

pub returns-clause-is : goal.returns-clause-is
returns-clause-is c =
    let bs : List ℕ = c.args.bytes.now in
    sym (variables-are bs (search rules) c.if-variables-gt-MOST_VARIABLES.false ∙ sym c.variables.invariant.1
    ∙ count-done bs _ _ (listed-is bs _ _ c.min.ensures) c.variables.i c.variables.product c.variables-test.false c.variables.auto.i-end c.if-listed-wanted.false)
