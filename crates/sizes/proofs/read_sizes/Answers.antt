use Rattle.std.proofs.Common.{◌≡◌, ℕ, List, ◌++◌, length, take, Ok, sym, refl, ◌∙◌, ap, arith}
use Rattle.std.proofs.lemmas.Result.{err_from_is_err_and}
use Rattle.std.proofs.lemmas.List.{take_rest, take_at}
use Rattle.instruction.specs.Sizes.{product, ranged}
use Rattle.sizes.proofs.Sizing.{variables-was, sizes-by, refused-by, undeclared-by, measured}
use Rattle.sizes.proofs.read_sizes.Goals as goal

pub returns-in_err-listed-clause-is : goal.returns-in_err-listed-clause-is
returns-in_err-listed-clause-is c =
    let p = err_from_is_err_and c.from_residual.result c.from_residual.ensures.1 in
    rw (p.1, p.2) (measured c.args.bytes.now _ (undeclared-by c.args.bytes.now _ c.in_err-listed.ensures.is))

pub returns-in_err-clocks-clause-is : goal.returns-in_err-clocks-clause-is
returns-in_err-clocks-clause-is c =
    let p = err_from_is_err_and c.from_residual-in_err-clocks.result c.from_residual-in_err-clocks.ensures.1 in
    let bs : List ℕ = c.args.bytes.now in
    rw (p.1, p.2) (measured bs _ (refused-by bs _ _ c.in_ok-listed.ensures.is (take_rest bs _) _ c.in_err-clocks.ensures.is))

-- the front of the array is what was copied into it
kept : (ls new back : List ℕ) → new ≡ ls → take (length ls) (new ++ back) ≡ ls
kept ls new back e = rw e (take_at ls back (length ls) refl)

pub invariant_of-result : goal.invariant_of-result
invariant_of-result c =
    let d = variables-was c.args.bytes.now c.in_ok-listed.listed.now (sym c.in_ok-listed.ensures.is) in
    let front = kept c.in_ok-listed.listed.now _ _ c.copy_from_slice.ensures.after in
    record { few_variables = d.few; few_clocks = c.in_ok-clocks.ensures.fits.0; in_range = ap ranged front ∙ d.countable.values; few_valuations = omega (arith, d.countable.valuations, ap product front) }

pub returns-clause-is : goal.returns-clause-is
returns-clause-is c =
    let bs : List ℕ = c.args.bytes.now in
    let front = kept c.in_ok-listed.listed.now _ _ c.copy_from_slice.ensures.after in
    measured bs _ (ap (λ ns. Ok (ns, c.in_ok-clocks.clocks)) front ∙ sizes-by bs _ _ c.in_ok-listed.ensures.is (take_rest bs _) _ c.in_ok-clocks.ensures.is)
