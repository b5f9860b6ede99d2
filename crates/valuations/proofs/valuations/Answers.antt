-- The chain gives the numbers of values, so its product is theirs.
use Rattle.std.proofs.Common.{ap, ◌∙◌, arith, rules}
use Rattle.std.proofs.lemmas.Iterator.{YieldsList-from_slice, YieldsList-from_map}
use Rattle.instruction.specs.Sizes.{product, ranged}
use Rattle.valuations.proofs.Products.{product-is, product-fits}
use Rattle.valuations.proofs.valuations.Goals as goal

pub product-requires-clause-fits : goal.product-requires-clause-fits
product-requires-clause-fits c =
    product-fits c.counts.result.now
    (YieldsList-from_map _ (λ n. n) (YieldsList-from_slice c.counts.result.now cc) c.map.ensures.closure (λ x r q k. search rules))
    _
    (ap ranged c.counts.ensures ∙ c.args.sizes.now.in_range)
    (omega (arith, ap product c.counts.ensures, c.args.sizes.now.few_valuations))

pub returns : goal.returns
returns c =
    product-is c.counts.result.now
    (YieldsList-from_map _ (λ n. n) (YieldsList-from_slice c.counts.result.now cc) c.map.ensures.closure (λ x r q k. search rules))
    _ c.product.ensures.ran
    ∙ ap product c.counts.ensures
