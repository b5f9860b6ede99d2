-- The chain gives the height of each reset formula.
use Rattle.std.proofs.Common.{ℕ, List, arith, rules}
use Rattle.std.proofs.lemmas.Iterator.{YieldsList-from_range, YieldsList-from_map}
use Rattle.std.proofs.lemmas.Iterator.Consumers.{reduce_from_yields_List}
use Rattle.model.specs.declared.layout.Span.{Span}
use Rattle.model.specs.Reading.{Layout, layout}
use Rattle.ceilings.proofs.Resets.{height_by, height_is, peak-is}
use Rattle.ceilings.proofs.height_of_resets.Goals as goal

pub returns : goal.returns
returns c =
    let bs : List ℕ = c.args.pack.now.bytes.now in
    let y : Layout = layout c.args.pack.now.model.now in
    let resets : List Span = c.args.pack.now.model.now.resets in
    let n : ℕ = c.args.pack.now.model.now.sizes.clocks in
    peak-is bs y c.args.clock resets n _ _ c.unwrap_or.ensures
    (reduce_from_yields_List _ _ _ c.max.ensures.ran
    (YieldsList-from_map _ (height_by bs y c.args.clock resets n) (YieldsList-from_range 0 n n (cc) (omega arith)) c.map.ensures.closure (λ i r q k. (search rules, height_is bs y c.args.clock resets n i r (search rules)))))
