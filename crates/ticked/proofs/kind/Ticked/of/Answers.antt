use Rattle.std.proofs.Common.{ap, subst}
use Rattle.ceilings.specs.Ceilings.{Ceilings}
use Rattle.model.specs.Reading.{layout}
use Rattle.tables.specs.Made.{made}
use Rattle.tables.proofs.Systems.{undeclared}
use Rattle.ticked.proofs.Occurring.{ticking}
use Rattle.ticked.proofs.kind.Ticked.of.Goals as goal

pub returns : goal.returns
returns c =
    record { bytes = ap (λ p. p.bytes.now) c.of.ensures; model = ap (λ p. p.model.now) c.of.ensures; ceilings = subst (λ p. Ceilings p.bytes.now (layout p.model.now) c.of.result.ceilings) c.of.ensures c.of.result.heights; ticking = ticking (made c.of.result) (undeclared c.of.result.pack.bytes.now c.of.result.pack.model.now) }
