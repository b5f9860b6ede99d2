use Rattle.std.proofs.Common.{rules}
use Rattle.tables.proofs.Systems.{in-system}
use Rattle.tables.proofs.formulas.says.Goals as goal

pub returns-in-Some : goal.returns-in-Some
returns-in-Some g c =
    record { answer = search rules; system = in-system c.args.pack.now.bytes.now c.args.pack.now.model.now }

pub returns-in-None : goal.returns-in-None
returns-in-None g c =
    record { answer = search rules; system = in-system c.args.pack.now.bytes.now c.args.pack.now.model.now }
