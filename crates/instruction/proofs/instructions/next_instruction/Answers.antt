use Rattle.std.proofs.Common.{rules}
use Rattle.instruction.proofs.Told.{told, at_mark}
use Rattle.instruction.proofs.instructions.next_instruction.Goals as goal

pub returns : goal.returns
returns c = told _ _ _ _ _ _ (at_mark _ _ _ _ _ c.args.rest.now _ (search rules) c.saturating_sub-at.ensures c.marked.ensures)
