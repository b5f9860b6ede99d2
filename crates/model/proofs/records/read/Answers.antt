use Rattle.std.proofs.Common.{◌+◌, length, drop, ap, ◌∙◌}
use Rattle.std.proofs.lemmas.Result.{err_from_is_err_and}
use Rattle.std.proofs.lemmas.List.{take_rest}
use Rattle.instruction.specs.Counts.{value_counts}
use Rattle.model.proofs.Laws.{promised, read_by, refused-by}
use Rattle.model.proofs.records.read.Goals as goal

pub returns-in_err-sizes : goal.returns-in_err-sizes
returns-in_err-sizes c =
    let p = err_from_is_err_and c.from_residual.result c.from_residual.ensures.1 in
    promised c.args.bytes.now _ (rw (p.1, p.2) (refused-by c.args.bytes.now _ c.in_err-sizes.ensures.is.answer))

pub returns : goal.returns
returns c =
    promised c.args.bytes.now _ (read_by c.args.bytes.now (value_counts c.in_ok-sizes.sizes) _ _ _ c.in_ok-sizes.ensures.is.answer (take_rest c.args.bytes.now _ ∙ ap (λ ns. drop (length ns + 2) c.args.bytes.now) c.counts.ensures) c.read_sections.ensures)
