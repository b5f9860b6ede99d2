use Rattle.std.proofs.Common.{subst}
use Rattle.std.proofs.lemmas.Result.{err_from_is_err_and}
use Rattle.tables.specs.Tables.{table_in, asked}
use Rattle.runs.specs.Instants.{Tells}
use Rattle.runs.specs.Runs.{Leads, first}
use Rattle.runs.proofs.Checked.{bad-question, bad-numbers, bad-steps, no_start, led}
use Rattle.runs.proofs.checking.check_run.Goals as goal

pub returns-in_err-read_question : goal.returns-in_err-read_question
returns-in_err-read_question c =
    let p = err_from_is_err_and c.from_residual.result c.from_residual.ensures.1 in
    rw (p.1, p.2) (bad-question c.in_err-read_question.ensures.answer)

pub returns-then-not-are_numbered : goal.returns-then-not-are_numbered
returns-then-not-are_numbered c =
    bad-numbers c.in_ok-read_question.ensures.answer c.valuations-valuations.ensures c.if-not-are_numbered.ensures

pub returns-in_err-check_steps : goal.returns-in_err-check_steps
returns-in_err-check_steps c =
    let p = err_from_is_err_and c.from_residual-in_err-check_steps.result c.from_residual-in_err-check_steps.ensures.1 in
    rw (p.1, p.2) (bad-steps c.in_ok-read_question.ensures.answer c.valuations-valuations.ensures c.if-not-are_numbered.ensures c.in_err-check_steps.ensures)

pub returns-then-not-begins : goal.returns-then-not-begins
returns-then-not-begins c =
    no_start c.in_ok-read_question.ensures.answer c.valuations-valuations.ensures c.if-not-are_numbered.ensures c.in_ok-check_steps.ensures
    c.if-not-begins.ensures

pub returns : goal.returns
returns c =
    led c.in_ok-read_question.ensures.answer c.valuations-valuations.ensures c.if-not-are_numbered.ensures c.in_ok-check_steps.ensures
    c.if-not-begins.ensures
    (subst (λ p. Tells c.follows.result (Leads (table_in p.bytes.now p.model.now) (asked c.args.question.now p.model.now) c.args.parts (first c.args.start) c.args.steps.now)) c.of.ensures c.follows.ensures)
