use Rattle.std.proofs.Common.{get_or, sym, ap, ◌∙◌, subst}
use Rattle.std.proofs.lemmas.Bool.{both_ways}
use Rattle.judging.specs.Judging.{seen}
use Rattle.model.specs.declared.layout.Role.TheVariants.{Urgent}
use Rattle.tables.specs.Tables.{says_of}
use Rattle.runs.specs.Courses.{bytes_of, model_of, table_of}
use Rattle.runs.specs.Instants.{sides_at}
use Rattle.runs.specs.Steps.{state_of}
use Rattle.runs.proofs.Lasting.{Lasts, holds-by, at-moment}
use Rattle.runs.proofs.Taking.{elsewhere, urgent, broken-off, waited, valued, to-run, from-run}
use Rattle.runs.proofs.courses.Course.elapsed.Goals as goal

pub returns-then-step-at : goal.returns-then-step-at
returns-then-step-at c = elsewhere (table_of c.args.self.now) c.args.self.now.unit (state_of c.args.at) c.args.step c.requires.elapses c.if-step-at.true

pub returns-then-holds : goal.returns-then-holds
returns-then-holds c =
    let course = c.args.self.now in
    urgent (table_of course) course.unit (state_of c.args.at) c.args.step c.requires.elapses
    (sym (sym c.if-holds.true ∙ c.holds.ensures ∙ at-moment course c.args.at.clocks _ (λ s. says_of (bytes_of course) (model_of course) Urgent (seen c.values-values.result c.values-values.result s)) c.moment-moment.ensures ∙ ap (λ y. says_of (bytes_of course) (model_of course) Urgent (seen y y (sides_at course.unit (λ k. get_or c.args.at.clocks k 0)))) c.values-values.ensures.answer))

pub returns-then-not-lasts : goal.returns-then-not-lasts
returns-then-not-lasts c =
    let course = c.args.self.now in
    let d = c.args.step.delay in
    broken-off (table_of course) course.unit (state_of c.args.at) c.args.step c.requires.elapses
    (λ h. both_ways c.lasts.result c.if-not-lasts.true (c.lasts.ensures.back (subst (λ y. Lasts course y c.args.at.clocks d) (sym c.values-values.ensures.answer) (from-run (bytes_of course) (model_of course) course.setting.ceilings course.unit c.args.at.valuation c.args.at.clocks (holds-by course (valued course c.args.at.valuation)) d h))))

pub returns : goal.returns
returns c =
    let course = c.args.self.now in
    let d = c.args.step.delay in
    waited (table_of course) course.unit (state_of c.args.at) c.args.step (record { valuation = c.args.at.valuation; clocks = c.grown-clocks.result }) c.requires.elapses c.if-step-at.false
    (sym (sym c.if-holds.false ∙ c.holds.ensures ∙ at-moment course c.args.at.clocks _ (λ s. says_of (bytes_of course) (model_of course) Urgent (seen c.values-values.result c.values-values.result s)) c.moment-moment.ensures ∙ ap (λ y. says_of (bytes_of course) (model_of course) Urgent (seen y y (sides_at course.unit (λ k. get_or c.args.at.clocks k 0)))) c.values-values.ensures.answer))
    (to-run (bytes_of course) (model_of course) course.setting.ceilings course.unit c.args.at.valuation c.args.at.clocks (holds-by course (valued course c.args.at.valuation)) d (subst (λ y. Lasts course y c.args.at.clocks d) c.values-values.ensures.answer (c.lasts.ensures.yes c.if-not-lasts.false)))
    (ap (λ y. record { valuation = c.args.at.valuation; clocks = y }) (sym c.grown-clocks.ensures))
