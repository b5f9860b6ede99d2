use Rattle.std.proofs.Common.{sym, ◌∙◌}
use Rattle.judging.specs.Judging.{seen}
use Rattle.model.specs.declared.layout.Role.TheVariants.{Transition}
use Rattle.tables.specs.Tables.{says_of}
use Rattle.runs.specs.Courses.{bytes_of, model_of, table_of, lasting_in}
use Rattle.runs.specs.Steps.{state_of}
use Rattle.runs.proofs.Lasting.{at-moment}
use Rattle.runs.proofs.Taking.{cleared-at, barred, invalid, jumps, allowed-is, clocks-are, valid-is}
use Rattle.runs.proofs.courses.Course.jumped.Goals as goal

pub returns-then-not-says : goal.returns-then-not-says
returns-then-not-says c =
    barred (table_of c.args.self.now) c.args.self.now.unit (state_of c.args.at) c.args.step c.requires.moves
    (sym (sym c.if-not-says.true ∙ c.says.ensures.answer ∙ at-moment c.args.self.now c.args.at.clocks _ (λ s. says_of (bytes_of c.args.self.now) (model_of c.args.self.now) Transition (seen c.values-old.result c.values-new.result s)) c.moment-before.ensures ∙ allowed-is (bytes_of c.args.self.now) (model_of c.args.self.now) c.args.self.now.unit c.args.at.valuation c.args.step.valuation c.args.at.clocks _ _ c.values-old.ensures.answer c.values-new.ensures.answer))

pub returns-then-not-valid : goal.returns-then-not-valid
returns-then-not-valid c =
    invalid (table_of c.args.self.now) c.args.self.now.unit (state_of c.args.at) c.args.step c.requires.moves
    (sym (sym c.if-not-valid.true ∙ c.valid.ensures ∙ at-moment c.args.self.now c.reset_clocks-clocks.result _ (lasting_in c.args.self.now c.values-new.result) c.moment.ensures ∙ valid-is (bytes_of c.args.self.now) (model_of c.args.self.now) c.args.self.now.unit c.args.at.valuation c.args.step.valuation c.args.at.clocks _ _ c.values-old.ensures.answer c.values-new.ensures.answer _ (c.reset_clocks-clocks.ensures ∙ cleared-at c.args.self.now c.args.at.clocks c.values-old.result c.values-new.result _ c.moment-before.ensures)))

pub returns : goal.returns
returns c =
    let course = c.args.self.now in
    let v = c.args.at.valuation in
    let w = c.args.step.valuation in
    let xs = c.args.at.clocks in
    let o = c.values-old.ensures.answer in
    let n = c.values-new.ensures.answer in
    jumps (table_of course) course.unit (state_of c.args.at) c.args.step (record { valuation = w; clocks = c.reset_clocks-clocks.result }) c.requires.moves c.requires.still c.requires.within
    (sym (sym c.if-not-says.false ∙ c.says.ensures.answer ∙ at-moment c.args.self.now c.args.at.clocks _ (λ s. says_of (bytes_of c.args.self.now) (model_of c.args.self.now) Transition (seen c.values-old.result c.values-new.result s)) c.moment-before.ensures ∙ allowed-is (bytes_of course) (model_of course) course.unit v w xs _ _ o n))
    (sym (sym c.if-not-valid.false ∙ c.valid.ensures ∙ at-moment c.args.self.now c.reset_clocks-clocks.result _ (lasting_in c.args.self.now c.values-new.result) c.moment.ensures ∙ valid-is (bytes_of course) (model_of course) course.unit v w xs _ _ o n _ (c.reset_clocks-clocks.ensures ∙ cleared-at c.args.self.now c.args.at.clocks c.values-old.result c.values-new.result _ c.moment-before.ensures)))
    (clocks-are (bytes_of course) (model_of course) course.unit v w xs _ _ o n _ (c.reset_clocks-clocks.ensures ∙ cleared-at c.args.self.now c.args.at.clocks c.values-old.result c.values-new.result _ c.moment-before.ensures))
