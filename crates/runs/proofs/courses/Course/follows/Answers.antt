use Rattle.std.proofs.Common.{◌<◌, get_or, sym, refl, ◌∙◌, arith}
use Rattle.kinds.specs.declared.steps.Step.{Step}
use Rattle.runs.specs.Courses.{table_of, model_of, size_of}
use Rattle.tables.specs.Tables.{asked}
use Rattle.runs.specs.Runs.{OneStep}
use Rattle.runs.specs.Steps.{state_of}
use Rattle.runs.proofs.Following.{stay-small, fine_more, each-fine, ahead, behind, nowhere, arrived}
use Rattle.runs.proofs.courses.Course.follows.Goals as goal

-- past the end
abbrev none : Step
none = record { kind = 0; valuation = 0; delay = 0 }

pub next_state-requires : goal.next_state-requires
next_state-requires c =
    let i : c.steps.step-index < 65535 = omega (arith, c.requires.short, c.steps-test.true) in
    record {
      room = (omega (arith, c.steps.invariant.1.0), omega (arith, c.steps.invariant.1.1), omega (arith, c.steps.invariant.1.2), omega (arith, c.steps.invariant.1.3));
      fine = each-fine (size_of c.args.self.now) c.args.steps.now c.steps.step-index _ c.steps-test.true c.steps.invariant.0;
    }

pub returns-in_default : goal.returns-in_default
returns-in_default c =
    nowhere (table_of c.args.self.now) (asked c.args.question.now (model_of c.args.self.now)) c.args.self.now.unit c.args.steps.now c.steps.step-index none (state_of c.steps.at) c.steps-test.true
    (c.in_default.ensures.is.stuck refl) c.steps.invariant.3

pub steps-preserved : goal.steps-preserved
steps-preserved c =
    let course = c.args.self.now in
    let question = asked c.args.question.now (model_of course) in
    let ps = c.args.steps.now in
    let i = c.steps.step-index in
    let s = state_of c.steps.at in
    let t = state_of c.in-Some.next in
    let o : OneStep (table_of course) course.unit s (get_or ps i none) t = c.in-Some.ensures.is.taken c.in-Some.next refl in
    let f = each-fine (size_of course) ps i none c.steps-test.true c.steps.invariant.0 in (
      sym (fine_more (size_of course) ps i none c.steps-test.true f) ∙ c.steps.invariant.0,
      stay-small (table_of course) course.unit i s (get_or ps i none) c.in-Some.ensures.short c.steps.invariant.1 o,
      ahead (table_of course) question course.unit ps i none s t c.steps-test.true o c.steps.invariant.2,
      behind (table_of course) question course.unit ps i none s t c.steps-test.true o c.steps.invariant.3,
    )

pub returns : goal.returns
returns c =
    arrived (table_of c.args.self.now) (asked c.args.question.now (model_of c.args.self.now)) c.args.self.now.unit c.args.steps.now c.steps.step-index (state_of c.steps.at) c.asks.result c.steps-test.false c.asks.ensures
    c.steps.invariant.2 c.steps.invariant.3
