use Rattle.std.proofs.Common.{◌<◌, ◌≤◌, length, refl, arith}
use Rattle.tables.specs.Made.{made}
use Rattle.dense.specs.Trials.{stepping}
use Rattle.dense.proofs.Filling.{begins, few, fractions-few, delays-few, turn, whole}
use Rattle.dense.proofs.kind.Dense.fill.Goals as goal

pub steps-init : goal.steps-init
steps-init c = begins c.args.first (stepping (made c.args.self.now.setting)) c.args.steps.now

pub attempt-pace-requires : goal.attempt-pace-requires
attempt-pace-requires c =
    let step = stepping (made c.args.self.now.setting) in
    let less : c.steps.i < length c.args.steps.now = omega arith in
    let here : c.steps.i < length c.steps.steps = omega arith in
    record {
      place = here;
      short = omega arith;
      few = few c.args.first step c.args.steps.now c.steps.i c.steps.steps c.steps.at c.steps.pace.parts c.steps.pace.fractions less c.steps.invariant (omega arith);
      fractions = fractions-few c.args.first step c.args.steps.now c.steps.i c.steps.steps c.steps.at c.steps.pace.parts c.steps.pace.fractions less c.steps.invariant;
      delays = delays-few c.args.first step c.args.steps.now c.steps.i c.steps.steps c.steps.at c.steps.pace.parts c.steps.pace.fractions less c.steps.invariant;
    }

pub steps-preserved : goal.steps-preserved
steps-preserved c =
    let step = stepping (made c.args.self.now.setting) in
    let less : c.steps.i < length c.args.steps.now = omega arith in
    turn c.args.first step c.args.steps.now c.steps.i c.steps.steps c.steps.at c.steps.pace.parts c.steps.pace.fractions less c.steps.invariant _ c.onward-next.result c.attempt-pace.new.steps c.attempt-pace.result.parts c.attempt-pace.result.fractions
    refl c.onward-next.ensures.nowhere c.onward-next.ensures.place c.attempt-pace.ensures.parts c.attempt-pace.ensures.fractions c.attempt-pace.ensures.steps

pub returns : goal.returns
returns c =
    let step = stepping (made c.args.self.now.setting) in
    let over : length c.args.steps.now ≤ c.steps.i = omega arith in
    let w = whole c.args.first step c.args.steps.now c.steps.i c.steps.steps c.steps.at c.steps.pace.parts c.steps.pace.fractions over c.steps.invariant in
    record { parts = w.0; steps = w.1 }
