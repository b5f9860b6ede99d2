-- From the last step to the first, each is widened by what those behind add up to.
use Rattle.std.proofs.Common.{◌≡◌, ◌+◌, ◌-◌, ◌<◌, ◌≤◌, length, refl, arith}
use Rattle.kinds.specs.declared.steps.Step.{Step}
use Rattle.delays.proofs.Stretching.{total-end, wide-end, total-turn, front-turn, wide-turn, widens}
use Rattle.delays.proofs.widening.widen.Goals as goal

-- what is read past the last step
abbrev none : Step
none = record { kind = 0; valuation = 0; delay = 0 }

pub steps-init : goal.steps-init
steps-init c =
    let all : length c.args.steps.now ≤ length c.args.steps.now = omega arith in
    (total-end _ _ all, omega arith, refl, wide-end _ _ _ all)

pub steps-preserved : goal.steps-preserved
steps-preserved c =
    let next : c.steps.i - 1 + 1 ≡ c.steps.i = omega (arith, c.steps-test.true) in
    let less : c.steps.i - 1 < length c.args.steps.now = omega (arith, c.steps-test.true) in
    let here : c.steps.i - 1 < length c.steps.steps = omega (arith, c.steps-test.true) in (
      total-turn _ _ c.steps.steps _ none next less c.steps.invariant.2 _ c.steps.invariant.0,
      omega arith,
      front-turn _ _ c.steps.steps _ none next less c.steps.invariant.2 _,
      wide-turn _ _ c.steps.steps _ none next less c.steps.invariant.2 _ _ _ here c.steps.invariant.0 c.widened_delay.ensures.is c.steps.invariant.3,
    )

pub returns : goal.returns
returns c = widens c.args.parts c.steps.i c.steps.steps _ (omega arith) c.steps-test.false c.steps.invariant.3
