use Rattle.std.proofs.Common.{◌≡◌, ◌+◌, ◌-◌, false, get_or, take, set, ap, ◌∙◌, subst, arith}
use Rattle.delays.specs.Pace.{wait_of, parts_after, delays_after}
use Rattle.delays.specs.Widens.{Widens}
use Rattle.kinds.specs.Steps.{with_delay, trials_of}
use Rattle.dense.proofs.Bounded.{fitting-few, fitting-all, parts_more, fractions-within}
use Rattle.dense.proofs.Spelled.{none, filled}
use Rattle.dense.proofs.Advancing.{kept, widening}
use Rattle.dense.proofs.timings.advance.Goals as goal
use Rattle.dense.proofs.timings.advance.Goals.{in-Leaving, in_default}

pub returns : goal.returns
returns c =
    let x = c.args.passing in
    let D = c.args.pace.parts in
    let fs = c.args.pace.fractions in
    let ps = c.args.steps.now in
    let i = c.args.i in
    let xs = c.match-passing.steps in
    let wait = wait_of x D fs in
    let same : i - 0 ≡ i = omega arith in
    let all : set xs i (with_delay (get_or xs i none) wait) ≡ filled (i + 1) ps (delays_after x D wait (trials_of (take i ps))) =
    elim c.match-passing.branch [ in-Leaving w ↦ widening ps i c.requires.place xs wait x D w.widen.new.steps w.in-Leaving.is c.requires.short c.requires.few c.requires.delays (subst (λ k. Widens (take k ps) D w.widen.new.steps) same w.widen.ensures) (rw same at w.steps-is) | in_default w ↦ kept ps i c.requires.place xs wait x D w.in_default.not-Leaving w.steps-is ] in
    record {
      parts = c.after.ensures.parts ∙ fitting-few (parts_after x D) (parts_more x D 65535 c.requires.few);
      fractions = c.after.ensures.fractions ∙ fitting-all _ (λ k. omega (arith, parts_more x D 65535 c.requires.few, fractions-within x (λ c'. get_or c.args.ranked c' false) D fs c.requires.fractions k));
      steps = ap (λ w. set xs i (with_delay (get_or xs i none) w)) c.wait-wait.ensures ∙ all;
    }
