use Rattle.std.proofs.Common.{◌≡◌, ◌+◌, ◌≤◌, length, get_or, sym, ap, ◌∙◌, arith}
use Rattle.runs.specs.Courses.{lasting_in}
use Rattle.runs.proofs.Lasting.{holds-by, at-moment, wait-at, not_after, to_the_end, not-met, goes_on, comes_back, ended}
use Rattle.runs.proofs.courses.Course.lasts.Goals as goal

pub returns-then-not-valid : goal.returns-then-not-valid
returns-then-not-valid c =
    not_after (lasting_in c.args.self.now c.args.values.now) c.args.self.now.unit c.events.clocks c.args.self.now.setting.ceilings (holds-by c.args.self.now c.args.values.now) c.events.delay c.just_after.result c.events-test.true
    c.just_after.ensures (sym c.if-not-valid.true ∙ c.valid.ensures) c.events.invariant.3

pub returns-then-wait-delay : goal.returns-then-wait-delay
returns-then-wait-delay c =
    to_the_end (lasting_in c.args.self.now c.args.values.now) c.args.self.now.unit c.events.clocks c.args.self.now.setting.ceilings (holds-by c.args.self.now c.args.values.now) c.events.delay c.soonest-wait.result c.just_after.result
    c.events-test.true c.if-wait-delay.true (wait-at c.args.self.now c.events.clocks _ _ _ c.moment.ensures c.soonest-wait.ensures) c.just_after.ensures (sym c.if-not-valid.false ∙ c.valid.ensures) c.events.invariant.2

pub returns-then-not-valid-2 : goal.returns-then-not-valid-2
returns-then-not-valid-2 c =
    not-met (lasting_in c.args.self.now c.args.values.now) c.args.self.now.unit c.events.clocks c.args.self.now.setting.ceilings (holds-by c.args.self.now c.args.values.now) c.events.delay c.soonest-wait.result c.grown-then.result
    c.soonest-wait.ensures.some c.if-wait-delay.false c.grown-then.ensures (sym c.if-not-valid-2.true ∙ c.valid-in-events.ensures ∙ at-moment c.args.self.now c.grown-then.result _ (lasting_in c.args.self.now c.args.values.now) c.moment-met.ensures) c.events.invariant.3

pub events-preserved : goal.events-preserved
events-preserved c =
    let course = c.args.self.now in
    let vs = c.args.values.now in
    let xs = c.events.clocks in
    let less : c.soonest-wait.result ≤ c.events.delay = c.if-wait-delay.false in
    let size : length c.grown-then.result ≡ 4 = ap length c.grown-then.ensures in
    let g0 : get_or c.grown-then.result 0 0 ≡ get_or xs 0 0 + c.soonest-wait.result = ap (λ y. get_or y 0 0) c.grown-then.ensures in
    let g1 : get_or c.grown-then.result 1 0 ≡ get_or xs 1 0 + c.soonest-wait.result = ap (λ y. get_or y 1 0) c.grown-then.ensures in
    let g2 : get_or c.grown-then.result 2 0 ≡ get_or xs 2 0 + c.soonest-wait.result = ap (λ y. get_or y 2 0) c.grown-then.ensures in
    let g3 : get_or c.grown-then.result 3 0 ≡ get_or xs 3 0 + c.soonest-wait.result = ap (λ y. get_or y 3 0) c.grown-then.ensures in (
      size,
      (omega (arith, c.events.invariant.1), omega (arith, c.events.invariant.1), omega (arith, c.events.invariant.1), omega (arith, c.events.invariant.1)),
      goes_on (lasting_in course vs) course.unit xs course.setting.ceilings (holds-by course vs) c.events.delay c.soonest-wait.result c.just_after.result c.grown-then.result less (wait-at course xs _ _ _ c.moment.ensures c.soonest-wait.ensures)
          c.just_after.ensures (sym c.if-not-valid.false ∙ c.valid.ensures) c.grown-then.ensures (sym c.if-not-valid-2.false ∙ c.valid-in-events.ensures ∙ at-moment course c.grown-then.result _ (lasting_in course vs) c.moment-met.ensures) c.events.invariant.2,
      comes_back (lasting_in course vs) course.unit xs course.setting.ceilings (holds-by course vs) c.events.delay c.soonest-wait.result c.grown-then.result less c.grown-then.ensures c.events.invariant.3,
    )

pub returns : goal.returns
returns c =
    ended (lasting_in c.args.self.now c.args.values.now) c.args.self.now.unit c.events.clocks c.args.self.now.setting.ceilings (holds-by c.args.self.now c.args.values.now) c.events.delay (omega (arith, c.events-test.false)) c.events.invariant.2
