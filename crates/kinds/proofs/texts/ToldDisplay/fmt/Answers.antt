use Rattle.std.proofs.Common.{refl, take, decimal, Some}
use Rattle.std.proofs.lemmas.List.{take_all}
use Rattle.std.specs.Fmt.{◌++?◌}
use Rattle.kinds.specs.Texts.{each_after}
use Rattle.kinds.proofs.Writing.{nothing, both, wrote, displays, each_more}
use Rattle.kinds.proofs.texts.ToldDisplay.fmt.Goals as goal

pub loop-clock-init : goal.loop-clock-init
loop-clock-init g c = λ plain. nothing g.W.Write.write_str_gives c.args.self.now.gap.now g.C.Display.output c.write.new.self plain

pub loop-clock-preserved : goal.loop-clock-preserved
loop-clock-preserved g c =
    let took = g.W.Write.write_str_gives in
    let text = g.C.Display.output in
    let gap = c.args.self.now.gap.now in
    let x = c.clock-item.result in
    let clocks = c.args.self.now.clocks.now in
    let i = c.loop-clock.clock-index in
    λ plain.
    rw (each_more gap text clocks i x c.loop-clock-test.true c.clock-item.is)
    (both took c.write.new.self c.loop-clock.f c.write-in-loop-clock.new.self (each_after gap text (take i clocks)) (Some gap ++? text x) (c.loop-clock.invariant plain)
    (wrote took c.loop-clock.f c.write-in-loop-clock.new.self (Some gap ++? text x) c.in_ok-write-2.ensures.writes))

pub returns-clause-writes : goal.returns-clause-writes
returns-clause-writes g c =
    displays g.W.Write.write_str_gives c.args.f.now c.write.new.self c.loop-clock.f c.args.self.now.front.now (decimal c.args.self.now.valuation) _
    (λ plain. c.in_ok-write.ensures.writes plain refl)
    (rw (take_all c.loop-clock.clock-index c.args.self.now.clocks.now c.loop-clock-test.false) at c.loop-clock.invariant)
