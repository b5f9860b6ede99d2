use Rattle.std.proofs.Common.{sym}
use Rattle.regions.proofs.Told.{elapse-told}
use Rattle.regions.proofs.Waiting.{rooms, lift-way, roll-way}
use Rattle.regions.proofs.elapses.elapse.Goals as goal

pub rolls-requires : goal.rolls-requires
rolls-requires c = rooms c.trims-fit.result c.trims-fit.ensures.fit (sym c.if-some_sharp.ensures)

pub returns-then-some_sharp : goal.returns-then-some_sharp
returns-then-some_sharp c =
    elapse-told c.args.clocks c.args.ceilings c.close_up.result
    (lift-way c.args.clocks c.args.ceilings c.trims-fit.result c.lifts.result c.close_up.result
    c.trims-fit.ensures.value c.trims-fit.ensures.fit c.close_up.ensures.value (sym c.if-some_sharp.ensures) c.lifts.ensures)
    c.close_up.ensures.gapless

pub returns-else-some_sharp : goal.returns-else-some_sharp
returns-else-some_sharp c =
    elapse-told c.args.clocks c.args.ceilings c.close_up-else-some_sharp.result
    (roll-way c.args.clocks c.args.ceilings c.trims-fit.result c.rolls.result c.close_up-else-some_sharp.result
    c.trims-fit.ensures.value c.trims-fit.ensures.fit c.close_up-else-some_sharp.ensures.value
    c.top_rank.result c.top_rank.ensures (sym c.if-some_sharp.ensures) c.rolls.ensures)
    c.close_up-else-some_sharp.ensures.gapless
