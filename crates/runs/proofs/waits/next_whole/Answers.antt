use Rattle.std.proofs.Common.{◌≡◌, ◌+◌, ◌-◌, ◌*◌, ◌/◌, ◌%◌, ◌<◌, mod-lt, div-mul-le_self, arith}
use Rattle.runs.proofs.Four.{to-next}
use Rattle.runs.proofs.waits.next_whole.Goals as goal

pub returns-then-clock-unit : goal.returns-then-clock-unit
returns-then-clock-unit c =
    let m : c.args.clock % c.args.unit < c.args.unit = mod-lt c.args.clock c.requires in
    let e : c.args.clock + (c.args.unit - c.args.clock % c.args.unit) ≡ (c.args.clock / c.args.unit + 1) * c.args.unit = to-next c.args.clock c.args.unit c.requires in
    record { some = omega arith; soon = record { passed = c.args.clock / c.args.unit; low = div-mul-le_self c.args.clock c.args.unit; high = λ h. omega arith } }

pub returns-else-clock-unit : goal.returns-else-clock-unit
returns-else-clock-unit c =
    record { some = omega arith; soon = record { passed = c.args.clock / c.args.unit; low = div-mul-le_self c.args.clock c.args.unit; high = λ h. absurd (omega (arith, c.if-clock-unit.false)) } }
