-- So far the clocks before this one were written.
use Rattle.std.proofs.Common.{take}
use Rattle.std.specs.Fmt.{IsPlainFormatter}
use Rattle.kinds.specs.Texts.{each_after}
use Rattle.kinds.proofs.Writing.{Wrote}
use Rattle.kinds.proofs.texts.ToldDisplay.fmt.Given as goal

abbrev pub invariant-loop-clock : goal.invariant-loop-clock
invariant-loop-clock g l =
    IsPlainFormatter l.initial.f → Wrote g.W.Write.write_str_gives l.initial.f (each_after l.self.gap.now g.C.Display.output (take l.clock-index l.self.clocks.now)) l.f
