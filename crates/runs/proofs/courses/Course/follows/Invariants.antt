use Rattle.std.proofs.Common.{◌≡◌, drop, Ok}
use Rattle.runs.specs.Checks.{stepping}
use Rattle.runs.specs.Courses.{size_of}
use Rattle.runs.specs.Runs.{first}
use Rattle.runs.specs.Steps.{state_of}
use Rattle.runs.proofs.Following.{Small, Leading}
use Rattle.runs.proofs.courses.Course.follows.Given as goal

abbrev pub invariant-steps : goal.invariant-steps
invariant-steps l =
    (stepping (size_of l.self) l.step-index (drop l.step-index l.steps) ≡ Ok tt)
    × Small l.step-index l.at.clocks
    × (Leading l.self l.question (state_of l.at) (drop l.step-index l.steps) → Leading l.self l.question (first l.start) l.steps)
    × (Leading l.self l.question (first l.start) l.steps → Leading l.self l.question (state_of l.at) (drop l.step-index l.steps))
