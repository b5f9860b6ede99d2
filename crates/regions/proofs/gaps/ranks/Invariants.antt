use Rattle.std.proofs.Common.{◌≡◌}
use Rattle.regions.specs.Clocks.{at, mask_of}
use Rattle.regions.proofs.gaps.ranks.Given as goal

abbrev pub invariant-clocks : goal.invariant-clocks
invariant-clocks l = l.mask ≡ mask_of l.clock-index (at l.fn.clocks)
