-- So far the codes before this one were mixed in.
use Rattle.std.proofs.Common.{◌≡◌, slice_index}
use Rattle.kinds.specs.Slots.{mixing}
use Rattle.kinds.proofs.Mixing.{mixed_to}
use Rattle.kinds.proofs.slots.slot_of.Given as goal

abbrev pub invariant-loop-code : goal.invariant-loop-code
invariant-loop-code l = l.sum ≡ mixed_to (mixing 0 l.fn.valuation) l.code-index (slice_index l.fn.codes)
