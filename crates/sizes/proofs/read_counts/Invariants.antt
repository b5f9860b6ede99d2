-- The numbers of values so far, and their product; what is left of them counts on from there.
use Rattle.std.proofs.Common.{◌≡◌, ◌-◌, ◌≤◌, [], length, take, drop}
use Rattle.sizes.specs.Reading.{counting}
use Rattle.sizes.proofs.read_counts.Given as goal

abbrev pub invariant-variables : goal.invariant-variables
invariant-variables l =
    (l.product ≤ 1024)
    × (counting (length l.bytes) (l.wanted - l.i) (take l.i l.listed) l.product (drop l.i (drop 1 l.bytes)) ≡ counting (length l.bytes) l.wanted [] 1 (drop 1 l.bytes))
