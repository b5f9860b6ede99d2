use Rattle.std.proofs.Common.{◌-◌, ◌/◌, ap, ◌∙◌}
use lib.Bits.{bit_and, and_mask}
use lib.Count.{ones}
use Rattle.std.proofs.lemmas.Nat.{one_shl}
use Rattle.regions.proofs.gaps.count_to.Goals as goal

pub returns : goal.returns
returns c =
    ap (λ n. ones (bit_and (c.args.mask / 2) (n - 1))) (one_shl c.args.rank 32 c.requires)
    ∙ ap ones (and_mask (c.args.mask / 2) c.args.rank)
