-- Slot numbers.
use Rattle.std.specs.Prelude.{ℕ, ◌+◌, ◌*◌, ◌/◌, ◌%◌, ◌^◌, List, slice_index}

abbrev pub mixing : ℕ → ℕ → ℕ
mixing s x = (s + x) * 2654435769 % 2 ^ 32

-- of a valuation and the codes of four clocks
abbrev pub slotted : ℕ → List ℕ → ℕ
slotted v cs =
    mixing (mixing (mixing (mixing (mixing 0 v) (slice_index cs 0)) (slice_index cs 1)) (slice_index cs 2)) (slice_index cs 3) / 65536
