-- The first n codes, mixed one after the other into s.
use Rattle.std.proofs.Common.{ℕ, zero, suc}
use Rattle.kinds.specs.Slots.{mixing}

abbrev pub mixed_to : ℕ → ℕ → (ℕ → ℕ) → ℕ
mixed_to s zero f = s
mixed_to s (suc n) f = mixing (mixed_to s n f) (f n)
