-- Above is no other side.
use Rattle.std.proofs.Common.{◌≡◌, ℕ, arith}
use Rattle.judging.specs.declared.sides.Side.TheVariants.{Below, At, Above}

pub above-below : {A : Type 0} → Above ≡ Below → A
above-below e = let z : ◌≡◌ {A = ℕ} 0 1 = cc in absurd (omega arith)

pub above-at : {A : Type 0} → Above ≡ At → A
above-at e = let z : ◌≡◌ {A = ℕ} 0 1 = cc in absurd (omega arith)
