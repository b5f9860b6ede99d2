-- Instructions given one after the other.
use Rattle.std.specs.Prelude.{◌≡◌, ℕ, ◌-◌, ◌<◌, ◌≤◌, length, drop, Some, None, Option, Ok, Err, Result}
use Rattle.instruction.specs.declared.faults.Fault.{Fault}
use Rattle.instruction.specs.declared.instructions.Instruction.{Instruction}
use Rattle.instruction.specs.Counts.{value_counts}
use Rattle.instruction.specs.Reader.{instruction, width}
use Rattle.formula.specs.declared.listing.Instructions.{Instructions}

-- the position of the first byte that is left
abbrev pub place : Instructions → ℕ
place s = s.end - length s.rest.now

-- what is read at the front of what is left
abbrev pub front : Instructions → Result Instruction Fault
front s = instruction (value_counts s.sizes.now) s.sizes.now.clocks s.section (place s) s.rest.now

-- they speak of the same
pub record Same (s t : Instructions) : Type 0 where
  pub end : t.end ≡ s.end
  pub sizes : t.sizes.now ≡ s.sizes.now
  pub section : t.section ≡ s.section

-- the instruction at the front, with its position, and what is left behind it
pub record Onward (s : Instructions) (at : ℕ) (op : Instruction) (t : Instructions) : Type 0 where
  pub some : 0 < length s.rest.now
  pub position : at ≡ place s
  pub read : front s ≡ Ok op
  pub wide : 1 ≤ width op
  pub left : t.rest.now ≡ drop (width op) s.rest.now
  pub same : Same s t

-- the fault at the front, behind which nothing is left
pub record Faulty (s : Instructions) (x : Fault) (t : Instructions) : Type 0 where
  pub some : 0 < length s.rest.now
  pub fault : front s ≡ Err x
  pub none : length t.rest.now ≡ 0

-- nothing was left, and nothing is
pub record Ended (s t : Instructions) : Type 0 where
  pub none : length s.rest.now ≡ 0
  pub still : length t.rest.now ≡ 0

abbrev pub Gives : Instructions → Option (Result (ℕ × Instruction) Fault) → Instructions → Type 0
Gives s None t = Ended s t
Gives s (Some (Ok p)) t = Onward s p.0 p.1 t
Gives s (Some (Err x)) t = Faulty s x t
