-- The part of a record that holds a formula.
use Rattle.std.specs.Prelude.{ℕ, cond, List, take, drop, Some, None, Option, nat_lt, slice_index_or}
use Rattle.model.specs.declared.layout.Span.{Span}
use Rattle.model.specs.declared.layout.Model.{Model}
use Rattle.model.specs.declared.layout.Role.{Role}
use Rattle.model.specs.declared.layout.Role.TheVariants.{Reset, Start, Invariant, Transition, Urgent}
use Rattle.model.specs.declared.parts.Part.{Part}
use Rattle.model.specs.Reading.{span}

abbrev pub span_of : Model → Role → Option Span
span_of m (Reset c) = cond (nat_lt c m.sizes.clocks) (Some (slice_index_or m.resets c (span 0 0))) None
span_of m Start = Some m.start
span_of m Invariant = Some m.invariant
span_of m Transition = Some m.transition
span_of m Urgent = Some m.urgent

-- its bytes and its position
abbrev pub held : List ℕ → Option Span → Option (List ℕ × ℕ)
held bs None = None
held bs (Some p) = Some (take p.len (drop p.at bs), p.at)

abbrev pub contents : Option Part → Option (List ℕ × ℕ)
contents None = None
contents (Some p) = Some (p.code.now, p.at)
