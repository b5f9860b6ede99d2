-- The number so far and the number of the values left make the number of all, and there is room for it.
use Rattle.std.proofs.Common.{◌≡◌, ℕ, List, [], length, ⊎_elim, sym, ◌∙◌, arith}
use mir.Facts.{Fits-below}
use Rattle.instruction.proofs.Ranged.{ranged-rest}
use Rattle.valuations.proofs.Told.{numbered, unnumbered}
use Rattle.valuations.proofs.Turns.{room-turn, within-turn, within-not, number-turn, number_fits, within_end, number-end}
use Rattle.valuations.proofs.number.Goals as goal

pub returns-then-x-n : goal.returns-then-x-n
returns-then-x-n c =
    let s = c.in-Some.ensures.steps in
    unnumbered _ c.args.sizes.now.in_range _ (sym c.variables.invariant.3 ∙ rw (s.0, s.1) (within-not _ _ _ _ c.if-x-n.true))

pub overflow_mul-number : goal.overflow_mul-number
overflow_mul-number c =
    let i = c.variables.invariant in
    let less = number_fits c.in-Some.n.now c.in-Some.x.now _ [] c.variables.number _ _ c.in-Some.ensures.steps.0 i.0 c.if-x-n.false i.2 in
    rw c.from.ensures (Fits-below {n = 1024} tt (omega (arith, less, c.args.sizes.now.few_valuations)))

pub overflow_add-number : goal.overflow_add-number
overflow_add-number c =
    let i = c.variables.invariant in
    let less = number_fits c.in-Some.n.now c.in-Some.x.now _ [] c.variables.number _ _ c.in-Some.ensures.steps.0 i.0 c.if-x-n.false i.2 in
    rw (c.from.ensures, c.from-in-variables.ensures) (Fits-below {n = 1024} tt (omega (arith, less, c.args.sizes.now.few_valuations)))

pub variables-preserved : goal.variables-preserved
variables-preserved c =
    let s = c.in-Some.ensures.steps in
    let i = c.variables.invariant in
    let n : ℕ = c.in-Some.n.now in
    let x : ℕ = c.in-Some.x.now in
    let ns : List ℕ = c.next.new.self.a.rest.now in
    let xs : List ℕ = c.next.new.self.b.rest.now in
    rw (c.from.ensures, c.from-in-variables.ensures) (
      ranged-rest n ns (rw s.0 at i.0),
      omega (arith, rw (s.0, s.1) at i.1),
      room-turn n x ns xs _ _ c.if-x-n.false (rw s.0 at i.2),
      sym (within-turn n x ns xs c.if-x-n.false) ∙ rw (s.0, s.1) at i.3,
      number-turn n x ns xs _ _ (rw (s.0, s.1) at i.4),
    )

pub returns : goal.returns
returns c =
    let i = c.variables.invariant in
    let ns : List ℕ = c.variables.n-iterator.a.rest.now in
    let xs : List ℕ = c.variables.n-iterator.b.rest.now in
    let none : length ns ≡ 0 = ⊎_elim (λ y. y.1.0) (λ y. omega (arith, y.1.0, i.1)) c.in-None.ensures.steps in
    numbered _ c.args.sizes.now.in_range _ _ (sym i.3 ∙ within_end ns xs none) (sym (number-end c.variables.number ns xs none) ∙ i.4)
