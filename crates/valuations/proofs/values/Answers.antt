-- From the last variable down, what is left is the quotient by the product of the numbers passed, and the values behind are set.
use Rattle.std.proofs.Common.{◌≡◌, ℕ, ◌<◌, List, length, refl, ◌∙◌, arith, length-set, length-take}
use mir.Facts.{Fits-below}
use Rattle.instruction.specs.Counts.{value_counts}
use Rattle.valuations.proofs.Told.{valued}
use Rattle.valuations.proofs.Turns.{whole-turn, below, some-values, value-small, left-turn, digits-turn, whole-end, left_end, digits-end, digits-whole}
use Rattle.valuations.proofs.values.Goals as goal

pub variables-init : goal.variables-init
variables-init c =
    let ns : List ℕ = value_counts c.args.sizes.now in
    let all : c.into_iter-i-iterator.result.iter.iter.rest.now ≡ ns = cc in
    let none : c.into_iter-i-iterator.result.iter.count ≡ 0 = cc in
    rw all (none, whole-end ns 0 8, refl, left_end ns _ 8, digits-end ns _ 8)

pub nonzero_rem-values : goal.nonzero_rem-values
nonzero_rem-values c = rw c.from-n.ensures (some-values _ _ _ _ c.args.sizes.now.in_range c.in-Some.ensures.steps.1.0 c.variables.invariant.1)

pub overflow_cast-values : goal.overflow_cast-values
overflow_cast-values c = rw c.from-n.ensures (Fits-below {n = 16} tt (value-small _ _ _ _ c.args.sizes.now.in_range c.in-Some.ensures.steps.1.0 c.variables.invariant.1 _))

pub nonzero_div-left : goal.nonzero_div-left
nonzero_div-left c = nonzero_rem-values c

pub variables-preserved : goal.variables-preserved
variables-preserved c =
    let i = c.variables.invariant in
    let s = c.in-Some.ensures.steps in
    let ns : List ℕ = value_counts c.args.sizes.now in
    let front : List ℕ = c.next.new.self.iter.iter.rest.now in
    let n : ℕ = c.in-Some.n.now in
    let h = c.args.sizes.now.in_range in
    let place : c.in-Some.i ≡ length front = omega (arith, s.1.1, i.0) in
    let inside : length front < length c.variables.values = omega (arith, i.2, below ns front _ n h s.1.0 i.1, length-take c.args.sizes.now.variables c.args.sizes.now.counts, c.args.sizes.now.few_variables) in
    rw (c.from-n.ensures, place) (
      s.0 ∙ i.0,
      whole-turn ns front _ n h s.1.0 i.1,
      length-set c.variables.values (length front) _ ∙ i.2,
      left-turn ns front _ n h s.1.0 i.1 c.variables.left _ i.3,
      digits-turn ns front _ n h s.1.0 i.1 c.variables.left _ c.variables.values _ inside i.3 i.4,
    )

pub returns : goal.returns
returns c = valued _ c.args.sizes.now.in_range _ _ (digits-whole _ _ _ _ _ c.in-None.ensures.steps.1.0 c.variables.invariant.4)
