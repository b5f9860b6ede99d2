use Rattle.std.proofs.Common.{ℕ, ◌<◌, List, length, Err, sym, ap, ◌∙◌, arith, false-eqb}
use Rattle.instruction.specs.declared.faults.Fault.TheVariants.{Trailing}
use Rattle.model.proofs.Whole.{sections-are, finish-more}
use Rattle.model.proofs.sections.read_sections.Goals as goal

pub returns-then-not-is_empty : goal.returns-then-not-is_empty
returns-then-not-is_empty c =
    let behind : List ℕ = c.in_ok-urgent.behind.bytes.now in
    let some : 0 < length behind = omega (arith, false-eqb (length behind) 0 c.if-not-is_empty.ensures) in
    let a = c.in_ok-resets.ensures.same in
    let b = c.in_ok-start.ensures.same in
    let d = c.in_ok-invariant.ensures.same in
    let f = c.in_ok-transition.ensures.same in
    let e = sections-are _ _ c.args.left.end _ _ _ _ _ _ _ _ _ _ _ c.in_ok-resets.ensures.is (rw (a.0, a.1) at c.in_ok-start.ensures.is) (rw (b.0, b.1, a.0, a.1) at c.in_ok-invariant.ensures.is) (rw (d.0, d.1, b.0, b.1, a.0, a.1) at c.in_ok-transition.ensures.is) (rw (f.0, f.1, d.0, d.1, b.0, b.1, a.0, a.1) at c.in_ok-urgent.ensures.is) in
    ap (λ k. Err (Trailing k)) c.saturating_sub.ensures ∙ sym (e ∙ finish-more _ c.args.left.end behind some)
