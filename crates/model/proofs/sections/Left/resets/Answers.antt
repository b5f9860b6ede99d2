use Rattle.std.proofs.Common.{◌≡◌, ℕ, ◌-◌, List, length, take, Ok, sym, ap, ◌∙◌, arith}
use Rattle.std.proofs.lemmas.Result.{err_from_is_err_and}
use Rattle.std.proofs.lemmas.List.{length-set, take_at, take_all}
use Rattle.instruction.specs.Counts.{value_counts}
use Rattle.model.specs.declared.layout.Span.{Span}
use Rattle.model.proofs.Turns.{reset-again, reset-refused, reset-done}
use Rattle.model.proofs.sections.Left.resets.Goals as goal

pub returns-in_err-reset-clause-is : goal.returns-in_err-reset-clause-is
returns-in_err-reset-clause-is c =
    let p = err_from_is_err_and c.from_residual.result c.from_residual.ensures.1 in
    let i = c.clocks.invariant in
    let n : ℕ = c.args.self.sizes.now.clocks in
    let e = reset-refused (value_counts c.args.self.sizes.now) n c.args.self.end (n - c.clocks.span-index) (take c.clocks.span-index c.clocks.span-items) _ c.clocks.left.bytes.now (omega (arith, c.clocks-test.true, i.0)) (sym (rw (i.1, i.2) at c.in_err-reset.ensures.is)) in
    rw (p.1, p.2) (sym (sym i.3 ∙ e))

pub clocks-preserved : goal.clocks-preserved
clocks-preserved c =
    let i = c.clocks.invariant in
    let n : ℕ = c.args.self.sizes.now.clocks in
    let same = c.in_ok-reset.ensures.same in
    let e = reset-again (value_counts c.args.self.sizes.now) n c.args.self.end c.clocks.span-index c.clocks.span-items c.in_ok-reset.reset c.clocks.left.bytes.now c.in_ok-reset.rest.bytes.now (omega (arith, c.clocks-test.true, i.0)) (omega (arith, c.clocks-test.true, i.0)) (sym (rw (i.1, i.2) at c.in_ok-reset.ensures.is)) in
    (length-set c.clocks.span-items c.clocks.span-index c.in_ok-reset.reset ∙ i.0, same.0 ∙ i.1, same.1 ∙ i.2, sym e ∙ i.3)

pub returns-clause-is : goal.returns-clause-is
returns-clause-is c =
    let i = c.clocks.invariant in
    let n : ℕ = c.args.self.sizes.now.clocks in
    let items : List Span = c.clocks.span-items in
    let all : length items ≡ c.clocks.span-index = omega (arith, c.clocks-test.false) in
    let whole : take c.clocks.span-index items ≡ items = take_all c.clocks.span-index items (omega arith) in
    let done = reset-done (value_counts c.args.self.sizes.now) n c.args.self.end (n - c.clocks.span-index) (take c.clocks.span-index items) c.clocks.left.bytes.now (omega (arith, i.0)) in
    ap (λ ps. Ok (ps, c.clocks.left.bytes.now)) (take_at items _ n i.0 ∙ sym whole) ∙ sym (sym i.3 ∙ done)
