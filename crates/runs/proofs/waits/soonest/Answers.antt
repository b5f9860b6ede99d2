use Rattle.std.proofs.Common.{ℕ, ◌+◌, ◌<◌, ◌≤◌, get_or, sym, subst, arith}
use Rattle.std.proofs.Math.Nat.{le-min}
use Rattle.runs.proofs.Four.{at4, least-more, sooner}
use Rattle.runs.proofs.waits.soonest.Goals as goal

pub waits-preserved : goal.waits-preserved
waits-preserved c =
    let i = c.waits.wait-index in
    let f : ℕ → ℕ = λ k. get_or c.next_wholes-wait-items.result k 0 in
    let e = sym c.min-least.ensures in (
      subst (λ t. 1 ≤ t) e (le-min c.waits.invariant.0 (at4 (λ k. 1 ≤ f k) c.next_wholes-wait-items.ensures.some i c.waits-test.true)),
      subst (λ t. (k : ℕ) → k < i + 1 → t ≤ f k) e (least-more f i c.waits.least c.waits.invariant.1),
    )

pub returns : goal.returns
returns c =
    let s = c.next_wholes-wait-items.ensures.soon in
    let l = c.waits.invariant.1 in
    record {
      some = c.waits.invariant.0;
      each = (sooner _ _ _ _ _ (l 0 (omega (arith, c.waits-test.false))) s.0, sooner _ _ _ _ _ (l 1 (omega (arith, c.waits-test.false))) s.1, sooner _ _ _ _ _ (l 2 (omega (arith, c.waits-test.false))) s.2, sooner _ _ _ _ _ (l 3 (omega (arith, c.waits-test.false))) s.3);
    }
