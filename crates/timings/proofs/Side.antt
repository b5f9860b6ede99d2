-- Where a clock stands to a constant, in a state and in a place that stands for it.
use Rattle.std.proofs.Common.{◌≡◌, ℕ, suc, ◌+◌, ◌*◌, ◌<◌, ◌≤◌, ap, ◌∙◌, mul-le-mul_right, suc-mul, arith}
use Rattle.std.proofs.lemmas.Bool.Decides.{nat_tests}
use Rattle.judging.specs.Truth.{compared}
use Rattle.regions.specs.declared.clocks.Clock.{Clock}
use Rattle.regions.specs.declared.clocks.Clock.TheVariants.{Over, Counted}
use Rattle.regions.specs.Regions.{side_of}
use Rattle.timings.specs.Standing.{One}

below-lemma : (x w f D j : ℕ) → x ≡ w * D + f → f < D → w < j → x < j * D
below-lemma x w f D j e h l =
    let m : suc w * D ≤ j * D = mul-le-mul_right D l in
    omega (arith, suc-mul w D)

above-lemma : (x w f D j : ℕ) → x ≡ w * D + f → j < w → f < D → j * D < x
above-lemma x w f D j e l h =
    let m : suc j * D ≤ w * D = mul-le-mul_right D l in
    omega (arith, suc-mul j D)

pub same-side : (E M x f j : ℕ) (p : Clock) → One E M x f p → j ≤ M → compared x (j * E) ≡ side_of p j
same-side E M x f j Over o h =
    let l : j * E ≤ M * E = mul-le-mul_right E h in
    grind (arith, nat_tests)
same-side E M x f j (Counted w r) o h =
    let b : w < j → x < j * E = below-lemma x w f E j o.0 o.1 in
    let a : j < w → j * E < x = λ l. above-lemma x w f E j o.0 l o.1 in
    let q : w ≡ j → x ≡ j * E + f = λ p. o.0 ∙ ap (λ n. n * E + f) p in
    grind (arith, nat_tests)
