-- The laws of a judgement from its answer.
use Rattle.std.proofs.Common.{◌≡◌, ℕ, Bool, List, ◌∙◌}
use Rattle.judging.specs.Truth.{View}
use Rattle.judging.specs.Judging.{judged, Judges}
use Rattle.judging.proofs.Judged.{means}
use Rattle.judging.proofs.Depends.{same}

pub judges : (ns : List ℕ) (n : ℕ) (v : View) (bs : List ℕ) (r : Bool) → r ≡ judged ns n v 0 0 bs → Judges ns n v bs r
judges ns n v bs r e =
    record { answer = e; means = λ z f h. e ∙ means ns n v z bs f h; depends = λ w values nexts h. e ∙ same v w values nexts ns n 0 0 (λ _. 0) bs h }
