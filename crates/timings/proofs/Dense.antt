-- Dense chains reach a question exactly when runs do.
use Rattle.std.proofs.Common.{◌≡◌, ℕ, Bool, ap, ◌∙◌}
use Rattle.judging.specs.Truth.{View}
use Rattle.kinds.specs.Time.{Reaches as Chained}
use Rattle.tables.specs.Settings.{Setting}
use Rattle.runs.specs.Runs.{now}
use Rattle.dense.specs.Trials.{starting, stepping, dense}
use Rattle.dense.specs.Timed.{parts-some}
use Rattle.timings.specs.Agreement.{Shows}
use Rattle.timings.specs.Theorems.{answers_in, SomeRun, Exact}
use Rattle.timings.proofs.Follows.{to-chain}
use Rattle.timings.proofs.Joined.{joined, arrived}
use Rattle.timings.proofs.Delays.{dense-runs}
use Rattle.timings.proofs.Truth.{valued}

pub to-run : (K : Setting) (q : View → Bool) → Shows K q → Chained (dense K) (answers_in K.table q) → SomeRun K.table q
to-run K q k c =
    let D : ℕ = (dense K).parts c.start c.trials in
    let t = (dense-runs K q k).through c.start c.trials c.place c.chain in
    let j = joined t.1 in
    let e : valued K t.0.valuation ≡ valued K c.place.valuation = ap (valued K) (arrived t.1).0 in
    record { parts = D; some = parts-some (starting K) (stepping K) c.start c.trials; start = c.start; steps = j.steps; reaches = record { begins = j.begins; leads = record { last = t.0; run = j.run; asked = k.asked (now K.table D t.0) _ e e ∙ c.answers } } }

pub exact : (K : Setting) (q : View → Bool) → Shows K q → Exact (dense K) K.table q
exact K q k = record { to_run = to-run K q k; to_chain = to-chain K q k }
