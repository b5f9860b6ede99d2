-- Ticked chains reach a question exactly when runs with whole delays do.
use Rattle.std.proofs.Common.{◌≡◌, ℕ, Bool, List, [], ◌∷◌, get_or, sym, ap, ◌∙◌, arith}
use Rattle.judging.specs.Truth.{View}
use Rattle.kinds.specs.declared.steps.Step.{Step}
use Rattle.runs.specs.Runs.{State, now}
use Rattle.tables.specs.Settings.{Setting}
use Rattle.ticked.specs.Trials.{values, ticked}
use Rattle.timings.specs.Agreement.{Shows}
use Rattle.timings.specs.Theorems.{answers_in, Whole, ExactWhole}
use Rattle.timings.proofs.Joined.{joined, arrived}
use Rattle.timings.proofs.TickedChains.{ticks-of-run}
use Rattle.timings.proofs.TickedDelays.{ticked-runs}

-- the question in a valuation is the question in a state with that valuation
asked-same : (K : Setting) (q : View → Bool) → Shows K q → (D v : ℕ) (s : State) → v ≡ s.valuation → answers_in K.table q v ≡ q (now K.table D s)
asked-same K q S D v s e =
    let f : ◌≡◌ {A = ℕ → ℕ} (λ i. get_or (values K v) i 0) (λ i. get_or (values K s.valuation) i 0) = ap (λ x. λ i. get_or (values K x) i 0) e in
    S.asked _ (now K.table D s) f f

-- with one part to a unit every delay is whole
all_whole : (ps : List Step) → Whole 1 ps
unfolding Whole
all_whole [] = tt
all_whole (p ∷ ps) = ((p.delay, omega arith), all_whole ps)

pub exact-whole : (K : Setting) (q : View → Bool) → Shows K q → ExactWhole (ticked K) K.table q
exact-whole K q S =
    record {
      to_run = λ c.
          let t = (ticked-runs K q S).through c.start c.trials c.place c.chain in
          let j = joined t.1 in
          record {
            run = record {
              parts = 1;
              some = omega arith;
              start = c.start;
              steps = j.steps;
              reaches = record {
                begins = j.begins;
                leads = record { last = t.0; run = j.run; asked = sym (asked-same K q S 1 c.place.valuation t.0 (arrived t.1).valuation) ∙ c.answers };
              };
            };
            whole = all_whole j.steps;
          };
      to_chain = λ r.
          let y = r.run.reaches in
          let x = ticks-of-run K q S r.run.parts r.run.some r.run.start r.run.steps y.leads.last y.begins y.leads.run r.whole in
          record {
            start = x.start;
            trials = x.trials;
            place = x.place;
            chain = x.chain;
            answers = asked-same K q S r.run.parts x.place.valuation y.leads.last x.stands.valuation ∙ y.leads.asked;
          };
    }
