use Rattle.std.proofs.Common.{◌+◌, take, sym, refl, ap, ◌∙◌}
use Rattle.kinds.specs.Steps.{trials_of}
use Rattle.dense.proofs.Spelled.{filled}
use Rattle.dense.proofs.Advancing.{alone}
use Rattle.dense.proofs.Filling.{state, nowhere}
use Rattle.dense.proofs.timings.attempt.Goals as goal
use Rattle.dense.proofs.timings.attempt.Goals.{in_default-via-in-Some+in_default, in_default-via-in_default}

pub returns-in_default : goal.returns-in_default
returns-in_default c =
    let ps = c.args.steps.now in
    let i = c.args.i in
    let s = state c.args.at c.args.pace.parts c.args.pace.fractions (trials_of (take i ps)) in
    let e = nowhere c.args.at c.args.next c.args.trial s (λ p q e f. elim c.in_default.branch [ in_default-via-in-Some+in_default w ↦ cc | in_default-via-in_default w ↦ cc ]) in
    record { parts = sym (ap (λ r. r.parts) e); fractions = sym (ap (λ r. r.fractions) e); steps = alone ps i c.requires.place ps 0 refl ∙ sym (ap (λ r. filled (i + 1) ps r.delays) e) }
