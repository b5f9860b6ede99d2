-- One step of a chain, as its record is given its delay.
use Rattle.std.proofs.Common.{◌≡◌, ℕ, ◌+◌, ◌<◌, ◌≤◌, List, ◌∷◌, ◌++◌, map, reverse, length, get_or, take, drop, set, sym, refl, ap, ◌∙◌, arith}
use Rattle.std.proofs.lemmas.List.{length-take-le, length-reverse, length-map}
use Rattle.delays.specs.declared.paces.Passing.{Passing}
use Rattle.delays.specs.declared.paces.Passing.TheVariants.{Still, Leaving, Meeting}
use Rattle.delays.specs.Pace.{widened, delays_after}
use Rattle.delays.specs.Widens.{Widens}
use Rattle.kinds.specs.declared.steps.Step.{Step}
use Rattle.kinds.specs.Steps.{delay_of, with_delay, redelayed, trials_of}
use Rattle.dense.specs.Timed.{length-widened}
use Rattle.dense.proofs.Bounded.{Within, widened-within, fitting-all}
use Rattle.dense.proofs.Spelled.{none, filled, next-filled, as-they-are}

-- ps are the records on entry, xs those at the time when step i gets its delay w
module _ (ps : List Step) (i : ℕ) (less : i < length ps) (xs : List Step) (w : ℕ) where
  pub trials-each : length (trials_of (take i ps)) ≡ i
  trials-each = omega (arith, length-reverse (map delay_of (take i ps)), length-map (take i ps) delay_of, length-take-le i ps)

  pub alone : xs ≡ ps → set xs i (with_delay (get_or xs i none) w) ≡ filled (i + 1) ps (w ∷ trials_of (take i ps))
  alone e = next-filled ps i (trials_of (take i ps)) less trials-each xs w (e ∙ as-they-are ps i)

  pub kept : (x : Passing) (D : ℕ) → (x ≡ Leaving → ⊥) → xs ≡ ps → set xs i (with_delay (get_or xs i none) w) ≡ filled (i + 1) ps (delays_after x D w (trials_of (take i ps)))
  kept Still D n e = alone e
  kept Leaving D n e = absurd (n refl)
  kept Meeting D n e = alone e

  pub widening : (x : Passing) (D : ℕ) (qs : List Step) → x ≡ Leaving → i ≤ 65535 → D ≤ 65535 → Within D (trials_of (take i ps)) → Widens (take i ps) D qs → xs ≡ qs ++ drop i ps → set xs i (with_delay (get_or xs i none) w) ≡ filled (i + 1) ps (delays_after x D w (trials_of (take i ps)))
  widening x D qs lv short few h wide e =
      let ds = trials_of (take i ps) in
      let small : Within 65536 (widened D 0 ds) = λ k. omega (arith, widened-within D 0 ds h k) in
      let each : length (widened D 0 ds) ≡ i = length-widened D 0 ds ∙ trials-each in
      let long : length (take i ps) ≤ 65535 = omega (arith, length-take-le i ps) in
      let q : qs ≡ redelayed (take i ps) (reverse (widened D 0 ds)) = wide.short long ∙ ap (λ l. redelayed (take i ps) (reverse l)) (fitting-all (widened D 0 ds) small) in
      next-filled ps i (widened D 0 ds) less each xs w (e ∙ ap (λ l. l ++ drop i ps) q)
      ∙ ap (λ y. filled (i + 1) ps (delays_after y D w ds)) (sym lv)
