-- Dense time keeps the law of kinds of time.
use Rattle.std.specs.Prelude.{◌≡◌, ℕ, zero, suc, ◌<◌, ◌≤◌, List, Some, refl}
use Rattle.instruction.specs.Sizes.{product}
use Rattle.instruction.specs.Counts.{value_counts}
use Rattle.instruction.proofs.Ranged.{product-positive}
use Rattle.kinds.specs.Time.{Timed, Lawful}
use Rattle.kinds.proofs.Equal.{given, given-below, lawful as lawful_by}
use Rattle.model.specs.declared.layout.Model.{Model}
use Rattle.tables.specs.Settings.{Setting, setting_in}
use Rattle.regions.specs.declared.places.Place.{Place}
use Rattle.regions.proofs.Same.{same-is, same-itself}
use Rattle.dense.specs.Timed.{parts-some, parts-few, delays-each}
use Rattle.dense.specs.Trials.{origin, elapsed, moved, values, starting, stepping, dense}

module _ (K : Setting) where
  abbrev within : Place → Type 0
  within p = p.valuation < product K.table.counts

  started : (i : ℕ) (p : Place) → starting K i ≡ Some p → within p
  started i p h = given-below within i (product K.table.counts) _ (origin K i) p h (λ l _. l)

  stays_within : (p q : Place) (i : ℕ) → within p → stepping K p i ≡ Some q → within q
  stays_within p q zero v h = given within _ (elapsed K p) q h (λ _. v)
  stays_within p q (suc w) v h =
      given-below within w (product K.table.counts) _ (moved K (values K p.valuation) (values K w) p w) q h (λ l _. l)

  timed : (i : ℕ) (is : List ℕ) → Timed (dense K) i is
  timed i is = record { some = parts-some (starting K) (stepping K) i is; few = parts-few (starting K) (stepping K) i is; each = delays-each (starting K) (stepping K) i is }

  pub lawful : 1 ≤ product K.table.counts → product K.table.counts ≤ 1024 → Lawful (dense K)
  lawful some few =
      lawful_by (dense K) same-is same-itself some few refl started stays_within timed

pub lawful_in : (bytes : List ℕ) (model : Model) (ceilings : List ℕ) → Lawful (dense (setting_in bytes model ceilings))
lawful_in bytes model ceilings =
    lawful (setting_in bytes model ceilings) (product-positive (value_counts model.sizes) model.sizes.in_range) model.sizes.few_valuations
