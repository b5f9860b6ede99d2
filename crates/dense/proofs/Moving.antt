-- The trials as a table judges them are those of the definition.
use Rattle.std.proofs.Common.{◌≡◌, ℕ, zero, suc, ◌<◌, Bool, cond, ◌&&◌, nat_lt, List, None, refl, ap}
use Rattle.instruction.specs.Sizes.{product}
use Rattle.tables.specs.Tables.{four}
use Rattle.tables.specs.Settings.{Setting}
use Rattle.tables.specs.Trials.{stepping as judged}
use Rattle.regions.specs.declared.places.Place.{Place}
use Rattle.regions.specs.Clocks.{at, four_of, capped, restarted, hit}
use Rattle.regions.specs.Regions.{tidy}
use Rattle.regions.proofs.Fours.{below-four, same-four}
use Rattle.regions.proofs.Closing.{tidy-same}
use Rattle.dense.specs.Trials.{only, place, sides, shown, values, making, stepping}

-- of four clocks, only the first four resets matter
module _ (r : ℕ → Bool) (p : Place) where
  hit-is : (c : ℕ) → c < 4 → hit (four r) c ≡ r c
  hit-is c l = below-four (λ c. hit (four r) c ≡ r c) refl refl refl refl c l

  resets-are : four_of (tidy 4 (λ c. capped (restarted (hit (four r) c) (at p.clocks c)))) ≡ four_of (tidy 4 (λ c. capped (restarted (r c) (at p.clocks c))))
  resets-are =
      same-four _ _ (tidy-same 4 (λ c. capped (restarted (hit (four r) c) (at p.clocks c))) (λ c. capped (restarted (r c) (at p.clocks c)))
      (λ c l. ap (λ b. capped (restarted b (at p.clocks c))) (hit-is c l)))

pub judged-is : (K : Setting) (p : Place) (t : ℕ) → judged sides (making K) p t ≡ stepping K p t
judged-is K p zero = refl
judged-is K p (suc w) =
    let xs : List ℕ = values K p.valuation in
    let ys : List ℕ = values K w in
    ap (λ zs. cond (nat_lt w (product K.table.counts)) (only (K.table.transition (shown xs ys p) && K.table.invariant (shown ys ys (place w zs))) (place w zs)) None)
    (resets-are (λ c. K.table.reset c (shown xs ys p)) p)
