-- The trials of a kind of time that a table judges, whatever its places are made of.
use Rattle.std.specs.Prelude.{ℕ, zero, suc, Bool, cond, ◌&&◌, List, Some, None, Option, nat_lt}
use Rattle.instruction.specs.Sizes.{product}
use Rattle.judging.specs.declared.sides.Side.{Side}
use Rattle.judging.specs.Judging.{seen}
use Rattle.valuations.specs.Radix.{padded}
use Rattle.tables.specs.Tables.{Table, four}
use Rattle.tables.specs.Settings.{Setting}

-- what the trials are made of
pub record Making (P : Type 0) : Type 0 where
  pub setting : Setting
  -- all clocks at 0, in a valuation
  pub origin : ℕ → P
  -- after a discrete step from a place that resets these clocks, in a valuation
  pub cleared : List Bool → P → ℕ → P
  -- the valuation of a place
  pub standing : P → ℕ
  -- time passes, where the variables have these values
  pub passing : List ℕ → P → Option P

-- a place, if a condition holds
abbrev pub only : {P : Type 0} → Bool → P → Option P
only b p = cond b (Some p) None

-- sides is what a place shows of its clocks
module _ {P : Type 0} (sides : P → ℕ → ℕ → Side) (k : Making P) where
  abbrev pub table : Table
  table = k.setting.table

  abbrev pub values : ℕ → List ℕ
  values v = padded table.counts v

  -- a clock whose reset formula holds becomes 0
  abbrev pub moved : List ℕ → List ℕ → P → ℕ → P
  moved xs ys p w = k.cleared (four (λ c. table.reset c (seen xs ys (sides p)))) p w

  -- valuation v with all clocks 0, if it begins a run
  abbrev pub beginning : List ℕ → ℕ → Option P
  beginning xs v =
      only (table.start (seen xs xs (sides (k.origin v))) && table.invariant (seen xs xs (sides (k.origin v)))) (k.origin v)

  -- the discrete step into valuation w: the transition is allowed, and the new place is valid
  abbrev pub entering : List ℕ → List ℕ → P → ℕ → Option P
  entering xs ys p w =
      only (table.transition (seen xs ys (sides p)) && table.invariant (seen ys ys (sides (moved xs ys p w)))) (moved xs ys p w)

  abbrev pub starting : ℕ → Option P
  starting i = cond (nat_lt i (product table.counts)) (beginning (values i) i) None

  -- step trial 0 is time passing, trial w + 1 the discrete step into valuation w
  abbrev pub stepping : P → ℕ → Option P
  stepping p zero = k.passing (values (k.standing p)) p
  stepping p (suc w) = cond (nat_lt w (product table.counts)) (entering (values (k.standing p)) (values w) p w) None
