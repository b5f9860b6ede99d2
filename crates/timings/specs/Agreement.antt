-- What a table's formulas can tell apart.
use Rattle.std.specs.Prelude.{◌≡◌, ℕ, ◌<◌, ◌≤◌, Bool, false, slice_index}
use Rattle.judging.specs.Truth.{View}
use Rattle.tables.specs.Settings.{Setting}

-- two views with the same values, and with the same sides of the first n clocks to each constant up to
-- their ceilings M
pub record Agrees (n : ℕ) (M : ℕ → ℕ) (v w : View) : Type 0 where
  pub value : v.value ≡ w.value
  pub next : v.next ≡ w.next
  pub side : (c j : ℕ) → c < n → j ≤ M c → v.side c j ≡ w.side c j

-- a clock's ceiling
abbrev pub ceiling_of : Setting → ℕ → ℕ
ceiling_of K c = slice_index K.ceilings c

-- start, urgent and the question read no clock; the others read no more than the sides of declared clocks
-- to constants up to their ceilings, and no clock that is not declared is reset
pub record Shows (K : Setting) (q : View → Bool) : Type 0 where
  pub few : K.clocks ≤ 4
  pub start : (v w : View) → v.value ≡ w.value → v.next ≡ w.next → K.table.start v ≡ K.table.start w
  pub urgent : (v w : View) → v.value ≡ w.value → v.next ≡ w.next → K.table.urgent v ≡ K.table.urgent w
  pub asked : (v w : View) → v.value ≡ w.value → v.next ≡ w.next → q v ≡ q w
  pub invariant : (v w : View) → Agrees K.clocks (ceiling_of K) v w → K.table.invariant v ≡ K.table.invariant w
  pub transition : (v w : View) → Agrees K.clocks (ceiling_of K) v w → K.table.transition v ≡ K.table.transition w
  pub reset : (c : ℕ) (v w : View) → Agrees K.clocks (ceiling_of K) v w → K.table.reset c v ≡ K.table.reset c w
  pub none : (c : ℕ) (v : View) → K.clocks ≤ c → K.table.reset c v ≡ false
