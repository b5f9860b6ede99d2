-- What a kind of time is made of: a table, its clocks and their ceilings.
use Rattle.std.specs.Prelude.{ℕ, List}
use Rattle.model.specs.declared.layout.Model.{Model}
use Rattle.tables.specs.Tables.{Table, table_in}

pub record Setting : Type 0 where
  pub table : Table
  -- how many clocks are declared
  pub clocks : ℕ
  -- the ceilings of four clocks
  pub ceilings : List ℕ

-- a record's
abbrev pub setting_in : List ℕ → Model → List ℕ → Setting
setting_in bs m xs = record { table = table_in bs m; clocks = m.sizes.clocks; ceilings = xs }
