-- What the check of a run is about.
use Rattle.std.specs.Prelude.{ℕ, List, Bool}
use Rattle.instruction.specs.Counts.{value_counts}
use Rattle.instruction.specs.Sizes.{product}
use Rattle.judging.specs.declared.sides.Side.{Side}
use Rattle.model.specs.declared.layout.Model.{Model}
use Rattle.tables.specs.Tables.{Table, table_in, lasting}
use Rattle.runs.specs.declared.courses.Course.{Course}

-- the bytes of the record, and its model
abbrev pub bytes_of : Course → List ℕ
bytes_of k = k.setting.pack.bytes.now

abbrev pub model_of : Course → Model
model_of k = k.setting.pack.model.now

-- its table, and how many valuations that has
abbrev pub table_of : Course → Table
table_of k = table_in (bytes_of k) (model_of k)

abbrev pub size_of : Course → ℕ
size_of k = product (value_counts (model_of k).sizes)

-- its invariant, at four clocks, where the variables have the values xs
abbrev pub lasting_in : Course → List ℕ → (ℕ → ℕ → Side) → Bool
lasting_in k xs s = lasting (bytes_of k) (model_of k) xs s
