-- Texts of lists.
use Rattle.std.specs.Prelude.{ℕ, List, [], ◌∷◌, Option, Some}
use Rattle.std.specs.Fmt.{◌++?◌}

-- the text of each item with a gap before it, one behind the other
unfoldable pub each_after : {A : Type 0} → List ℕ → (A → Option (List ℕ)) → List A → Option (List ℕ)
each_after gap text [] = Some []
each_after gap text (x ∷ xs) = Some gap ++? text x ++? each_after gap text xs
