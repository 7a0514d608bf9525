-- Rows that a row may name.
use Rattle.std.specs.Prelude.{Bool, true, not, ◌&&◌, ◌||◌, List, ◌⊎◌, ◌≡◌, ℕ, ◌<◌, ltb}
use Rattle.schema.specs.Row.{is_defunct}
use Rattle.schema.specs.Store.{Table}

-- "Where a rule says "live", the named row must exist, and must be active if the naming row is."
unfoldable pub live : Table → List ℕ → ℕ → Bool
live t naming n = ltb n t.count && (is_defunct naming || not (is_defunct (t.row n)))

-- the same as a statement
abbrev pub Live : Table → List ℕ → ℕ → Type 0
Live t naming n = (n < t.count) × ((is_defunct naming ≡ true) ⊎ ¬ (is_defunct (t.row n) ≡ true))
