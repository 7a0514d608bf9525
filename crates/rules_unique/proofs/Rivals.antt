-- The test that the search for a rival makes of a row.
use mathlib.Core.Bool.{Bool, not, ◌&&◌}
use mathlib.Core.List.{List}
use Prim.Native.Nat.{ℕ}
use Rattle.schema.specs.declared.number.TableId.{TableId}
use Rattle.schema.specs.declared.number.RowId.{RowId}
use Rattle.schema.specs.Numbers.{table_of, number_of, same_row}
use Rattle.schema.specs.Store.{table_in}
use Rattle.rules_unique.specs.declared.Key.{Key}
use Rattle.rules_unique.specs.Unique.{same_key}

-- of row j of table u
abbrev pub rival_at : Key → TableId → List ℕ → RowId → List ℕ → ℕ → Bool
rival_at key u s id own j = not (same_row (table_of id) (number_of id) u j) && same_key key own ((table_in u s).row j)
