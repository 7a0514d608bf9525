use mathlib.Core.List.{List}
use mathlib.Core.Path.{◌≡◌}
use Prim.Native.Nat.{ℕ, ◌+◌, ◌*◌, ◌≤◌}
use lib.ListN.{length, drop}
use Rattle.rows_format.specs.declared.column.Column.{Column}
use Rattle.rows_format.specs.Columns.{write_by}
use Rattle.rows_write.proofs.write.row_length.Given as goal

-- what was counted and what is left are all of it
pub record Going (row : List ℕ) (table : List Column) (n i : ℕ) : Type 0 where
  pub small : n ≤ i * 65538
  pub same : n + length (write_by (drop i table) row) ≡ length (write_by table row)

abbrev pub invariant-loop-column : goal.invariant-loop-column
invariant-loop-column l = Going l.row l.column-items l.n l.column-index
