use mathlib.Core.List.{List}
use mathlib.Core.Path.{◌≡◌}
use Prim.Native.Nat.{ℕ, ◌+◌, ◌≤◌}
use lib.ListN.{length, drop}
use Rattle.prelude.specs.Part.{splice}
use Rattle.rows_format.specs.declared.column.Column.{Column}
use Rattle.rows_format.specs.Formats.{columns_of}
use Rattle.rows_format.specs.Columns.{write_by}
use Rattle.rows_write.proofs.write.write_row.Given as goal

-- what is left, written at the place reached, makes the whole
pub record Going (row : List ℕ) (table : List Column) (end n : ℕ) (goal out : List ℕ) (next i : ℕ) : Type 0 where
  pub long : length out ≡ n
  pub place : next + length (write_by (drop i table) row) ≡ end
  pub fits : end ≤ n
  pub same : splice next (write_by (drop i table) row) out ≡ goal

abbrev pub invariant-loop-column : goal.invariant-loop-column
invariant-loop-column l = Going l.row l.column-items (l.at + length (write_by (columns_of l.fn.format) l.row))
    (length l.initial.out) (splice l.at (write_by (columns_of l.fn.format) l.row) l.initial.out) l.out l.next l.column-index
