use mathlib.Core.Bool.{false}
use mathlib.Core.List.{List}
use mathlib.Core.Path.{◌≡◌}
use Prim.Native.Nat.{ℕ, ◌≤◌}
use lib.ListN.{length, drop}
use Rattle.rows_format.specs.declared.column.Column.{Column}
use Rattle.rows_format.specs.Formats.{columns_of}
use Rattle.rows_read.specs.declared.field.Progress.{Progress}
use Rattle.rows_read.specs.Reading.{Out, read_by}
use Rattle.rows_read.proofs.read.read_fields.Given as goal

-- what the columns that are left make of the state is what the whole table makes of the start
pub record Going (s : List ℕ) (end : ℕ) (table : List Column) (n : ℕ) (goal : Out) (row : List ℕ) (progress : Progress) (i : ℕ) : Type 0 where
  pub within : progress.at ≤ end
  pub long : length row ≡ n
  pub same : read_by s end (drop i table) progress.at progress.missing row ≡ goal

abbrev pub invariant-loop-column : goal.invariant-loop-column
invariant-loop-column l = Going l.s l.end l.column-items (length l.initial.row)
    (read_by l.s l.end (columns_of l.fn.format) l.start false l.initial.row) l.row l.progress l.column-index
