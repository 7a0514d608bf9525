-- A turn of the way through a table that writes it.
use Rattle.std.specs.Prelude.{List, [], ◌++◌, ◌≡◌, ℕ, ◌+◌, ◌<◌, ◌≤◌, length, get_or, drop}
use Rattle.std.proofs.Common.{ap, ◌∙◌, add-one, length-append, drop_of_length-le}
use Rattle.std.proofs.Math.Seq.{drop-cons}
use Rattle.rows_format.specs.declared.column.Column.{Column}
use Rattle.rows_format.specs.Columns.{field_of, write_by}

module _ (table : List Column) (none : Column) (i : ℕ) (row : List ℕ) where
  pub write_next : {r : Column} → i < length table → r ≡ get_or table i none → write_by (drop i table) row ≡ field_of r row ++ write_by (drop (i + 1) table) row
  unfolding write_by
  write_next l e = rw (add-one i, drop-cons table i none l, e)

  pub length_next : {r : Column} → i < length table → r ≡ get_or table i none
      → length (write_by (drop i table) row) ≡ length (field_of r row) + length (write_by (drop (i + 1) table) row)
  length_next {r} l e = ap length (write_next l e) ∙ length-append (field_of r row) (write_by (drop (i + 1) table) row)

  pub write_done : length table ≤ i → write_by (drop i table) row ≡ []
  unfolding write_by
  write_done l = rw (drop_of_length-le table l)
