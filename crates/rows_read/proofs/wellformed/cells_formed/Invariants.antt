use mathlib.Core.Path.{◌≡◌}
use lib.ListN.{drop}
use Rattle.rows_format.specs.Formats.{columns_of}
use Rattle.rows_format.specs.Columns.{well_formed_by}
use Rattle.rows_read.proofs.wellformed.cells_formed.Given as goal

abbrev pub invariant-loop-column : goal.invariant-loop-column
invariant-loop-column l = well_formed_by (drop l.column-index l.column-items) l.row ≡ well_formed_by (columns_of l.fn.format) l.row
