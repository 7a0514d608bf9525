use Rattle.sheet_write.proofs.Rows.{field_of_row}
use Rattle.prelude.specs.Concat.{concat_below}
use Rattle.schema.specs.Store.{table_in}
use lib.ListN.{length}
use mathlib.Core.Path.{◌≡◌}
use Rattle.sheet_write.proofs.row_fields_length.Given as goal

abbrev pub invariant-loop-k : goal.invariant-loop-k
invariant-loop-k l = l.total ≡ length (concat_below l.k (field_of_row l.table (table_in l.table l.store)))
