use Rattle.sheet_write.proofs.Rows.{field_of_row}
use Rattle.prelude.specs.WrittenLaws.{Writing}
use Rattle.schema.specs.Store.{table_in}
use Rattle.sheet_write.proofs.put_row_fields.Given as goal

abbrev pub invariant-loop-k : goal.invariant-loop-k
invariant-loop-k l = Writing (field_of_row l.table (table_in l.table l.store)) l.k-end l.at l.initial.out l.out l.next l.k
