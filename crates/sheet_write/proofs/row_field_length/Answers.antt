use native.Mathlib.Omega.{arith}
use Rattle.rows_format.proofs.ShortLaws.{written_short}
use Rattle.rows_format.specs.declared.format.Format.TheVariants.{Row}
use Rattle.sheet_write.proofs.Rows.{row_columns, row_field_length}
use Rattle.sheet_write.proofs.row_field_length.Goals as goal

pub row_length-requires : goal.row_length-requires
row_length-requires c =
    row_columns c.args.table c.args.row.now c.requires

pub overflow_add-result : goal.overflow_add-result
overflow_add-result c =
    omega (arith, c.row_length.ensures, written_short (Row c.args.table) c.args.row.now)

pub returns : goal.returns
returns c =
    omega (arith, c.row_length.ensures, row_field_length c.args.table c.args.row.now)
