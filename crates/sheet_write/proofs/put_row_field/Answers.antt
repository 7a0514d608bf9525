use native.Mathlib.Omega.{arith}
use Rattle.rows_format.proofs.ShortLaws.{written_short}
use Rattle.rows_format.specs.declared.format.Format.TheVariants.{Row}
use Rattle.sheet_write.proofs.Rows.{row_columns, row_field_length, row_put}
use Rattle.sheet_write.proofs.put_row_field.Goals as goal

pub row_length-n-requires : goal.row_length-n-requires
row_length-n-requires c =
    row_columns c.args.table c.args.row.now c.requires.0

pub overflow_cast-n : goal.overflow_cast-n
overflow_cast-n c =
    omega
    (arith, c.row_length-n.ensures, written_short (Row c.args.table) c.args.row.now)

pub write_header-requires : goal.write_header-requires
write_header-requires c =
    omega
    (arith, c.requires.1, row_field_length c.args.table c.args.row.now)

pub write_row-requires : goal.write_row-requires
write_row-requires c =
    let table = c.args.table in
    let row = c.args.row.now in
    let p = row_columns table row c.requires.0 in (p.0, p.1, omega (arith, c.requires.1, row_field_length table row))

pub returns : goal.returns
returns c =
    let table = c.args.table in
    let row = c.args.row.now in
    row_put table c.args.at
    c.row_length-n.result c.row_tag.result c.write_row.result row c.args.out.now _ _ c.row_length-n.ensures
    c.row_tag.ensures (omega (arith, c.requires.1, row_field_length table row)) c.write_header.ensures
    (record { place = c.write_row.ensures.0; bytes = c.write_row.ensures.1 })
